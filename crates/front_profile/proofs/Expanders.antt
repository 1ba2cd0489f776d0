-- The program of a call of a macro is whole.
use Rattle.std.proofs.Common.{◌≡◌, ◌+◌, ◌<◌, ◌≤◌, ◌∙◌, ℕ, zero, suc, max, nat_le, Bool, true, false, ◌&&◌, List, [], ◌∷◌, ◌++◌, length, Option, Some, None, slice_get, refl, sym, ap, subst, arith, append-nil, length-append}
use Rattle.std.specs.List.{list_all}
use Rattle.std.proofs.lemmas.Bool.{and_parts, and_from, le-leb}
use Rattle.base.specs.Data.{Item, item, integer, character, symbol, string, vector, nil, list, Items, no_item, item_and}
use Rattle.base.specs.DataFormed.{is_formed, is_formed_inside, all_are_formed, is_formed_tail, formed_tells}
use Rattle.base.specs.WellFormedData.{WellFormed}
use Rattle.lang_meaning.specs.declared.program.LiteralRow.{LiteralRow}
use Rattle.lang_meaning.specs.declared.program.LiteralRow.TheVariants as row
use Rattle.lang_meaning.specs.declared.program.Procedure.{Procedure}
use Rattle.lang_meaning.specs.Form.{Form, literal, apply}
use Rattle.lang_meaning.specs.Cells.{program_cells}
use Rattle.lang_meaning.specs.Counts.{depth}
use Rattle.lang_meaning.specs.Fits.{fits}
use Rattle.lang_meaning.specs.ProgramCounts.{program_nodes}
use Rattle.lang_meaning.specs.Signals.{variables}
use Rattle.lang_meaning.specs.Standing.{alone, with_bound, stands, is_alone}
use Rattle.lang_meaning.specs.Facts.{body_fits, is_whole}
use Rattle.lang_meaning.specs.bridge.Judged.{fits_folded, stands_folded}
use Rattle.front_profile.specs.declared.tables.MacroRow.{MacroRow}
use Rattle.front_profile.specs.declared.tables.Tables.{Tables}
use Rattle.front_profile.specs.Between.{TopLevelTables}
use Rattle.front_profile.specs.Definitions.{Definitions, rows_of, Later, procedure_fits, macro_stands, main_fits, SoundDefinitions, WholeDefinitions}
use Rattle.front_profile.specs.Expanders.{tables_before, definitions, list_of, arguments, procedure_of, expander, function_of_procedure, expander_form, program_of}
use Rattle.front_profile.specs.Right.{RightIn}
use Rattle.front_profile.proofs.Definitions.{Entered, entered_literal, body_fits_later, main_fits_later, literals_later, procedures_later, own_later, generics_later, functions_later, macros_later, each_stands_same}
use Rattle.front_profile.proofs.Forms.{depth_folded, right_whole}
use Rattle.front_profile.proofs.MadeForms.{made_literal}
use Rattle.front_profile.proofs.Programs.{rows_whole, sites_within}

-- the list of arguments is in form

rest_formed : (ds : Items) → all_are_formed ds ≡ true → is_formed_inside (list_of ds) ≡ true
rest_formed no_item h = refl
rest_formed (item_and d ds) h = and_from _ _ h refl

pub arguments_formed : (d : Item) → is_formed d ≡ true → is_formed (arguments d) ≡ true
arguments_formed (item p (list no_item t)) h = refl
arguments_formed (item p (list (item_and e ds) t)) h =
    let items : ((is_formed e && all_are_formed ds) ≡ true) × (is_formed_tail t ≡ true) = and_parts (is_formed e && all_are_formed ds) (is_formed_tail t) h in
    let rest : (is_formed e ≡ true) × (all_are_formed ds ≡ true) = and_parts (is_formed e) (all_are_formed ds) items.0 in
    rest_formed ds rest.1
arguments_formed (item p (integer n)) h = refl
arguments_formed (item p (character c)) h = refl
arguments_formed (item p (symbol x)) h = refl
arguments_formed (item p (string bytes)) h = refl
arguments_formed (item p (vector ds)) h = refl
arguments_formed (item p nil) h = refl

-- what holds of all items of a list holds of the item at a place
holds_at : {X : Type 0} (p : X → Bool) (xs : List X) (i : ℕ) (x : X) → list_all p xs ≡ true → slice_get xs i ≡ Some x → p x ≡ true
holds_at p [] i x h e = absurd (cc e)
holds_at p (y ∷ ys) zero x h e =
    let k : (p y ≡ true) × (list_all p ys ≡ true) = and_parts (p y) (list_all p ys) h in
    let same : y ≡ x = cc e in
    ap p (sym same) ∙ k.0
holds_at p (y ∷ ys) (suc i) x h e = holds_at p ys i x (and_parts (p y) (list_all p ys) h).1 e

-- a procedure that fits and stands alone is a function that fits, and stands where nothing is bound

function_right : (g : Definitions) (p : Procedure) (n : ℕ) → n + 1 ≤ 1000 → body_fits (rows_of g) p.body ≡ true → is_alone false (Some p) ≡ true
    → RightIn g (alone [] false) n (function_of_procedure (Some p))
function_right g p n l fit stand =
    let f : Form = function_of_procedure (Some p) in
    let body : (fits (rows_of g) p.body ≡ true) × (nat_le (depth p.body) 1000 ≡ true) = and_parts _ _ fit in
    let inside : stands (with_bound (variables p) (alone [] false)) p.body ≡ true =
    subst (λ vs. stands (alone vs false) p.body ≡ true) (sym (append-nil (variables p))) stand in
    record {
      stands = stands_folded (alone [] false) f ∙ and_from _ _ refl (and_from _ _ inside refl);
      fits = fits_folded (rows_of g) f ∙ and_from _ _ (and_from _ _ body.1 refl) (and_from _ _ body.0 refl);
      deep = shallow (depth f) n l (depth_folded f);
    }
  where
    shallow : (d n : ℕ) → n + 1 ≤ 1000 → d ≡ max 0 0 + 1 → d + n ≤ 1000
    shallow d n l e = omega (arith, l, e)

-- the form of the program is right
form_right : (g : Definitions) (p : Procedure) (i : ℕ) → i < length g.literals → body_fits (rows_of g) p.body ≡ true → is_alone false (Some p) ≡ true
    → RightIn g (alone [] false) 0 (apply (function_of_procedure (Some p)) (literal i))
form_right g p i l fit stand =
    right_whole g (alone [] false) 0 (apply (function_of_procedure (Some p)) (literal i)) refl refl (omega arith) refl refl
    (function_right g p 1 (omega arith) fit stand, (made_literal g (alone [] false) 1 i (omega arith) l, tt)) tt

-- definitions with the list of arguments, and with one main form

abbrev with_row : Definitions → LiteralRow → Definitions
with_row g x = record g { literals = g.literals ++ x ∷ [] }

abbrev with_mains : Definitions → List Form → Definitions
with_mains g fs = record g { main = fs }

later_mains : (g : Definitions) (fs : List Form) → Later g (with_mains g fs)
later_mains g fs = record {
  literals = omega arith;
  procedures = omega arith;
  kept = λ i q e. e;
  classes = omega arith;
  generics = omega arith;
  sites = omega arith;
  variables = omega arith;
  exits = omega arith;
}

mains_whole : (g : Definitions) (f : Form) → WholeDefinitions g → main_fits g f ≡ true → WholeDefinitions (with_mains g (f ∷ []))
mains_whole g f w e =
    let h : Definitions = with_mains g (f ∷ []) in
    let l : Later g h = later_mains g (f ∷ []) in
    record {
      sound = record {
        literals = literals_later g h l g.literals w.sound.literals;
        procedures = procedures_later g h l g.procedures w.sound.procedures;
        classes = record { hierarchy = w.sound.classes.hierarchy; slots = own_later g h l g.classes.own w.sound.classes.slots };
        generics = record { fit = generics_later g h l g.generics w.sound.generics.fit; names = w.sound.generics.names; named = w.sound.generics.named };
        functions = functions_later g h l g.functions w.sound.functions;
        names = w.sound.names;
        macros = macros_later g h l g.macros w.sound.macros;
        main = and_from _ _ (main_fits_later g h l f e) refl;
      };
      procedures = each_stands_same g h (record { procedures = refl; classes = refl; generics = refl; functions = refl; macros = refl }) w.procedures;
    }

-- the expander of a macro that is there

there_is : (xs : List MacroRow) (i : ℕ) → i < length xs → slice_get xs i ≡ None → ⊥
there_is [] i l e = omega (arith, l)
there_is (x ∷ xs) zero l e = cc e
there_is (x ∷ xs) (suc i) l e = there_is xs i (omega (arith, l)) e

record HasProcedure (s : Tables) (m : ℕ) : Type 0 where
  procedure : Procedure
  is : expander s m ≡ Some procedure
  fits : body_fits (rows_of (definitions s)) procedure.body ≡ true
  alone : is_alone false (Some procedure) ≡ true

has_procedure : (s : Tables) (m : ℕ) → SoundDefinitions (definitions s) → m < length (tables_before s).macros → HasProcedure s m
has_procedure s m w l = by_row (slice_get (tables_before s).macros m) refl
  where
    by_procedure : (r : MacroRow) (o : Option Procedure) → slice_get (tables_before s).macros m ≡ Some r → slice_get (tables_before s).procedures r.procedure ≡ o
        → is_alone false o ≡ true → HasProcedure s m
    by_procedure r None e f a = absurd (cc a)
    by_procedure r (Some p) e f a = record {
      procedure = p;
      is = ap (procedure_of (tables_before s).procedures) e ∙ f;
      fits = (and_parts _ _ (holds_at (procedure_fits (definitions s)) (tables_before s).procedures r.procedure p w.procedures f)).0;
      alone = a;
    }

    by_row : (o : Option MacroRow) → slice_get (tables_before s).macros m ≡ o → HasProcedure s m
    by_row None e = absurd (there_is (tables_before s).macros m l e)
    by_row (Some r) e =
        by_procedure r (slice_get (tables_before s).procedures r.procedure) e refl
        (holds_at (macro_stands (definitions s)) (tables_before s).macros m r w.macros e)

-- **the program of a call is whole**
pub expanders_whole : (s : Tables) (m : ℕ) (d : Item) (n : ℕ) → TopLevelTables (tables_before s) → program_nodes (rows_of (definitions s)) ≤ 100000
    → program_cells (rows_of (definitions s)) ≤ 262144 → m < length (tables_before s).macros → WellFormed n d → program_nodes (program_of s m d) ≤ 100000
    → is_whole (program_of s m d) ≡ true
expanders_whole s m d n w few cells l good small =
    let g : Definitions = definitions s in
    let x : LiteralRow = row.Datum (arguments d) in
    let k : Definitions = with_row g x in
    let e : Entered g k = entered_literal g x w.whole.sound (arguments_formed d (formed_tells d good.formed)) in
    let p : HasProcedure s m = has_procedure s m w.whole.sound l in
    let f : Form = expander_form s m in
    let right : RightIn k (alone [] false) 0 (apply (function_of_procedure (Some p.procedure)) (literal (length g.literals))) =
    form_right k p.procedure (length g.literals) (omega (arith, length-append g.literals (x ∷ []))) (body_fits_later g k e.later p.procedure.body p.fits) p.alone in
    let form : RightIn k (alone [] false) 0 f =
    subst (λ o. RightIn k (alone [] false) 0 (apply (function_of_procedure o) (literal (length g.literals)))) (sym p.is) right in
    let main : main_fits k f ≡ true = and_from _ _ (and_from _ _ form.fits (le-leb (depth f) 1000 (omega (arith, form.deep)))) form.stands in
    let whole : WholeDefinitions (with_mains k (f ∷ [])) =
    mains_whole k f (record { sound = e.whole; procedures = each_stands_same g k e.same w.whole.procedures }) main in
    rows_whole (with_mains k (f ∷ [])) whole w.classes (sites_within g w.sites few) small cells
