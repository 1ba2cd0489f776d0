-- Tables that stay sound: with a literal, a site, an exit or a variable more.
use Rattle.std.proofs.Common.{◌+◌, ◌==◌, ◌≡◌, ◌≤◌, ◌<◌, ℕ, nat_le, nat_lt, Bool, true, false, ◌&&◌, ◌||◌, List, [], ◌∷◌, ◌++◌, length, slice_get, Option, Some, None, refl, sym, ap, subst, ◌∙◌, arith}
use Rattle.std.specs.List.{list_all, list_any}
use Rattle.std.proofs.lemmas.List.{length-append}
use Rattle.std.proofs.lemmas.Bool.{and_parts, and_from, ltb-true, lt-ltb}
use Rattle.base.specs.declared.place.Place.{Place}
use Rattle.lang_meaning.specs.declared.program.LiteralRow.{LiteralRow}
use Rattle.lang_meaning.specs.declared.program.LiteralRow.TheVariants as row
use Rattle.lang_meaning.specs.declared.program.Procedure.{Procedure}
use Rattle.lang_meaning.specs.declared.program.SlotRow.{SlotRow}
use Rattle.lang_meaning.specs.declared.program.GenericRow.{GenericRow}
use Rattle.lang_meaning.specs.declared.program.MethodRow.{MethodRow}
use Rattle.lang_meaning.specs.declared.program.FunctionRow.{FunctionRow}
use Rattle.lang_meaning.specs.declared.program.Callee.{Callee}
use Rattle.lang_meaning.specs.declared.program.Callee.TheVariants as callee
use Rattle.lang_meaning.specs.declared.program.ProgramRows.{ProgramRows}
use Rattle.lang_meaning.specs.Form.{Form}
use Rattle.lang_meaning.specs.Counts.{depth}
use Rattle.lang_meaning.specs.Fits.{fits}
use Rattle.lang_meaning.specs.Lookup.{all_differ}
use Rattle.lang_meaning.specs.Standing.{stands_alone, is_alone}
use Rattle.lang_meaning.specs.Facts.{body_fits, literal_fits, initform_fits, is_congruent, knows_next, method_fits, same_method, generic_fits, callee_fits, same_name}
use Rattle.lang_classes.specs.InheritedClasses.{Hierarchy, IsHierarchy}
use Rattle.front_profile.specs.declared.tables.MacroRow.{MacroRow}
use Rattle.front_profile.specs.Definitions.{Definitions, rows_of, Later, Undefined, procedure_fits, takes_nothing, initform_takes_nothing, slot_fits, has_function, same_generic, macro_stands, main_fits, WholeClasses, WholeGenerics, SoundDefinitions, EachStands}
use Rattle.front_profile.specs.Right.{Behind, NodesCounted}
use Rattle.front_profile.proofs.Tests.{all_more}
use Rattle.front_profile.proofs.Forms.{fits_later}

pub later_same : (g : Definitions) → Later g g
later_same g = record {
  literals = omega arith;
  procedures = omega arith;
  kept = λ i p e. e;
  classes = omega arith;
  generics = omega arith;
  sites = omega arith;
  variables = omega arith;
  exits = omega arith;
}

pub later_then : (g h k : Definitions) → Later g h → Later h k → Later g k
later_then g h k l m = record {
  literals = omega (arith, l.literals, m.literals);
  procedures = omega (arith, l.procedures, m.procedures);
  kept = λ i p e. m.kept i p (l.kept i p e);
  classes = omega (arith, l.classes, m.classes);
  generics = omega (arith, l.generics, m.generics);
  sites = omega (arith, l.sites, m.sites);
  variables = omega (arith, l.variables, m.variables);
  exits = omega (arith, l.exits, m.exits);
}

pub undefined_same : (g : Definitions) → Undefined g g
undefined_same g = record { procedures = refl; classes = refl; generics = refl; functions = refl; macros = refl }

pub undefined_then : (g h k : Definitions) → Undefined g h → Undefined h k → Undefined g k
undefined_then g h k u v = record {
  procedures = v.procedures ∙ u.procedures;
  classes = v.classes ∙ u.classes;
  generics = v.generics ∙ u.generics;
  functions = v.functions ∙ u.functions;
  macros = v.macros ∙ u.macros;
}

-- rows fit later too

below_later : (i m n : ℕ) → m ≤ n → nat_lt i m ≡ true → nat_lt i n ≡ true
below_later i m n l h = let e : i < m = ltb-true i m h in lt-ltb i n (omega arith)

literal_fits_later : (r q : ProgramRows) → length r.classes ≤ length q.classes → (x : LiteralRow) → literal_fits r x ≡ true → literal_fits q x ≡ true
literal_fits_later r q l (row.Datum d) h = h
literal_fits_later r q l (row.Class c) h = below_later c (length r.classes) (length q.classes) l h
literal_fits_later r q l (row.Function n) h = h

pub body_fits_later : (g h : Definitions) → Later g h → (f : Form) → body_fits (rows_of g) f ≡ true → body_fits (rows_of h) f ≡ true
body_fits_later g h l f e =
    let k : (fits (rows_of g) f ≡ true) × (nat_le (depth f) 1000 ≡ true) = and_parts _ _ e in
    and_from _ _ (fits_later (rows_of g) (rows_of h) l.literals l.sites f k.0) k.1

pub procedure_fits_later : (g h : Definitions) → Later g h → (p : Procedure) → procedure_fits g p ≡ true → procedure_fits h p ≡ true
procedure_fits_later g h l p e =
    let k : (body_fits (rows_of g) p.body ≡ true) × (is_alone true (Some p) ≡ true) = and_parts _ _ e in
    and_from _ _ (body_fits_later g h l p.body k.0) k.1

-- what is asked of a procedure that is there holds later too
pub asked_later : (g h : Definitions) → Later g h → (ask : Option Procedure → Bool) → ask None ≡ false → (i : ℕ) → ask (slice_get g.procedures i) ≡ true
    → ask (slice_get h.procedures i) ≡ true
asked_later g h l ask none i e = by_procedure (slice_get g.procedures i) refl e
  where
    by_procedure : (o : Option Procedure) → slice_get g.procedures i ≡ o → ask o ≡ true → ask (slice_get h.procedures i) ≡ true
    by_procedure None k a = absurd (cc (none, a))
    by_procedure (Some p) k a = ap ask (l.kept i p k) ∙ a

pub slot_fits_later : (g h : Definitions) → Later g h → (s : SlotRow) → slot_fits g s ≡ true → slot_fits h s ≡ true
slot_fits_later g h l s e =
    let k : (initform_fits (rows_of g) s.initform ≡ true) × (initform_takes_nothing g.procedures s.initform ≡ true) = and_parts _ _ e in
    by_initform s.initform k.0 k.1
  where
    by_initform : (o : Option ℕ) → initform_fits (rows_of g) o ≡ true → initform_takes_nothing g.procedures o ≡ true
        → (initform_fits (rows_of h) o && initform_takes_nothing h.procedures o) ≡ true
    by_initform None a b = refl
    by_initform (Some i) a b = and_from _ _ (asked_later g h l (is_alone false) refl i a) (asked_later g h l takes_nothing refl i b)

pub own_fits_later : (g h : Definitions) → Later g h → (slots : List SlotRow) → list_all (slot_fits g) slots ≡ true → list_all (slot_fits h) slots ≡ true
own_fits_later g h l slots e = all_more (slot_fits g) (slot_fits h) (slot_fits_later g h l) slots e

-- what a method has to be

pub record MethodParts (r : ProgramRows) (g : GenericRow) (m : MethodRow) : Type 0 where
  pub count : (length m.classes == g.required) ≡ true
  pub in_range : list_all (λ c. nat_lt c (length r.classes)) m.classes ≡ true
  pub congruent : is_congruent g (slice_get r.procedures m.procedure) ≡ true
  pub alone : is_alone (knows_next m.qualifier) (slice_get r.procedures m.procedure) ≡ true

pub method_parts : (r : ProgramRows) (g : GenericRow) (m : MethodRow) → method_fits r g m ≡ true → MethodParts r g m
method_parts r g m e =
    let count : Bool = length m.classes == g.required in
    let range : Bool = list_all (λ c. nat_lt c (length r.classes)) m.classes in
    let congruent : Bool = is_congruent g (slice_get r.procedures m.procedure) in
    let a : ((count && range && congruent) ≡ true) × (is_alone (knows_next m.qualifier) (slice_get r.procedures m.procedure) ≡ true) = and_parts _ _ e in
    let b : ((count && range) ≡ true) × (congruent ≡ true) = and_parts _ _ a.0 in
    let c : (count ≡ true) × (range ≡ true) = and_parts _ _ b.0 in
    record { count = c.0; in_range = c.1; congruent = b.1; alone = a.1 }

pub method_from : (r : ProgramRows) (g : GenericRow) (m : MethodRow) → MethodParts r g m → method_fits r g m ≡ true
method_from r g m p = and_from _ _ (and_from _ _ (and_from _ _ p.count p.in_range) p.congruent) p.alone

method_fits_later : (g h : Definitions) → Later g h → (x : GenericRow) (m : MethodRow) → method_fits (rows_of g) x m ≡ true → method_fits (rows_of h) x m ≡ true
method_fits_later g h l x m e =
    let p : MethodParts (rows_of g) x m = method_parts (rows_of g) x m e in
    method_from (rows_of h) x m (record {
      count = p.count;
      in_range = all_more (λ c. nat_lt c (length g.classes.rows)) (λ c. nat_lt c (length h.classes.rows))
          (λ c k. below_later c (length g.classes.rows) (length h.classes.rows) l.classes k) m.classes p.in_range;
      congruent = asked_later g h l (is_congruent x) refl m.procedure p.congruent;
      alone = asked_later g h l (is_alone (knows_next m.qualifier)) refl m.procedure p.alone;
    })

generic_fits_later : (g h : Definitions) → Later g h → (x : GenericRow) → generic_fits (rows_of g) x ≡ true → generic_fits (rows_of h) x ≡ true
generic_fits_later g h l x e =
    let k : (list_all (method_fits (rows_of g) x) x.methods ≡ true) × (all_differ same_method x.methods ≡ true) = and_parts _ _ e in
    and_from _ _ (all_more (method_fits (rows_of g) x) (method_fits (rows_of h) x) (method_fits_later g h l x) x.methods k.0) k.1

pub callee_fits_later : (g h : Definitions) → Later g h → (c : Callee) → callee_fits (rows_of g) c ≡ true → callee_fits (rows_of h) c ≡ true
callee_fits_later g h l (callee.Procedure i) e = asked_later g h l (is_alone false) refl i e
callee_fits_later g h l (callee.Generic i) e = below_later i (length g.generics) (length h.generics) l.generics e

pub main_fits_later : (g h : Definitions) → Later g h → (f : Form) → main_fits g f ≡ true → main_fits h f ≡ true
main_fits_later g h l f e =
    let k : (body_fits (rows_of g) f ≡ true) × (stands_alone false f ≡ true) = and_parts _ _ e in
    and_from _ _ (body_fits_later g h l f k.0) k.1

-- what fits, in later tables

pub literals_later : (g h : Definitions) → Later g h → (xs : List LiteralRow) → list_all (literal_fits (rows_of g)) xs ≡ true → list_all (literal_fits (rows_of h)) xs ≡ true
literals_later g h l xs e = all_more (literal_fits (rows_of g)) (literal_fits (rows_of h)) (literal_fits_later (rows_of g) (rows_of h) l.classes) xs e

pub procedures_later : (g h : Definitions) → Later g h → (ps : List Procedure) → list_all (procedure_fits g) ps ≡ true → list_all (procedure_fits h) ps ≡ true
procedures_later g h l ps e = all_more (procedure_fits g) (procedure_fits h) (procedure_fits_later g h l) ps e

pub own_later : (g h : Definitions) → Later g h → (own : List (List SlotRow)) → list_all (λ slots. list_all (slot_fits g) slots) own ≡ true
    → list_all (λ slots. list_all (slot_fits h) slots) own ≡ true
own_later g h l own e = all_more (λ slots. list_all (slot_fits g) slots) (λ slots. list_all (slot_fits h) slots) (own_fits_later g h l) own e

pub generics_later : (g h : Definitions) → Later g h → (gs : List GenericRow) → list_all (generic_fits (rows_of g)) gs ≡ true → list_all (generic_fits (rows_of h)) gs ≡ true
generics_later g h l gs e = all_more (generic_fits (rows_of g)) (generic_fits (rows_of h)) (generic_fits_later g h l) gs e

pub functions_later : (g h : Definitions) → Later g h → (fs : List FunctionRow) → list_all (λ f. callee_fits (rows_of g) f.callee) fs ≡ true
    → list_all (λ f. callee_fits (rows_of h) f.callee) fs ≡ true
functions_later g h l fs e = all_more (λ f. callee_fits (rows_of g) f.callee) (λ f. callee_fits (rows_of h) f.callee) (λ f k. callee_fits_later g h l f.callee k) fs e

pub macros_later : (g h : Definitions) → Later g h → (ms : List MacroRow) → list_all (macro_stands g) ms ≡ true → list_all (macro_stands h) ms ≡ true
macros_later g h l ms e = all_more (macro_stands g) (macro_stands h) (λ m k. asked_later g h l (is_alone false) refl m.procedure k) ms e

pub mains_later : (g h : Definitions) → Later g h → (fs : List Form) → list_all (main_fits g) fs ≡ true → list_all (main_fits h) fs ≡ true
mains_later g h l fs e = all_more (main_fits g) (main_fits h) (main_fits_later g h l) fs e

classes_later : (g h : Definitions) → Later g h → h.classes ≡ g.classes → WholeClasses g → WholeClasses h
classes_later g h l e w = record {
  hierarchy = subst IsHierarchy (sym e) w.hierarchy;
  slots = ap (λ (k : Hierarchy). list_all (λ slots. list_all (slot_fits h) slots) k.own) e ∙ own_later g h l g.classes.own w.slots;
}

whole_generics_later : (g h : Definitions) → Later g h → h.generics ≡ g.generics → h.functions ≡ g.functions → WholeGenerics g → WholeGenerics h
whole_generics_later g h l e f w = record {
  fit = ap (list_all (generic_fits (rows_of h))) e ∙ generics_later g h l g.generics w.fit;
  names = ap (all_differ same_generic) e ∙ w.names;
  named = ap (list_all (has_function h.functions)) e ∙ ap (λ fs. list_all (has_function fs) g.generics) f ∙ w.named;
}

-- tables with other literals, sites and numbers, and with more procedures
pub sound_later : (g h : Definitions) → Later g h → SoundDefinitions g → list_all (literal_fits (rows_of g)) h.literals ≡ true
    → list_all (procedure_fits g) h.procedures ≡ true → h.classes ≡ g.classes → h.generics ≡ g.generics → h.functions ≡ g.functions → h.macros ≡ g.macros → h.main ≡ g.main
    → SoundDefinitions h
sound_later g h l w e p k x f y m = record {
  literals = literals_later g h l h.literals e;
  procedures = procedures_later g h l h.procedures p;
  classes = classes_later g h l k w.classes;
  generics = whole_generics_later g h l x f w.generics;
  functions = ap (list_all (λ f. callee_fits (rows_of h) f.callee)) f ∙ functions_later g h l g.functions w.functions;
  names = ap (all_differ same_name) f ∙ w.names;
  macros = ap (list_all (macro_stands h)) y ∙ macros_later g h l g.macros w.macros;
  main = ap (list_all (main_fits h)) m ∙ mains_later g h l g.main w.main;
}

-- each procedure stands where the same is defined

pub each_stands_same : (g h : Definitions) → Undefined g h → EachStands g → EachStands h
each_stands_same g h u s = record {
  stands = λ i p e.
      ap (λ gs. list_any (λ x. list_any (λ m. i == m.procedure) x.methods) gs || is_alone false (Some p)) u.generics
      ∙ s.stands i p (ap (λ ps. slice_get ps i) (sym u.procedures) ∙ e);
}

-- what judging enters with: sound tables in which nothing more is defined
pub record Entered (g h : Definitions) : Type 0 where
  pub whole : SoundDefinitions h
  pub later : Later g h
  pub main : h.main ≡ g.main
  pub same : Undefined g h

pub entered_same : (g : Definitions) → SoundDefinitions g → Entered g g
entered_same g w = record { whole = w; later = later_same g; main = refl; same = undefined_same g }

pub entered_then : (g h k : Definitions) → Entered g h → Entered h k → Entered g k
entered_then g h k e f = record {
  whole = f.whole;
  later = later_then g h k e.later f.later;
  main = f.main ∙ e.main;
  same = undefined_then g h k e.same f.same;
}

pub all_push : {X : Type 0} (p : X → Bool) (xs : List X) (x : X) → list_all p xs ≡ true → p x ≡ true → list_all p (xs ++ x ∷ []) ≡ true
all_push p [] x h k = and_from _ _ k refl
all_push p (y ∷ ys) x h k = let e : (p y ≡ true) × (list_all p ys ≡ true) = and_parts _ _ h in and_from _ _ e.0 (all_push p ys x e.1 k)

later_literal : (g : Definitions) (x : LiteralRow) → Later g (record g { literals = g.literals ++ x ∷ [] })
later_literal g x = record {
  literals = omega (arith, length-append g.literals (x ∷ []));
  procedures = omega arith;
  kept = λ i q e. e;
  classes = omega arith;
  generics = omega arith;
  sites = omega arith;
  variables = omega arith;
  exits = omega arith;
}

pub entered_literal : (g : Definitions) (x : LiteralRow) → SoundDefinitions g → literal_fits (rows_of g) x ≡ true → Entered g (record g { literals = g.literals ++ x ∷ [] })
entered_literal g x w h = record {
  whole = sound_later g (record g { literals = g.literals ++ x ∷ [] }) (later_literal g x) w (all_push (literal_fits (rows_of g)) g.literals x w.literals h) w.procedures refl refl refl refl refl;
  later = later_literal g x;
  main = refl;
  same = record { procedures = refl; classes = refl; generics = refl; functions = refl; macros = refl };
}

later_site : (g : Definitions) (p : Place) → Later g (record g { sites = g.sites ++ p ∷ [] })
later_site g p = record {
  literals = omega arith;
  procedures = omega arith;
  kept = λ i q e. e;
  classes = omega arith;
  generics = omega arith;
  sites = omega (arith, length-append g.sites (p ∷ []));
  variables = omega arith;
  exits = omega arith;
}

pub entered_site : (g : Definitions) (p : Place) → SoundDefinitions g → Entered g (record g { sites = g.sites ++ p ∷ [] })
entered_site g p w = record {
  whole = sound_later g (record g { sites = g.sites ++ p ∷ [] }) (later_site g p) w w.literals w.procedures refl refl refl refl refl;
  later = later_site g p;
  main = refl;
  same = record { procedures = refl; classes = refl; generics = refl; functions = refl; macros = refl };
}

later_numbers : (g : Definitions) (v e : ℕ) → g.variables ≤ v → g.exits ≤ e → Later g (record g { variables = v; exits = e })
later_numbers g v e l m = record {
  literals = omega arith;
  procedures = omega arith;
  kept = λ i q e. e;
  classes = omega arith;
  generics = omega arith;
  sites = omega arith;
  variables = omega (arith, l);
  exits = omega (arith, m);
}

pub entered_numbers : (g : Definitions) (v e : ℕ) → g.variables ≤ v → g.exits ≤ e → SoundDefinitions g → Entered g (record g { variables = v; exits = e })
entered_numbers g v e l m w = record {
  whole = sound_later g (record g { variables = v; exits = e }) (later_numbers g v e l m) w w.literals w.procedures refl refl refl refl refl;
  later = later_numbers g v e l m;
  main = refl;
  same = record { procedures = refl; classes = refl; generics = refl; functions = refl; macros = refl };
}

-- what stands behind a form
pub behind_entered : (top : Bool) (g h k : Definitions) → Entered g h → Behind top h k → Behind top g k
behind_entered top g h k e b = record {
  later = later_then g h k e.later b.later;
  sound = b.sound;
  stand = λ s. b.stand (each_stands_same g h e.same s);
  main = b.main ∙ e.main;
  inside = λ low. undefined_then g h k e.same (b.inside low);
}

-- sites and nodes

pub counted_same : (b : Bool) (g : Definitions) → NodesCounted b g g 0
counted_same true g = record { sites = omega arith }
counted_same false g = record { sites = omega arith }

pub counted_then : (b : Bool) (g h k : Definitions) (m n : ℕ) → NodesCounted b g h m → NodesCounted b h k n → NodesCounted b g k (m + n)
counted_then true g h k m n c d = record { sites = omega (arith, c.sites, d.sites) }
counted_then false g h k m n c d = record { sites = omega (arith, c.sites, d.sites) }

pub counted_more : (b : Bool) (g h : Definitions) (m n : ℕ) → m ≤ n → NodesCounted b g h m → NodesCounted b g h n
counted_more true g h m n l c = record { sites = omega (arith, l, c.sites) }
counted_more false g h m n l c = record { sites = c.sites }
