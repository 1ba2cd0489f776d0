-- Methods that fit suit the tables behind their functions.
use Rattle.std.proofs.Common.{◌+◌, ◌≡◌, ◌<◌, ℕ, Bool, true, false, not, nat_lt, List, [], ◌∷◌, ◌++◌, length, slice_get, is_some, Some, refl, sym, ap, subst, ◌∙◌, append-nil}
use Rattle.std.specs.List.{list_all, list_any}
use Rattle.std.proofs.lemmas.Bool.{and_parts, and_from, eq-eqb}
use Rattle.std.proofs.lemmas.Option.{slice_get_within}
use Rattle.base.specs.declared.datum.Name.{Name}
use Rattle.base.specs.Names.{slice_get-behind}
use Rattle.lang_meaning.specs.declared.program.GenericRow.{GenericRow}
use Rattle.lang_meaning.specs.declared.program.FunctionRow.{FunctionRow}
use Rattle.lang_classes.specs.InheritedClasses.{Hierarchy}
use Rattle.lang_dispatch.specs.Methods.{same_truth}
use Rattle.front_profile.specs.declared.tables.Tables.{Tables}
use Rattle.front_profile.specs.declared.parameters.Parameters.{Parameters}
use Rattle.front_profile.specs.declared.elaboration.MethodHead.{MethodHead}
use Rattle.front_profile.specs.declared.elaboration.Taker.TheVariants.{New, There}
use Rattle.front_profile.specs.Elaborations.{with_generic, with_method_at, with_methods}
use Rattle.front_profile.specs.DefiningRows.{is_that, has_function}
use Rattle.front_profile.specs.MethodShapes.{WrittenMethod}
use Rattle.front_profile.specs.GenericRows.{fits, heads_of, method_parts, written_head, written_heads, with_head, all_fit, generic_row, each_method, all_heads}
use Rattle.front_profile.specs.Suits.{takes_head, SuitsHead, SuitsHeads, SuitsMethods}
use Rattle.front_profile.specs.Below.{SameNames}
use Rattle.front_profile.specs.Known.{KnownTables}
use Rattle.front_profile.proofs.DefiningRows.{no_function}
use Rattle.front_profile.proofs.Adding.{new_row, plus_method, method_of, tables_with, get_with}
use Rattle.front_profile.proofs.MethodViews.{AllRight, each_front, each_behind, MethodView, method_view}
use Rattle.front_profile.proofs.Methods.{SameGeneric, alike_same, alike_more, FitsRow, fits_row}
use Rattle.front_profile.proofs.GenericRows.{some_qualifier}
use Rattle.front_profile.proofs.Known.{known_same, name_suits, known_generic, known_method}

-- a truth is the same as itself
pub same_as_itself : (b : Bool) → same_truth b b ≡ true
same_as_itself true = refl
same_as_itself false = refl

-- the generic function of that number takes the methods one after another, and what is known stays so
heads_suit : (s : Tables) (n : Name) (i : ℕ) (ms : List WrittenMethod) (x y : GenericRow) (t : Tables) (p : ℕ) → 0 < length s.classes.rows → KnownTables t → t.classes ≡ s.classes
    → slice_get t.generics i ≡ Some y → SameGeneric x y → all_fit s (Some x) ms ≡ true → AllRight (each_method s n ms)
    → SuitsHeads i (all_heads s ms) p t × KnownTables (with_methods i (all_heads s ms) p t)
heads_suit s n i [] x y t p l w c g a f r = (tt, w)
heads_suit s n i (m ∷ ms) x y t p l w c g a f r =
    let e : (fits s (Some x) m ≡ true) × (all_fit s (with_head (Some x) (written_head s m)) ms ≡ true) = and_parts _ _ f in
    let v : MethodView s n m = method_view s n m (some_qualifier x s m e.0) l (each_front _ (method_parts s n m) (each_method s n ms) r) in
    let h : MethodHead = record { qualifier = v.qualifier; classes = v.classes } in
    let k : FitsRow x s n m v = fits_row x s n m v e.0 in
    let one : SuitsHead i h p t = record {
      there = slice_get_within t.generics i y g;
      takes = ap (takes_head h p) g
          ∙ and_from _ _ (and_from _ _ (eq-eqb (length v.classes) y.required (v.count ∙ k.count ∙ sym a.required)) (same_as_itself y.rest))
          (ap not (a.same (method_of h p) ∙ k.other));
    } in
    let u : Tables = with_method_at i h p t in
    let known : KnownTables u = known_method t i h p w (ap (λ (k : Hierarchy). list_all (λ d. nat_lt d (length k.rows)) v.classes) c ∙ v.in_range) in
    let there : slice_get u.generics i ≡ Some (plus_method y (method_of h p)) =
    ap (λ gs. slice_get gs i) (tables_with t t.generics i h p) ∙ get_with t.generics i (method_of h p) y g in
    let rest : SuitsHeads i (all_heads s ms) (p + 1) u × KnownTables (with_methods i (all_heads s ms) (p + 1) u) =
    heads_suit s n i ms (plus_method x (method_of h 0)) (plus_method y (method_of h p)) u (p + 1) l known c there (alike_more x y h p a)
    (ap (λ o. all_fit s (with_head (Some x) o) ms) (sym v.head) ∙ e.1) (each_behind _ (method_parts s n m) (each_method s n ms) r) in
    subst (λ (hs : List MethodHead). SuitsHeads i (hs ++ all_heads s ms) p t × KnownTables (with_methods i (hs ++ all_heads s ms) p t)) (sym (ap heads_of v.head))
    ((one, rest.0), rest.1)

-- a new generic function with its methods
pub new_suits : (s : Tables) (n : Name) (ps : Parameters) (ms : List WrittenMethod) (p : ℕ) (of_file : Bool) (u : Tables) → KnownTables s → SameNames s u → has_function s n ≡ false
    → all_fit s (generic_row n (Some ps)) ms ≡ true → AllRight (each_method s n ms)
    → SuitsMethods (New n (length ps.required) (is_some ps.rest)) (all_heads s ms) p of_file u
    × KnownTables (with_methods (length u.generics) (all_heads s ms) p (with_generic n (length ps.required) (is_some ps.rest) of_file u))
new_suits s n ps ms p of_file u w e fresh f r =
    let x : GenericRow = new_row n (length ps.required) (is_some ps.rest) in
    let t : Tables = with_generic n (length ps.required) (is_some ps.rest) of_file u in
    let known : KnownTables u = known_same s u e w in
    let new : list_any (λ (f : FunctionRow). is_that n f.name) u.functions ≡ false =
    ap (λ fs. list_any (λ (f : FunctionRow). is_that n f.name) fs) e.functions ∙ no_function s n fresh in
    let rest : SuitsHeads (length u.generics) (all_heads s ms) p t × KnownTables (with_methods (length u.generics) (all_heads s ms) p t) =
    heads_suit s n (length u.generics) ms x x t p w.some (known_generic u n (length ps.required) (is_some ps.rest) of_file known) e.classes
    (slice_get-behind u.generics x) (alike_same x) f r in
    ((name_suits u n known new, rest.0), rest.1)

-- a method of a generic function that is there
pub there_suits : (s : Tables) (n : Name) (i : ℕ) (m : WrittenMethod) (x : GenericRow) (p : ℕ) (of_file : Bool) (u : Tables) → KnownTables s → SameNames s u
    → slice_get s.generics i ≡ Some x → fits s (Some x) m ≡ true → AllRight (method_parts s n m)
    → SuitsMethods (There i) (written_heads s m) p of_file u × KnownTables (with_methods i (written_heads s m) p u)
there_suits s n i m x p of_file u w e g f r =
    let here : slice_get u.generics i ≡ Some x = ap (λ gs. slice_get gs i) e.generics ∙ g in
    let all : SuitsHeads i (all_heads s (m ∷ [])) p u × KnownTables (with_methods i (all_heads s (m ∷ [])) p u) =
    heads_suit s n i (m ∷ []) x x u p w.some (known_same s u e w) e.classes here (alike_same x) (and_from _ _ f refl) (subst AllRight (sym (append-nil (method_parts s n m))) r) in
    let alone : SuitsHeads i (written_heads s m) p u × KnownTables (with_methods i (written_heads s m) p u) =
    subst (λ (hs : List MethodHead). SuitsHeads i hs p u × KnownTables (with_methods i hs p u)) (append-nil (written_heads s m)) all in
    ((slice_get_within u.generics i x here, alone.0), alone.1)
