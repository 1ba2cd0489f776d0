-- Every name of a program is bound where it stands: what the test of a program says of each form inside its bodies.
use Rattle.std.proofs.Common.{◌≡◌, ℕ, suc, ◌+◌, ◌==◌, Bool, true, false, ◌&&◌, ◌||◌, List, [], ◌∷◌, ◌++◌, Option, Some, None, refl, sym, ap, subst, ◌∙◌, length, arith}
use Rattle.std.specs.Prelude.{slice_get, nat_lt, nat_le, map, flat_map}
use Rattle.std.specs.List.{list_all, list_any}
use Rattle.lang_meaning.specs.declared.program.Procedure.{Procedure}
use Rattle.lang_meaning.specs.declared.program.Callee.{Callee}
use Rattle.lang_meaning.specs.declared.program.Callee.TheVariants as callee
use Rattle.lang_meaning.specs.declared.program.ClassRow.{ClassRow}
use Rattle.lang_meaning.specs.declared.program.GenericRow.{GenericRow}
use Rattle.lang_meaning.specs.declared.program.MethodRow.{MethodRow}
use Rattle.lang_meaning.specs.declared.program.ProgramRows.{ProgramRows}
use Rattle.lang_meaning.specs.declared.scope.LexicalScope.{LexicalScope}
use Rattle.lang_meaning.specs.Form.{Form, lambda, parameters}
use Rattle.lang_meaning.specs.Subforms.{outer, inner}
use Rattle.lang_meaning.specs.bridge.Walks.{by_subforms}
use Rattle.lang_meaning.specs.bridge.Judged.{inside_folded, stands_folded}
use Rattle.lang_meaning.specs.Cells.{program_cells}
use Rattle.lang_meaning.specs.Lookup.{all_differ}
use Rattle.lang_meaning.specs.Mentions.{in_order}
use Rattle.lang_meaning.specs.Inside.{inside_form}
use Rattle.lang_meaning.specs.Signals.{variables}
use Rattle.lang_meaning.specs.Standing.{alone, is_bound, is_free, around_inner, stands_itself, stands, stands_alone, is_alone}
use Rattle.lang_meaning.specs.Facts.{body_fits, class_fits, initform_fits, knows_next, method_fits, same_method, generic_fits, callee_fits, is_of_method, procedures_stand, rows_fit, bodies_stand}
use Rattle.lang_meaning.specs.BoundNames.{StandsAsFunction, IsBoundIn, BodyIsBound, ProcedureIsBound, CalleeIsBound, InitformIsBound, LawOfNames}
use Rattle.std.proofs.lemmas.Bool.{eqb-true}
use Rattle.base.specs.AllOf.{AllOf}
use Rattle.lang_meaning.proofs.Bounds.{first_true, second_true}

-- of both lists
both : (xs ys : List Form) → AllOf StandsAsFunction xs → AllOf StandsAsFunction ys → AllOf StandsAsFunction (xs ++ ys)
both [] ys e f = f
both (x ∷ xs) ys e f = (e.0, both xs ys e.1 f)

-- each function inside a form that stands, as the induction has it
abbrev FunctionsStand : Form → Type 0
FunctionsStand f = (s : LexicalScope) → stands s f ≡ true → AllOf StandsAsFunction (inside_form f)

in_each : (s : LexicalScope) (xs : List Form) → AllOf FunctionsStand xs → list_all (stands s) xs ≡ true
    → AllOf StandsAsFunction (flat_map (λ fs. fs) (map inside_form xs))
in_each s [] e h = tt
in_each s (x ∷ xs) e h =
    both (inside_form x) (flat_map (λ fs. fs) (map inside_form xs))
    (e.0 s (first_true (stands s x) (list_all (stands s) xs) h))
    (in_each s xs e.1 (second_true (stands s x) (list_all (stands s) xs) h))

-- a form that is a function is one that stands
itself : (s : LexicalScope) (f : Form) → stands_itself s f ≡ true → list_all (stands (around_inner f s)) (inner f) ≡ true → StandsAsFunction f
itself s (lambda required rest body parts) h k = record {
  around = s;
  captured = second_true (in_order parts) (list_all (is_bound s) parts)
      (first_true (in_order parts && list_all (is_bound s) parts) (list_all (is_free (parameters required rest) body) parts) h);
  inside = first_true (stands (around_inner (lambda required rest body parts) s) body) true k;
}
itself s f h k = tt

one_step : (f : Form) → AllOf FunctionsStand (outer f) → AllOf FunctionsStand (inner f) → FunctionsStand f
one_step f os is s h =
    let here : (stands_itself s f && list_all (stands s) (outer f) && list_all (stands (around_inner f s)) (inner f)) ≡ true = sym (stands_folded s f) ∙ h in
    let around : (stands_itself s f && list_all (stands s) (outer f)) ≡ true = first_true _ (list_all (stands (around_inner f s)) (inner f)) here in
    let within : list_all (stands (around_inner f s)) (inner f) ≡ true = second_true (stands_itself s f && list_all (stands s) (outer f)) _ here in
    subst (AllOf StandsAsFunction) (sym (inside_folded f)) (
      itself s f (first_true (stands_itself s f) (list_all (stands s) (outer f)) around) within,
      both (flat_map (λ fs. fs) (map inside_form (outer f))) (flat_map (λ fs. fs) (map inside_form (inner f)))
          (in_each s (outer f) os (second_true (stands_itself s f) (list_all (stands s) (outer f)) around))
          (in_each (around_inner f s) (inner f) is within),
    )

inside : (s : LexicalScope) (f : Form) → stands s f ≡ true → AllOf StandsAsFunction (inside_form f)
inside s f h = by_subforms FunctionsStand one_step f s h

bound_in : (s : LexicalScope) (f : Form) → stands s f ≡ true → IsBoundIn s f
bound_in s f h = record { itself = h; functions = inside s f h }

-- what passes a test has what the test says
each : {X : Type 0} (P : X → Type 0) (p : X → Bool) → ((x : X) → p x ≡ true → P x) → (xs : List X) → list_all p xs ≡ true → AllOf P xs
each P p f [] h = tt
each P p f (x ∷ xs) h = (f x (first_true (p x) (list_all p xs) h), each P p f xs (second_true (p x) (list_all p xs) h))

procedure_bound : (in_method : Bool) (p : Option Procedure) → is_alone in_method p ≡ true → ProcedureIsBound in_method p
procedure_bound in_method None h = absurd (cc h)
procedure_bound in_method (Some p) h = bound_in (alone (variables p) in_method) p.body h

callee_bound : (rows : ProgramRows) (c : Callee) → callee_fits rows c ≡ true → CalleeIsBound rows c
callee_bound rows (callee.Procedure p) h = procedure_bound false (slice_get rows.procedures p) h
callee_bound rows (callee.Generic g) h = tt

initform_bound : (rows : ProgramRows) (p : Option ℕ) → initform_fits rows p ≡ true → InitformIsBound rows p
initform_bound rows None h = tt
initform_bound rows (Some p) h = procedure_bound false (slice_get rows.procedures p) h

slots_fit : (rows : ProgramRows) (c : ClassRow) → class_fits rows c ≡ true → list_all (λ s. initform_fits rows s.initform) c.slots ≡ true
slots_fit rows c h =
    second_true (list_all (λ d. nat_lt d (length rows.classes)) c.precedence) _ (first_true _ (nat_le (length c.slots) 64) h)

method_alone : (rows : ProgramRows) (g : GenericRow) (m : MethodRow) → method_fits rows g m ≡ true
    → is_alone (knows_next m.qualifier) (slice_get rows.procedures m.procedure) ≡ true
method_alone rows g m h = second_true _ (is_alone (knows_next m.qualifier) (slice_get rows.procedures m.procedure)) h

methods_fit : (rows : ProgramRows) (g : GenericRow) → generic_fits rows g ≡ true → list_all (method_fits rows g) g.methods ≡ true
methods_fit rows g h = first_true (list_all (method_fits rows g) g.methods) (all_differ same_method g.methods) h

either_true : {C : Type 0} (a b : Bool) → (a || b) ≡ true → (a ≡ true → C) → (b ≡ true → C) → C
either_true true b h f g = f refl
either_true false b h f g = g h

-- one that passes, where all pass another test
some_one : {X C : Type 0} (p q : X → Bool) (xs : List X) → list_any p xs ≡ true → list_all q xs ≡ true
    → ((x : X) → p x ≡ true → q x ≡ true → C) → C
some_one p q [] a b f = absurd (cc a)
some_one p q (x ∷ xs) a b f =
    either_true (p x) (list_any p xs) a
    (λ e. f x e (first_true (q x) (list_all q xs) b))
    (λ r. some_one p q xs r (second_true (q x) (list_all q xs) b) f)

-- the procedure of a method is judged there
of_method : (rows : ProgramRows) (i : ℕ) (p : Procedure) → list_all (generic_fits rows) rows.generics ≡ true
    → slice_get rows.procedures i ≡ Some p → is_of_method rows i ≡ true → (in_method : Bool) × BodyIsBound in_method p
of_method rows i p all there h =
    some_one (λ g. list_any (λ m. i == m.procedure) g.methods) (generic_fits rows) rows.generics h all (λ g some fits.
    some_one (λ m. i == m.procedure) (method_fits rows g) g.methods some (methods_fit rows g fits) (λ m same fit.
    let found : slice_get rows.procedures m.procedure ≡ Some p =
    ap (λ n. slice_get rows.procedures n) (sym (eqb-true i m.procedure same)) ∙ there in (
      knows_next m.qualifier,
      bound_in (alone (variables p) (knows_next m.qualifier)) p.body
          (subst (λ o. is_alone (knows_next m.qualifier) o ≡ true) found (method_alone rows g m fit)),
    )))

-- these procedures, where they stand from the i-th place on
procedures_bound : (rows : ProgramRows) (i : ℕ) (ps : List Procedure) → list_all (generic_fits rows) rows.generics ≡ true
    → ((j : ℕ) (p : Procedure) → slice_get ps j ≡ Some p → slice_get rows.procedures (i + j) ≡ Some p)
    → procedures_stand rows i ps ≡ true → AllOf (λ p. (in_method : Bool) × BodyIsBound in_method p) ps
procedures_bound rows i [] all at h = tt
procedures_bound rows i (p ∷ ps) all at h =
    let here : slice_get rows.procedures i ≡ Some p =
    subst (λ n. slice_get rows.procedures n ≡ Some p) (omega arith) (at 0 p refl) in (
      either_true (is_of_method rows i) (is_alone false (Some p))
          (first_true (is_of_method rows i || is_alone false (Some p)) (procedures_stand rows (i + 1) ps) h)
          (λ m. of_method rows i p all here m)
          (λ a. (false, bound_in (alone (variables p) false) p.body a)),
      procedures_bound rows (i + 1) ps all
          (λ j q e. subst (λ n. slice_get rows.procedures n ≡ Some q) (omega arith) (at (suc j) q e))
          (second_true (is_of_method rows i || is_alone false (Some p)) (procedures_stand rows (i + 1) ps) h),
    )

pub law_of_names : LawOfNames
law_of_names rows h =
    let stood : bodies_stand rows ≡ true =
    second_true (rows_fit rows) (bodies_stand rows)
    (first_true (rows_fit rows && bodies_stand rows) (nat_le (program_cells rows) 262144) h) in
    let classes : Bool = list_all (class_fits rows) rows.classes in
    let generics : Bool = list_all (generic_fits rows) rows.generics in
    let functions : Bool = list_all (λ f. callee_fits rows f.callee) rows.functions in
    let main : Bool = list_all (λ f. body_fits rows f && stands_alone false f) rows.main in
    let procedures : Bool = procedures_stand rows 0 rows.procedures in
    let four : (classes && generics && functions && main) ≡ true = first_true (classes && generics && functions && main) procedures stood in
    let three : (classes && generics && functions) ≡ true = first_true (classes && generics && functions) main four in
    let two : (classes && generics) ≡ true = first_true (classes && generics) functions three in
    let generic : generics ≡ true = second_true classes generics two in
    record {
      functions = each _ (λ f. callee_fits rows f.callee) (λ f e. callee_bound rows f.callee e) rows.functions (second_true (classes && generics) functions three);
      methods = each _ (generic_fits rows) (λ g e.
          each _ (method_fits rows g) (λ m fit. procedure_bound (knows_next m.qualifier) (slice_get rows.procedures m.procedure) (method_alone rows g m fit))
          g.methods (methods_fit rows g e)) rows.generics generic;
      initforms = each _ (class_fits rows) (λ c e.
          each _ (λ s. initform_fits rows s.initform) (λ s fit. initform_bound rows s.initform fit) c.slots (slots_fit rows c e))
          rows.classes (first_true classes generics two);
      procedures = procedures_bound rows 0 rows.procedures generic
          (λ j p e. subst (λ n. slice_get rows.procedures n ≡ Some p) (omega arith) e)
          (second_true (classes && generics && functions && main) procedures stood);
      main = each _ (λ f. body_fits rows f && stands_alone false f)
          (λ f e. bound_in (alone [] false) f (second_true (body_fits rows f) (stands_alone false f) e))
          rows.main (second_true (classes && generics && functions) main four);
    }
