-- No more of different variables are captured in a form than its functions capture, once it is made flat.
use Rattle.std.proofs.Common.{◌≡◌, ℕ, ◌+◌, ◌==◌, ◌||◌, ◌&&◌, ◌≤◌, Bool, true, false, List, [], ◌∷◌, arith}
use Rattle.std.specs.Prelude.{not, if◌then◌else◌}
use Rattle.std.specs.List.{list_any}
use Rattle.lang_meaning.specs.declared.capture.Capture.{Capture}
use Rattle.lang_meaning.specs.declared.capture.Capture.TheVariants.{Variable, Exit, Method}
use Rattle.lang_meaning.specs.Captured.{captures_inside, captures, sets}
use Rattle.lang_meaning.specs.Form.{Form, Forms, ClauseForms, MaybeForm, BindingForms, DynamicForms, parameters}
use Rattle.lang_meaning.specs.Form as core
use Rattle.lang_meaning.specs.Meaning.{bound_variables}
use Rattle.lang_meaning.specs.Mentions.{same_part, owns, variables_bound, some}
use Rattle.lang_meaning.specs.Subforms.{fold_forms, fold_clauses, fold_values, fold_dynamics}
use Rattle.flat_language.specs.declared.place.Home.TheVariants as home
use Rattle.flat_language.specs.Scope.{Scope, homes_of, with_bound, with_around, flat_parts}
use Rattle.flat_language.specs.Flatten.{functions, functions_of_values, functions_of_dynamics, flat, flat_forms, flat_clauses, flat_bindings, flat_dynamics}
use Rattle.flat_boxes.specs.Totals.{total_of_forms, total_of_clauses, total_of_values, total_of_dynamics}
use Rattle.flat_boxes.specs.Boxes.{boxes, variables_among, captures_itself, captured_variables}
use Rattle.flat_boxes.specs.Parameters.{variables_differ}
use Rattle.flat_boxes.proofs.Counting.{counted, none_counted, either_few, last_few, one_few, two_few, bound_few, equal_one}

abbrev step : ℕ → Form → List Bool → List Bool → Bool
step v g outer inner = some outer || captures_inside (Variable v) g (some inner)

-- which of some variables are captured in a form
abbrev in_form : Form → ℕ → Bool
in_form f v = captures (Variable v) f

module _ (vs : List ℕ) (differ : variables_differ vs ≡ true) where
  parts_few : (s : Scope) (ps : List Capture) → counted (λ v. list_any (same_part (Variable v)) ps) vs ≤ variables_among (flat_parts s ps)
  parts_few s [] = let nothing = none_counted vs in omega arith
  parts_few s (Variable w ∷ ps) =
      let both = either_few (λ v. v == w) (λ v. list_any (same_part (Variable v)) ps) vs in
      let one = equal_one w vs differ in
      let more = parts_few s ps in
      omega arith
  parts_few s (Exit x ∷ ps) = parts_few s ps
  parts_few s (Method ∷ ps) = parts_few s ps

  mutual
    unfolding flat

    pub captured_few : (s : Scope) (n : ℕ) (f : Form) → counted (in_form f) vs ≤ captured_variables (flat s n f)
    captured_few s n (core.literal i) = let nothing = none_counted vs in omega arith
    captured_few s n (core.local v) = let nothing = none_counted vs in omega arith
    captured_few s n (core.global name) = let nothing = none_counted vs in omega arith
    captured_few s n (core.go x segment) = let nothing = none_counted vs in omega arith
    captured_few s n (core.dynamic name) = let nothing = none_counted vs in omega arith
    captured_few s n core.next_method = let nothing = none_counted vs in omega arith
    captured_few s n core.has_next = let nothing = none_counted vs in omega arith
    captured_few s n (core.set_local v f) = let inner = captured_few s n f in let few = one_few (in_form f) vs in omega arith
    captured_few s n (core.set_global name f) = let inner = captured_few s n f in let few = one_few (in_form f) vs in omega arith
    captured_few s n (core.def_global name f) = let inner = captured_few s n f in let few = one_few (in_form f) vs in omega arith
    captured_few s n (core.return_from x f) = let inner = captured_few s n f in let few = one_few (in_form f) vs in omega arith
    captured_few s n (core.set_dynamic name f) = let inner = captured_few s n f in let few = one_few (in_form f) vs in omega arith
    captured_few s n (core.def_dynamic name f) = let inner = captured_few s n f in let few = one_few (in_form f) vs in omega arith
    captured_few s n (core.sited site f) = let inner = captured_few s n f in let few = one_few (in_form f) vs in omega arith
    captured_few s n (core.apply f list) =
        let first = captured_few s n f in let second = captured_few s (n + functions f) list in let few = two_few (in_form f) (in_form list) vs in omega arith
    captured_few s n (core.while_form test body) =
        let first = captured_few s n test in let second = captured_few s (n + functions test) body in let few = two_few (in_form test) (in_form body) vs in omega arith
    captured_few s n (core.catch_form tag body) =
        let first = captured_few s n tag in let second = captured_few s (n + functions tag) body in let few = two_few (in_form tag) (in_form body) vs in omega arith
    captured_few s n (core.throw tag f) =
        let first = captured_few s n tag in let second = captured_few s (n + functions tag) f in let few = two_few (in_form tag) (in_form f) vs in omega arith
    captured_few s n (core.unwind f cleanup) =
        let first = captured_few s n f in let second = captured_few s (n + functions f) cleanup in let few = two_few (in_form f) (in_form cleanup) vs in omega arith
    captured_few s n (core.with_handler handler body) =
        let first = captured_few s n handler in let second = captured_few s (n + functions handler) body in let few = two_few (in_form handler) (in_form body) vs in omega arith
    captured_few s n (core.signal_form condition mark) =
        let first = captured_few s n condition in let second = captured_few s (n + functions condition) mark in let few = two_few (in_form condition) (in_form mark) vs in omega arith
    captured_few s n (core.continue_form condition f) =
        let first = captured_few s n condition in let second = captured_few s (n + functions condition) f in let few = two_few (in_form condition) (in_form f) vs in omega arith
    captured_few s n (core.clauses cs) = let inner = clauses_few s n cs in let few = last_few (λ v. some (fold_clauses (step v) cs)) vs in omega arith
    captured_few s n (core.sequence fs) = let inner = forms_few s n fs in let few = last_few (λ v. some (fold_forms (step v) fs)) vs in omega arith
    captured_few s n (core.call name fs) = let inner = forms_few s n fs in let few = last_few (λ v. some (fold_forms (step v) fs)) vs in omega arith
    captured_few s n (core.call_value fs) = let inner = forms_few s n fs in let few = last_few (λ v. some (fold_forms (step v) fs)) vs in omega arith
    captured_few s n (core.prim which fs) = let inner = forms_few s n fs in let few = last_few (λ v. some (fold_forms (step v) fs)) vs in omega arith
    captured_few s n (core.let_form bs body) =
        let outer = values_few s n body bs in
        let inner = captured_few (with_bound (bound_variables bs) body s) (n + functions_of_values bs) body in
        let few = bound_few (λ v. some (fold_values (step v) bs)) (λ v. not (owns (variables_bound bs) (Variable v))) (in_form body) vs in
        omega arith
    captured_few s n (core.lambda required rest body parts) = parts_few s parts
    captured_few s n (core.block x body) =
        let inner = captured_few (with_around x s) n body in let few = last_few (in_form body) vs in omega arith
    captured_few s n (core.tagbody x segments) = let inner = forms_few (with_around x s) n segments in omega arith
    captured_few s n (core.dynamic_let ds body) =
        let outer = dynamics_few s n ds in
        let inner = captured_few s (n + functions_of_dynamics ds) body in
        let few = bound_few (λ v. some (fold_dynamics (step v) ds)) (λ v. true) (in_form body) vs in
        omega arith

    forms_few : (s : Scope) (n : ℕ) (fs : Forms) → counted (λ v. some (fold_forms (step v) fs)) vs ≤ total_of_forms captures_itself (flat_forms s n fs)
    forms_few s n core.no_form = let nothing = none_counted vs in omega arith
    forms_few s n (core.form_and f fs) =
        let first = captured_few s n f in
        let more = forms_few s (n + functions f) fs in
        let both = either_few (in_form f) (λ v. some (fold_forms (step v) fs)) vs in
        omega arith

    clauses_few : (s : Scope) (n : ℕ) (cs : ClauseForms) → counted (λ v. some (fold_clauses (step v) cs)) vs ≤ total_of_clauses captures_itself (flat_clauses s n cs)
    clauses_few s n core.no_clause = let nothing = none_counted vs in omega arith
    clauses_few s n (core.clause_and test core.no_body cs) =
        let first = captured_few s n test in
        let more = clauses_few s (n + (functions test + 0)) cs in
        let both = either_few (in_form test) (λ v. some (fold_clauses (step v) cs)) vs in
        omega arith
    clauses_few s n (core.clause_and test (core.with_body f) cs) =
        let first = captured_few s n test in
        let second = captured_few s (n + functions test) f in
        let more = clauses_few s (n + (functions test + functions f)) cs in
        let both = either_few (in_form test) (λ v. captures (Variable v) f || some (fold_clauses (step v) cs)) vs in
        let behind = either_few (in_form f) (λ v. some (fold_clauses (step v) cs)) vs in
        omega arith

    values_few : (s : Scope) (n : ℕ) (body : Form) (bs : BindingForms) → counted (λ v. some (fold_values (step v) bs)) vs ≤ total_of_values captures_itself (flat_bindings s n body bs)
    values_few s n body core.no_binding = let nothing = none_counted vs in omega arith
    values_few s n body (core.binding_and w f bs) =
        let first = captured_few s n f in
        let more = values_few s (n + functions f) body bs in
        let both = either_few (in_form f) (λ v. some (fold_values (step v) bs)) vs in
        omega arith

    dynamics_few : (s : Scope) (n : ℕ) (ds : DynamicForms) → counted (λ v. some (fold_dynamics (step v) ds)) vs ≤ total_of_dynamics captures_itself (flat_dynamics s n ds)
    dynamics_few s n core.no_dynamic = let nothing = none_counted vs in omega arith
    dynamics_few s n (core.dynamic_and name f ds) =
        let first = captured_few s n f in
        let more = dynamics_few s (n + functions f) ds in
        let both = either_few (in_form f) (λ v. some (fold_dynamics (step v) ds)) vs in
        omega arith

-- a variable that has a box is captured
pub boxes_few : (vs : List ℕ) (body : Form) → boxes (homes_of vs body) ≤ counted (in_form body) vs
boxes_few [] body = omega arith
boxes_few (v ∷ vs) body = by (captures (Variable v) body) (sets v body) (boxes_few vs body)
  where
    by : (a b : Bool) → boxes (homes_of vs body) ≤ counted (in_form body) vs
        → boxes ((if a && b then home.Boxed else home.Slot) ∷ homes_of vs body) ≤ (if a then 1 else 0) + counted (in_form body) vs
    by true true inner = omega arith
    by true false inner = omega arith
    by false true inner = omega arith
    by false false inner = omega arith
