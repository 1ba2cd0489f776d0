-- The procedures of the functions in a form are as many as the functions.
use Rattle.std.proofs.Common.{◌≡◌, ℕ, suc, ◌+◌, List, ◌++◌, refl, ap, ◌∙◌, length, arith, length-append}
use Rattle.lang_meaning.specs.Form.{Form, Forms, ClauseForms, MaybeForm, BindingForms, DynamicForms}
use Rattle.lang_meaning.specs.Form as core
use Rattle.lang_meaning.specs.Meaning.{bound_variables}
use Rattle.flat_language.specs.declared.program.FlatProcedure.{FlatProcedure}
use Rattle.flat_language.specs.Scope.{Scope, with_bound, with_around, seen}
use Rattle.flat_language.specs.Flatten.{functions, functions_of_values, functions_of_body, functions_of_dynamics, functions_of_forms, functions_of_clauses, body_scope, inner_procedures, procedures_of_forms, procedures_of_clauses, procedures_of_body, procedures_of_values, procedures_of_dynamics}

pub joined : (xs ys : List FlatProcedure) (m n : ℕ) → length xs ≡ m → length ys ≡ n → length (xs ++ ys) ≡ m + n
joined xs ys m n e f = length-append xs ys ∙ ap (λ k. k + length ys) e ∙ ap (λ k. m + k) f

mutual
  pub all_counted : (s : Scope) (n : ℕ) (f : Form) → length (inner_procedures s n f) ≡ functions f
  all_counted s n (core.literal i) = refl
  all_counted s n (core.local v) = refl
  all_counted s n (core.global name) = refl
  all_counted s n (core.go x segment) = refl
  all_counted s n (core.dynamic name) = refl
  all_counted s n core.next_method = refl
  all_counted s n core.has_next = refl
  all_counted s n (core.set_local v f) = all_counted s n f
  all_counted s n (core.set_global name f) = all_counted s n f
  all_counted s n (core.def_global name f) = all_counted s n f
  all_counted s n (core.return_from x f) = all_counted s n f
  all_counted s n (core.set_dynamic name f) = all_counted s n f
  all_counted s n (core.def_dynamic name f) = all_counted s n f
  all_counted s n (core.sited site f) = all_counted s n f
  all_counted s n (core.apply f list) = joined (inner_procedures s n f) _ _ _ (all_counted s n f) (all_counted s (n + functions f) list)
  all_counted s n (core.while_form test body) = joined (inner_procedures s n test) _ _ _ (all_counted s n test) (all_counted s (n + functions test) body)
  all_counted s n (core.catch_form tag body) = joined (inner_procedures s n tag) _ _ _ (all_counted s n tag) (all_counted s (n + functions tag) body)
  all_counted s n (core.throw tag f) = joined (inner_procedures s n tag) _ _ _ (all_counted s n tag) (all_counted s (n + functions tag) f)
  all_counted s n (core.unwind f cleanup) = joined (inner_procedures s n f) _ _ _ (all_counted s n f) (all_counted s (n + functions f) cleanup)
  all_counted s n (core.with_handler handler body) = joined (inner_procedures s n handler) _ _ _ (all_counted s n handler) (all_counted s (n + functions handler) body)
  all_counted s n (core.signal_form condition mark) = joined (inner_procedures s n condition) _ _ _ (all_counted s n condition) (all_counted s (n + functions condition) mark)
  all_counted s n (core.continue_form condition f) = joined (inner_procedures s n condition) _ _ _ (all_counted s n condition) (all_counted s (n + functions condition) f)
  all_counted s n (core.sequence fs) = forms_counted s n fs
  all_counted s n (core.call name fs) = forms_counted s n fs
  all_counted s n (core.call_value fs) = forms_counted s n fs
  all_counted s n (core.prim which fs) = forms_counted s n fs
  all_counted s n (core.clauses cs) = clauses_counted s n cs
  all_counted s n (core.let_form bs body) =
      joined (procedures_of_values s n bs) _ _ _ (values_counted s n bs) (all_counted (with_bound (bound_variables bs) body s) (n + functions_of_values bs) body)
  all_counted s n (core.lambda required rest body parts) =
      let e : length (inner_procedures (body_scope required rest body (seen s parts)) (n + 1) body) ≡ functions body = all_counted (body_scope required rest body (seen s parts)) (n + 1) body in
      ap suc e ∙ (let i : suc (functions body) ≡ functions body + 1 = omega arith in i)
  all_counted s n (core.block x body) = all_counted (with_around x s) n body
  all_counted s n (core.tagbody x segments) = forms_counted (with_around x s) n segments
  all_counted s n (core.dynamic_let ds body) =
      joined (procedures_of_dynamics s n ds) _ _ _ (dynamics_counted s n ds) (all_counted s (n + functions_of_dynamics ds) body)

  pub forms_counted : (s : Scope) (n : ℕ) (fs : Forms) → length (procedures_of_forms s n fs) ≡ functions_of_forms fs
  forms_counted s n core.no_form = refl
  forms_counted s n (core.form_and f fs) = joined (inner_procedures s n f) _ _ _ (all_counted s n f) (forms_counted s (n + functions f) fs)

  pub clauses_counted : (s : Scope) (n : ℕ) (cs : ClauseForms) → length (procedures_of_clauses s n cs) ≡ functions_of_clauses cs
  clauses_counted s n core.no_clause = refl
  clauses_counted s n (core.clause_and test body cs) =
      joined (inner_procedures s n test ++ procedures_of_body s (n + functions test) body) _ _ _
      (joined (inner_procedures s n test) _ _ _ (all_counted s n test) (body_counted s (n + functions test) body))
      (clauses_counted s (n + (functions test + functions_of_body body)) cs)

  pub body_counted : (s : Scope) (n : ℕ) (b : MaybeForm) → length (procedures_of_body s n b) ≡ functions_of_body b
  body_counted s n core.no_body = refl
  body_counted s n (core.with_body f) = all_counted s n f

  pub values_counted : (s : Scope) (n : ℕ) (bs : BindingForms) → length (procedures_of_values s n bs) ≡ functions_of_values bs
  values_counted s n core.no_binding = refl
  values_counted s n (core.binding_and v f bs) = joined (inner_procedures s n f) _ _ _ (all_counted s n f) (values_counted s (n + functions f) bs)

  pub dynamics_counted : (s : Scope) (n : ℕ) (ds : DynamicForms) → length (procedures_of_dynamics s n ds) ≡ functions_of_dynamics ds
  dynamics_counted s n core.no_dynamic = refl
  dynamics_counted s n (core.dynamic_and name f ds) = joined (inner_procedures s n f) _ _ _ (all_counted s n f) (dynamics_counted s (n + functions f) ds)
