-- **All bodies of a program that was made flat.**
use Rattle.std.proofs.Common.{◌≡◌, ℕ, ◌+◌, ◌&&◌, ◌≤◌, Bool, true, false, List, [], ◌∷◌, ◌++◌, Option, refl, subst, sym, arith}
use Rattle.std.specs.List.{list_all}
use Rattle.base.specs.AllOf.{AllOf, all_both}
use Rattle.lang_meaning.specs.declared.program.Procedure.{Procedure}
use Rattle.lang_meaning.specs.Form.{Form, Forms, ClauseForms, MaybeForm, BindingForms, DynamicForms, parameters}
use Rattle.lang_meaning.specs.Form as core
use Rattle.lang_meaning.specs.Meaning.{bound_variables}
use Rattle.lang_meaning.specs.Subforms.{fold_forms, fold_clauses, fold_values, fold_dynamics}
use Rattle.flat_language.specs.declared.place.CapturedKind.{CapturedKind}
use Rattle.flat_language.specs.Scope.{Scope, no_scope, with_bound, with_around, kinds_of, seen}
use Rattle.flat_language.specs.Flatten.{functions, functions_of_values, functions_of_dynamics, flat, flat_procedure, body_scope, inner_procedures, procedures_of_forms, procedures_of_clauses, procedures_of_values, procedures_of_dynamics, functions_of_procedures, flat_procedures, inner_of_procedures, inner_of_mains}
use Rattle.flat_language.proofs.Applied.{all_homes}
use Rattle.flat_boxes.specs.Boxes.{boxes, captured_variables, BoxesAreCaptured}
use Rattle.flat_boxes.specs.Parameters.{variables_differ, all_true, differ_step, parameters_differ, procedure_differs}
use Rattle.flat_boxes.specs.Laws.{LawOfBoxesCaptured}
use Rattle.flat_boxes.proofs.Captured.{captured_few, boxes_few}

-- parts of what is true

front_true : (a b : Bool) → (a && b) ≡ true → a ≡ true
front_true true b h = refl
front_true false b h = h

behind_true : (a b : Bool) → (a && b) ≡ true → b ≡ true
behind_true true b h = h
behind_true false b h = absurd (cc h)

-- the body of a function
body_boxes : (s : Scope) (n : ℕ) (kinds : List CapturedKind) (required : List ℕ) (rest : Option ℕ) (body : Form)
    → variables_differ (parameters required rest) ≡ true → BoxesAreCaptured (flat_procedure s n kinds required rest body)
body_boxes s n kinds required rest body differ =
    let few = boxes_few (parameters required rest) body in
    let captured = captured_few (parameters required rest) differ (body_scope required rest body s) n body in
    subst (λ hs. boxes hs ≤ captured_variables (flat (body_scope required rest body s) n body)) (sym (all_homes required rest body)) (omega (arith, few, captured))

mutual
  inner_boxes : (s : Scope) (n : ℕ) (f : Form) → parameters_differ f ≡ true → AllOf BoxesAreCaptured (inner_procedures s n f)
  inner_boxes s n (core.literal i) h = tt
  inner_boxes s n (core.local v) h = tt
  inner_boxes s n (core.global name) h = tt
  inner_boxes s n (core.go x segment) h = tt
  inner_boxes s n (core.dynamic name) h = tt
  inner_boxes s n core.next_method h = tt
  inner_boxes s n core.has_next h = tt
  inner_boxes s n (core.set_local v f) h = inner_boxes s n f (front_true (parameters_differ f) true (front_true (parameters_differ f && true) true h))
  inner_boxes s n (core.set_global name f) h = inner_boxes s n f (front_true (parameters_differ f) true (front_true (parameters_differ f && true) true h))
  inner_boxes s n (core.def_global name f) h = inner_boxes s n f (front_true (parameters_differ f) true (front_true (parameters_differ f && true) true h))
  inner_boxes s n (core.return_from x f) h = inner_boxes s n f (front_true (parameters_differ f) true (front_true (parameters_differ f && true) true h))
  inner_boxes s n (core.set_dynamic name f) h = inner_boxes s n f (front_true (parameters_differ f) true (front_true (parameters_differ f && true) true h))
  inner_boxes s n (core.def_dynamic name f) h = inner_boxes s n f (front_true (parameters_differ f) true (front_true (parameters_differ f && true) true h))
  inner_boxes s n (core.sited site f) h = inner_boxes s n f (front_true (parameters_differ f) true (front_true (parameters_differ f && true) true h))
  inner_boxes s n (core.apply f list) h =
      let all : (parameters_differ f && (parameters_differ list && true)) ≡ true = front_true (parameters_differ f && (parameters_differ list && true)) true h in
      all_both BoxesAreCaptured (inner_procedures s n f) (inner_procedures s (n + functions f) list)
      (inner_boxes s n f (front_true (parameters_differ f) (parameters_differ list && true) all))
      (inner_boxes s (n + functions f) list (front_true (parameters_differ list) true (behind_true (parameters_differ f) (parameters_differ list && true) all)))
  inner_boxes s n (core.while_form test body) h =
      let all : (parameters_differ test && (parameters_differ body && true)) ≡ true = front_true (parameters_differ test && (parameters_differ body && true)) true h in
      all_both BoxesAreCaptured (inner_procedures s n test) (inner_procedures s (n + functions test) body)
      (inner_boxes s n test (front_true (parameters_differ test) (parameters_differ body && true) all))
      (inner_boxes s (n + functions test) body (front_true (parameters_differ body) true (behind_true (parameters_differ test) (parameters_differ body && true) all)))
  inner_boxes s n (core.catch_form tag body) h =
      let all : (parameters_differ tag && (parameters_differ body && true)) ≡ true = front_true (parameters_differ tag && (parameters_differ body && true)) true h in
      all_both BoxesAreCaptured (inner_procedures s n tag) (inner_procedures s (n + functions tag) body)
      (inner_boxes s n tag (front_true (parameters_differ tag) (parameters_differ body && true) all))
      (inner_boxes s (n + functions tag) body (front_true (parameters_differ body) true (behind_true (parameters_differ tag) (parameters_differ body && true) all)))
  inner_boxes s n (core.throw tag f) h =
      let all : (parameters_differ tag && (parameters_differ f && true)) ≡ true = front_true (parameters_differ tag && (parameters_differ f && true)) true h in
      all_both BoxesAreCaptured (inner_procedures s n tag) (inner_procedures s (n + functions tag) f)
      (inner_boxes s n tag (front_true (parameters_differ tag) (parameters_differ f && true) all))
      (inner_boxes s (n + functions tag) f (front_true (parameters_differ f) true (behind_true (parameters_differ tag) (parameters_differ f && true) all)))
  inner_boxes s n (core.unwind f cleanup) h =
      let all : (parameters_differ f && (parameters_differ cleanup && true)) ≡ true = front_true (parameters_differ f && (parameters_differ cleanup && true)) true h in
      all_both BoxesAreCaptured (inner_procedures s n f) (inner_procedures s (n + functions f) cleanup)
      (inner_boxes s n f (front_true (parameters_differ f) (parameters_differ cleanup && true) all))
      (inner_boxes s (n + functions f) cleanup (front_true (parameters_differ cleanup) true (behind_true (parameters_differ f) (parameters_differ cleanup && true) all)))
  inner_boxes s n (core.with_handler handler body) h =
      let all : (parameters_differ handler && (parameters_differ body && true)) ≡ true = front_true (parameters_differ handler && (parameters_differ body && true)) true h in
      all_both BoxesAreCaptured (inner_procedures s n handler) (inner_procedures s (n + functions handler) body)
      (inner_boxes s n handler (front_true (parameters_differ handler) (parameters_differ body && true) all))
      (inner_boxes s (n + functions handler) body (front_true (parameters_differ body) true (behind_true (parameters_differ handler) (parameters_differ body && true) all)))
  inner_boxes s n (core.signal_form condition mark) h =
      let all : (parameters_differ condition && (parameters_differ mark && true)) ≡ true = front_true (parameters_differ condition && (parameters_differ mark && true)) true h in
      all_both BoxesAreCaptured (inner_procedures s n condition) (inner_procedures s (n + functions condition) mark)
      (inner_boxes s n condition (front_true (parameters_differ condition) (parameters_differ mark && true) all))
      (inner_boxes s (n + functions condition) mark (front_true (parameters_differ mark) true (behind_true (parameters_differ condition) (parameters_differ mark && true) all)))
  inner_boxes s n (core.continue_form condition f) h =
      let all : (parameters_differ condition && (parameters_differ f && true)) ≡ true = front_true (parameters_differ condition && (parameters_differ f && true)) true h in
      all_both BoxesAreCaptured (inner_procedures s n condition) (inner_procedures s (n + functions condition) f)
      (inner_boxes s n condition (front_true (parameters_differ condition) (parameters_differ f && true) all))
      (inner_boxes s (n + functions condition) f (front_true (parameters_differ f) true (behind_true (parameters_differ condition) (parameters_differ f && true) all)))
  inner_boxes s n (core.clauses cs) h = clauses_boxes s n cs (front_true (all_true (fold_clauses differ_step cs)) true h)
  inner_boxes s n (core.sequence fs) h = forms_boxes s n fs (front_true (all_true (fold_forms differ_step fs)) true h)
  inner_boxes s n (core.call name fs) h = forms_boxes s n fs (front_true (all_true (fold_forms differ_step fs)) true h)
  inner_boxes s n (core.call_value fs) h = forms_boxes s n fs (front_true (all_true (fold_forms differ_step fs)) true h)
  inner_boxes s n (core.prim which fs) h = forms_boxes s n fs (front_true (all_true (fold_forms differ_step fs)) true h)
  inner_boxes s n (core.tagbody x segments) h = forms_boxes (with_around x s) n segments h
  inner_boxes s n (core.block x body) h = inner_boxes (with_around x s) n body (front_true (parameters_differ body) true h)
  inner_boxes s n (core.let_form bs body) h =
      all_both BoxesAreCaptured (procedures_of_values s n bs) (inner_procedures (with_bound (bound_variables bs) body s) (n + functions_of_values bs) body)
      (values_boxes s n bs (front_true (all_true (fold_values differ_step bs)) (parameters_differ body && true) h))
      (inner_boxes (with_bound (bound_variables bs) body s) (n + functions_of_values bs) body
      (front_true (parameters_differ body) true (behind_true (all_true (fold_values differ_step bs)) (parameters_differ body && true) h)))
  inner_boxes s n (core.dynamic_let ds body) h =
      all_both BoxesAreCaptured (procedures_of_dynamics s n ds) (inner_procedures s (n + functions_of_dynamics ds) body)
      (dynamics_boxes s n ds (front_true (all_true (fold_dynamics differ_step ds)) (parameters_differ body && true) h))
      (inner_boxes s (n + functions_of_dynamics ds) body
      (front_true (parameters_differ body) true (behind_true (all_true (fold_dynamics differ_step ds)) (parameters_differ body && true) h)))
  inner_boxes s n (core.lambda required rest body parts) h =
      let own : variables_differ (parameters required rest) ≡ true =
      front_true (variables_differ (parameters required rest)) true (front_true (variables_differ (parameters required rest) && true) (parameters_differ body && true) h)
      in
      let inner : parameters_differ body ≡ true =
      front_true (parameters_differ body) true (behind_true (variables_differ (parameters required rest) && true) (parameters_differ body && true) h)
      in
      (body_boxes (seen s parts) (n + 1) (kinds_of s parts) required rest body own, inner_boxes (body_scope required rest body (seen s parts)) (n + 1) body inner)

  forms_boxes : (s : Scope) (n : ℕ) (fs : Forms) → all_true (fold_forms differ_step fs) ≡ true → AllOf BoxesAreCaptured (procedures_of_forms s n fs)
  forms_boxes s n core.no_form h = tt
  forms_boxes s n (core.form_and f fs) h =
      all_both BoxesAreCaptured (inner_procedures s n f) (procedures_of_forms s (n + functions f) fs)
      (inner_boxes s n f (front_true (parameters_differ f) (all_true (fold_forms differ_step fs)) h))
      (forms_boxes s (n + functions f) fs (behind_true (parameters_differ f) (all_true (fold_forms differ_step fs)) h))

  clauses_boxes : (s : Scope) (n : ℕ) (cs : ClauseForms) → all_true (fold_clauses differ_step cs) ≡ true → AllOf BoxesAreCaptured (procedures_of_clauses s n cs)
  clauses_boxes s n core.no_clause h = tt
  clauses_boxes s n (core.clause_and test core.no_body cs) h =
      all_both BoxesAreCaptured (inner_procedures s n test ++ []) (procedures_of_clauses s (n + (functions test + 0)) cs)
      (all_both BoxesAreCaptured (inner_procedures s n test) [] (inner_boxes s n test (front_true (parameters_differ test) (all_true (fold_clauses differ_step cs)) h)) tt)
      (clauses_boxes s (n + (functions test + 0)) cs (behind_true (parameters_differ test) (all_true (fold_clauses differ_step cs)) h))
  clauses_boxes s n (core.clause_and test (core.with_body f) cs) h =
      let rest : (parameters_differ f && all_true (fold_clauses differ_step cs)) ≡ true =
      behind_true (parameters_differ test) (parameters_differ f && all_true (fold_clauses differ_step cs)) h
      in
      all_both BoxesAreCaptured (inner_procedures s n test ++ inner_procedures s (n + functions test) f) (procedures_of_clauses s (n + (functions test + functions f)) cs)
      (all_both BoxesAreCaptured (inner_procedures s n test) (inner_procedures s (n + functions test) f)
      (inner_boxes s n test (front_true (parameters_differ test) (parameters_differ f && all_true (fold_clauses differ_step cs)) h))
      (inner_boxes s (n + functions test) f (front_true (parameters_differ f) (all_true (fold_clauses differ_step cs)) rest)))
      (clauses_boxes s (n + (functions test + functions f)) cs (behind_true (parameters_differ f) (all_true (fold_clauses differ_step cs)) rest))

  values_boxes : (s : Scope) (n : ℕ) (bs : BindingForms) → all_true (fold_values differ_step bs) ≡ true → AllOf BoxesAreCaptured (procedures_of_values s n bs)
  values_boxes s n core.no_binding h = tt
  values_boxes s n (core.binding_and v f bs) h =
      all_both BoxesAreCaptured (inner_procedures s n f) (procedures_of_values s (n + functions f) bs)
      (inner_boxes s n f (front_true (parameters_differ f) (all_true (fold_values differ_step bs)) h))
      (values_boxes s (n + functions f) bs (behind_true (parameters_differ f) (all_true (fold_values differ_step bs)) h))

  dynamics_boxes : (s : Scope) (n : ℕ) (ds : DynamicForms) → all_true (fold_dynamics differ_step ds) ≡ true → AllOf BoxesAreCaptured (procedures_of_dynamics s n ds)
  dynamics_boxes s n core.no_dynamic h = tt
  dynamics_boxes s n (core.dynamic_and name f ds) h =
      all_both BoxesAreCaptured (inner_procedures s n f) (procedures_of_dynamics s (n + functions f) ds)
      (inner_boxes s n f (front_true (parameters_differ f) (all_true (fold_dynamics differ_step ds)) h))
      (dynamics_boxes s (n + functions f) ds (behind_true (parameters_differ f) (all_true (fold_dynamics differ_step ds)) h))

-- procedures, and main forms, one after another

module _ (p : Procedure) (h : procedure_differs p ≡ true) where
  own_differ : variables_differ (parameters p.required p.rest) ≡ true
  own_differ = front_true (variables_differ (parameters p.required p.rest)) (parameters_differ p.body) h

  inside_differ : parameters_differ p.body ≡ true
  inside_differ = behind_true (variables_differ (parameters p.required p.rest)) (parameters_differ p.body) h

procedures_boxes : (n : ℕ) (ps : List Procedure) → list_all procedure_differs ps ≡ true → AllOf BoxesAreCaptured (flat_procedures n ps)
procedures_boxes n [] h = tt
procedures_boxes n (p ∷ ps) h = (
  body_boxes no_scope n [] p.required p.rest p.body (own_differ p (front_true (procedure_differs p) (list_all procedure_differs ps) h)),
  procedures_boxes (n + functions p.body) ps (behind_true (procedure_differs p) (list_all procedure_differs ps) h),
)

inner_of_procedures_boxes : (n : ℕ) (ps : List Procedure) → list_all procedure_differs ps ≡ true → AllOf BoxesAreCaptured (inner_of_procedures n ps)
inner_of_procedures_boxes n [] h = tt
inner_of_procedures_boxes n (p ∷ ps) h =
    all_both BoxesAreCaptured (inner_procedures (body_scope p.required p.rest p.body no_scope) n p.body) (inner_of_procedures (n + functions p.body) ps)
    (inner_boxes (body_scope p.required p.rest p.body no_scope) n p.body (inside_differ p (front_true (procedure_differs p) (list_all procedure_differs ps) h)))
    (inner_of_procedures_boxes (n + functions p.body) ps (behind_true (procedure_differs p) (list_all procedure_differs ps) h))

inner_of_mains_boxes : (n : ℕ) (fs : List Form) → list_all parameters_differ fs ≡ true → AllOf BoxesAreCaptured (inner_of_mains n fs)
inner_of_mains_boxes n [] h = tt
inner_of_mains_boxes n (f ∷ fs) h =
    all_both BoxesAreCaptured (inner_procedures no_scope n f) (inner_of_mains (n + functions f) fs)
    (inner_boxes no_scope n f (front_true (parameters_differ f) (list_all parameters_differ fs) h))
    (inner_of_mains_boxes (n + functions f) fs (behind_true (parameters_differ f) (list_all parameters_differ fs) h))

pub boxes_captured : LawOfBoxesCaptured
boxes_captured program differ = record {
  procedures = procedures_boxes 0 program.procedures differ.procedures;
  lambdas =
      all_both BoxesAreCaptured (inner_of_procedures 0 program.procedures) (inner_of_mains (functions_of_procedures program.procedures) program.main)
      (inner_of_procedures_boxes 0 program.procedures differ.procedures)
      (inner_of_mains_boxes (functions_of_procedures program.procedures) program.main differ.main);
}
