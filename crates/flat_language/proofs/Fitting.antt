-- What a form is made fits as the form did.
use Rattle.std.proofs.Common.{◌≡◌, ◌≤◌, ◌<◌, ℕ, ◌+◌, true, false, ◌&&◌, List, [], ◌∷◌, ◌++◌, refl, sym, subst, ◌∙◌, length, leb-true}
use Rattle.std.specs.Prelude.{nat_le}
use Rattle.std.specs.List.{list_all}
use Rattle.std.proofs.lemmas.Bool.{eqb-true, ltb-true}
use Rattle.base.specs.AllOf.{AllOf}
use Rattle.lang_meaning.specs.declared.program.Procedure.{Procedure}
use Rattle.lang_meaning.specs.declared.program.ProgramRows.{ProgramRows}
use Rattle.lang_meaning.specs.Arity.{arity}
use Rattle.lang_meaning.specs.Counts as core_counts
use Rattle.lang_meaning.specs.Facts.{body_fits, same_name, rows_fit, procedures_stand, bodies_stand, is_whole}
use Rattle.lang_meaning.specs.Fits.{fits_itself, fits}
use Rattle.lang_meaning.specs.Form.{Form, Forms, ClauseForms, MaybeForm, BindingForms, DynamicForms, parameters}
use Rattle.lang_meaning.specs.Form as core
use Rattle.lang_meaning.specs.Meaning.{bound_variables}
use Rattle.lang_meaning.specs.Subforms.{outer, inner, forms_list, clause_list, value_list, dynamic_value_list}
use Rattle.lang_meaning.specs.Cells.{program_cells}
use Rattle.lang_meaning.specs.Lookup.{all_differ}
use Rattle.lang_meaning.specs.ProgramCounts.{program_nodes}
use Rattle.lang_meaning.specs.Standing.{stands_alone}
use Rattle.lang_meaning.specs.bridge.Judged.{fits_folded}
use Rattle.flat_language.specs.declared.program.FlatProcedure.{FlatProcedure}
use Rattle.flat_language.specs.declared.program.FlatProgram.{FlatProgram}
use Rattle.flat_language.specs.FlatFits.{Fits, FitForms, FitClauses, FitValues, FitDynamics, ProgramFits}
use Rattle.flat_language.specs.Scope.{Scope, no_scope, with_bound, with_around, seen}
use Rattle.flat_language.specs.Flatten.{functions, functions_of_values, functions_of_dynamics, flat, flat_forms, flat_clauses, flat_bindings, flat_dynamics, body_scope, inner_procedures, procedures_of_forms, procedures_of_clauses, procedures_of_values, procedures_of_dynamics, functions_of_procedures, flat_procedures, inner_of_procedures, inner_of_mains, flat_mains, flat_program}
use Rattle.flat_language.proofs.Fine.{first_true, second_true}
use Rattle.flat_language.proofs.Nodes.{forms_counted}
use Rattle.flat_language.proofs.Start.{both}

module _ (rows : ProgramRows) where
  itself_fits : (f : Form) → fits rows f ≡ true → fits_itself rows f ≡ true
  itself_fits f h =
      first_true (fits_itself rows f) (list_all (fits rows) (outer f))
      (first_true (fits_itself rows f && list_all (fits rows) (outer f)) (list_all (fits rows) (inner f)) (sym (fits_folded rows f) ∙ h))

  outer_fits : (f : Form) → fits rows f ≡ true → list_all (fits rows) (outer f) ≡ true
  outer_fits f h =
      second_true (fits_itself rows f) (list_all (fits rows) (outer f))
      (first_true (fits_itself rows f && list_all (fits rows) (outer f)) (list_all (fits rows) (inner f)) (sym (fits_folded rows f) ∙ h))

  inner_fits : (f : Form) → fits rows f ≡ true → list_all (fits rows) (inner f) ≡ true
  inner_fits f h = second_true (fits_itself rows f && list_all (fits rows) (outer f)) (list_all (fits rows) (inner f)) (sym (fits_folded rows f) ∙ h)

  -- the first of a list, and those after it
  head_fits : (f : Form) (fs : List Form) → list_all (fits rows) (f ∷ fs) ≡ true → fits rows f ≡ true
  head_fits f fs h = first_true (fits rows f) (list_all (fits rows) fs) h

  tail_fits : (f : Form) (fs : List Form) → list_all (fits rows) (f ∷ fs) ≡ true → list_all (fits rows) fs ≡ true
  tail_fits f fs h = second_true (fits rows f) (list_all (fits rows) fs) h

  module _ (program : FlatProgram) (literals : program.literals ≡ rows.literals) (sites : program.sites ≡ rows.sites) where
    mutual
      unfolding flat

      pub flat_fits : (s : Scope) (n : ℕ) (f : Form) → fits rows f ≡ true → Fits program (flat s n f)
      flat_fits s n (core.literal i) h = subst (λ ls. i < length ls) (sym literals) (ltb-true i (length rows.literals) (itself_fits (core.literal i) h))
      flat_fits s n (core.local v) h = tt
      flat_fits s n (core.set_local v f) h = flat_fits s n f (head_fits f [] (outer_fits (core.set_local v f) h))
      flat_fits s n (core.global name) h = tt
      flat_fits s n (core.clauses cs) h = clauses_fit s n cs (outer_fits (core.clauses cs) h)
      flat_fits s n (core.sequence fs) h = forms_fit s n fs (outer_fits (core.sequence fs) h)
      flat_fits s n (core.let_form bs body) h = (
        values_fit s n body bs (outer_fits (core.let_form bs body) h),
        flat_fits (with_bound (bound_variables bs) body s) (n + functions_of_values bs) body (head_fits body [] (inner_fits (core.let_form bs body) h)),
      )
      flat_fits s n (core.lambda required rest body parts) h = tt
      flat_fits s n (core.call name fs) h = forms_fit s n fs (outer_fits (core.call name fs) h)
      flat_fits s n (core.call_value fs) h = (
        subst (λ k. 1 ≤ k) (sym (forms_counted s n fs)) (leb-true 1 (core_counts.count_forms fs) (itself_fits (core.call_value fs) h)),
        forms_fit s n fs (outer_fits (core.call_value fs) h),
      )
      flat_fits s n (core.prim which fs) h = (
        forms_counted s n fs ∙ eqb-true (core_counts.count_forms fs) (arity which) (itself_fits (core.prim which fs) h),
        forms_fit s n fs (outer_fits (core.prim which fs) h),
      )
      flat_fits s n (core.block x body) h = flat_fits (with_around x s) n body (head_fits body [] (inner_fits (core.block x body) h))
      flat_fits s n (core.return_from x f) h = flat_fits s n f (head_fits f [] (outer_fits (core.return_from x f) h))
      flat_fits s n (core.tagbody x fs) h = (
        subst (λ k. 1 ≤ k) (sym (forms_counted (with_around x s) n fs)) (leb-true 1 (core_counts.count_forms fs) (itself_fits (core.tagbody x fs) h)),
        forms_fit (with_around x s) n fs (inner_fits (core.tagbody x fs) h),
      )
      flat_fits s n (core.go x segment) h = tt
      flat_fits s n (core.dynamic_let ds body) h = (
        dynamics_fit s n ds (outer_fits (core.dynamic_let ds body) h),
        flat_fits s (n + functions_of_dynamics ds) body (head_fits body [] (inner_fits (core.dynamic_let ds body) h)),
      )
      flat_fits s n (core.dynamic name) h = tt
      flat_fits s n core.next_method h = tt
      flat_fits s n core.has_next h = tt
      flat_fits s n (core.sited site f) h =
          let there : (nat_le 1 site && nat_le site (length rows.sites)) ≡ true = itself_fits (core.sited site f) h in (
            leb-true 1 site (first_true (nat_le 1 site) (nat_le site (length rows.sites)) there),
            subst (λ ls. site ≤ length ls) (sym sites) (leb-true site (length rows.sites) (second_true (nat_le 1 site) (nat_le site (length rows.sites)) there)),
            flat_fits s n f (head_fits f [] (outer_fits (core.sited site f) h)),
          )
      flat_fits s n (core.set_global name f) h = flat_fits s n f (head_fits f [] (outer_fits (core.set_global name f) h))
      flat_fits s n (core.def_global name f) h = flat_fits s n f (head_fits f [] (outer_fits (core.def_global name f) h))
      flat_fits s n (core.set_dynamic name f) h = flat_fits s n f (head_fits f [] (outer_fits (core.set_dynamic name f) h))
      flat_fits s n (core.def_dynamic name f) h = flat_fits s n f (head_fits f [] (outer_fits (core.def_dynamic name f) h))
      flat_fits s n (core.apply f list) h =
          let os : list_all (fits rows) (f ∷ list ∷ []) ≡ true = outer_fits (core.apply f list) h in
          (flat_fits s n f (head_fits f (list ∷ []) os), flat_fits s (n + functions f) list (head_fits list [] (tail_fits f (list ∷ []) os)))
      flat_fits s n (core.while_form test body) h =
          let os : list_all (fits rows) (test ∷ body ∷ []) ≡ true = outer_fits (core.while_form test body) h in
          (flat_fits s n test (head_fits test (body ∷ []) os), flat_fits s (n + functions test) body (head_fits body [] (tail_fits test (body ∷ []) os)))
      flat_fits s n (core.catch_form tag body) h =
          let os : list_all (fits rows) (tag ∷ body ∷ []) ≡ true = outer_fits (core.catch_form tag body) h in
          (flat_fits s n tag (head_fits tag (body ∷ []) os), flat_fits s (n + functions tag) body (head_fits body [] (tail_fits tag (body ∷ []) os)))
      flat_fits s n (core.throw tag f) h =
          let os : list_all (fits rows) (tag ∷ f ∷ []) ≡ true = outer_fits (core.throw tag f) h in
          (flat_fits s n tag (head_fits tag (f ∷ []) os), flat_fits s (n + functions tag) f (head_fits f [] (tail_fits tag (f ∷ []) os)))
      flat_fits s n (core.unwind f cleanup) h =
          let os : list_all (fits rows) (f ∷ cleanup ∷ []) ≡ true = outer_fits (core.unwind f cleanup) h in
          (flat_fits s n f (head_fits f (cleanup ∷ []) os), flat_fits s (n + functions f) cleanup (head_fits cleanup [] (tail_fits f (cleanup ∷ []) os)))
      flat_fits s n (core.with_handler handler body) h =
          let os : list_all (fits rows) (handler ∷ body ∷ []) ≡ true = outer_fits (core.with_handler handler body) h in
          (flat_fits s n handler (head_fits handler (body ∷ []) os), flat_fits s (n + functions handler) body (head_fits body [] (tail_fits handler (body ∷ []) os)))
      flat_fits s n (core.signal_form condition mark) h =
          let os : list_all (fits rows) (condition ∷ mark ∷ []) ≡ true = outer_fits (core.signal_form condition mark) h in
          (flat_fits s n condition (head_fits condition (mark ∷ []) os), flat_fits s (n + functions condition) mark (head_fits mark [] (tail_fits condition (mark ∷ []) os)))
      flat_fits s n (core.continue_form condition f) h =
          let os : list_all (fits rows) (condition ∷ f ∷ []) ≡ true = outer_fits (core.continue_form condition f) h in
          (flat_fits s n condition (head_fits condition (f ∷ []) os), flat_fits s (n + functions condition) f (head_fits f [] (tail_fits condition (f ∷ []) os)))

      forms_fit : (s : Scope) (n : ℕ) (fs : Forms) → list_all (fits rows) (forms_list fs) ≡ true → FitForms program (flat_forms s n fs)
      forms_fit s n core.no_form h = tt
      forms_fit s n (core.form_and f fs) h =
          (flat_fits s n f (head_fits f (forms_list fs) h), forms_fit s (n + functions f) fs (tail_fits f (forms_list fs) h))

      clauses_fit : (s : Scope) (n : ℕ) (cs : ClauseForms) → list_all (fits rows) (clause_list cs) ≡ true → FitClauses program (flat_clauses s n cs)
      clauses_fit s n core.no_clause h = tt
      clauses_fit s n (core.clause_and test core.no_body cs) h = (
        flat_fits s n test (head_fits test (clause_list cs) h),
        tt,
        clauses_fit s (n + (functions test + 0)) cs (tail_fits test (clause_list cs) h),
      )
      clauses_fit s n (core.clause_and test (core.with_body f) cs) h =
          let rest : list_all (fits rows) (f ∷ clause_list cs) ≡ true = tail_fits test (f ∷ clause_list cs) h in (
            flat_fits s n test (head_fits test (f ∷ clause_list cs) h),
            flat_fits s (n + functions test) f (head_fits f (clause_list cs) rest),
            clauses_fit s (n + (functions test + functions f)) cs (tail_fits f (clause_list cs) rest),
          )

      values_fit : (s : Scope) (n : ℕ) (body : Form) (bs : BindingForms) → list_all (fits rows) (value_list bs) ≡ true → FitValues program (flat_bindings s n body bs)
      values_fit s n body core.no_binding h = tt
      values_fit s n body (core.binding_and v f bs) h =
          (flat_fits s n f (head_fits f (value_list bs) h), values_fit s (n + functions f) body bs (tail_fits f (value_list bs) h))

      dynamics_fit : (s : Scope) (n : ℕ) (ds : DynamicForms) → list_all (fits rows) (dynamic_value_list ds) ≡ true → FitDynamics program (flat_dynamics s n ds)
      dynamics_fit s n core.no_dynamic h = tt
      dynamics_fit s n (core.dynamic_and name f ds) h =
          (flat_fits s n f (head_fits f (dynamic_value_list ds) h), dynamics_fit s (n + functions f) ds (tail_fits f (dynamic_value_list ds) h))

    abbrev BodyFits : FlatProcedure → Type 0
    BodyFits p = Fits program p.body

    mutual
      pub inner_fit : (s : Scope) (n : ℕ) (f : Form) → fits rows f ≡ true → AllOf BodyFits (inner_procedures s n f)
      inner_fit s n (core.literal i) h = tt
      inner_fit s n (core.local v) h = tt
      inner_fit s n (core.set_local v f) h = inner_fit s n f (head_fits f [] (outer_fits (core.set_local v f) h))
      inner_fit s n (core.global name) h = tt
      inner_fit s n (core.clauses cs) h = clauses_inside s n cs (outer_fits (core.clauses cs) h)
      inner_fit s n (core.sequence fs) h = forms_inside s n fs (outer_fits (core.sequence fs) h)
      inner_fit s n (core.let_form bs body) h =
          both BodyFits (procedures_of_values s n bs) _ (values_inside s n bs (outer_fits (core.let_form bs body) h))
          (inner_fit (with_bound (bound_variables bs) body s) (n + functions_of_values bs) body (head_fits body [] (inner_fits (core.let_form bs body) h)))
      inner_fit s n (core.lambda required rest body parts) h =
          let b : fits rows body ≡ true = head_fits body [] (inner_fits (core.lambda required rest body parts) h) in
          (flat_fits (body_scope required rest body (seen s parts)) (n + 1) body b, inner_fit (body_scope required rest body (seen s parts)) (n + 1) body b)
      inner_fit s n (core.call name fs) h = forms_inside s n fs (outer_fits (core.call name fs) h)
      inner_fit s n (core.call_value fs) h = forms_inside s n fs (outer_fits (core.call_value fs) h)
      inner_fit s n (core.prim which fs) h = forms_inside s n fs (outer_fits (core.prim which fs) h)
      inner_fit s n (core.block x body) h = inner_fit (with_around x s) n body (head_fits body [] (inner_fits (core.block x body) h))
      inner_fit s n (core.return_from x f) h = inner_fit s n f (head_fits f [] (outer_fits (core.return_from x f) h))
      inner_fit s n (core.tagbody x fs) h = forms_inside (with_around x s) n fs (inner_fits (core.tagbody x fs) h)
      inner_fit s n (core.go x segment) h = tt
      inner_fit s n (core.dynamic_let ds body) h =
          both BodyFits (procedures_of_dynamics s n ds) _ (dynamics_inside s n ds (outer_fits (core.dynamic_let ds body) h))
          (inner_fit s (n + functions_of_dynamics ds) body (head_fits body [] (inner_fits (core.dynamic_let ds body) h)))
      inner_fit s n (core.dynamic name) h = tt
      inner_fit s n core.next_method h = tt
      inner_fit s n core.has_next h = tt
      inner_fit s n (core.sited site f) h = inner_fit s n f (head_fits f [] (outer_fits (core.sited site f) h))
      inner_fit s n (core.set_global name f) h = inner_fit s n f (head_fits f [] (outer_fits (core.set_global name f) h))
      inner_fit s n (core.def_global name f) h = inner_fit s n f (head_fits f [] (outer_fits (core.def_global name f) h))
      inner_fit s n (core.set_dynamic name f) h = inner_fit s n f (head_fits f [] (outer_fits (core.set_dynamic name f) h))
      inner_fit s n (core.def_dynamic name f) h = inner_fit s n f (head_fits f [] (outer_fits (core.def_dynamic name f) h))
      inner_fit s n (core.apply f list) h =
          let os : list_all (fits rows) (f ∷ list ∷ []) ≡ true = outer_fits (core.apply f list) h in
          both BodyFits (inner_procedures s n f) _ (inner_fit s n f (head_fits f (list ∷ []) os)) (inner_fit s (n + functions f) list (head_fits list [] (tail_fits f (list ∷ []) os)))
      inner_fit s n (core.while_form test body) h =
          let os : list_all (fits rows) (test ∷ body ∷ []) ≡ true = outer_fits (core.while_form test body) h in
          both BodyFits (inner_procedures s n test) _ (inner_fit s n test (head_fits test (body ∷ []) os)) (inner_fit s (n + functions test) body (head_fits body [] (tail_fits test (body ∷ []) os)))
      inner_fit s n (core.catch_form tag body) h =
          let os : list_all (fits rows) (tag ∷ body ∷ []) ≡ true = outer_fits (core.catch_form tag body) h in
          both BodyFits (inner_procedures s n tag) _ (inner_fit s n tag (head_fits tag (body ∷ []) os)) (inner_fit s (n + functions tag) body (head_fits body [] (tail_fits tag (body ∷ []) os)))
      inner_fit s n (core.throw tag f) h =
          let os : list_all (fits rows) (tag ∷ f ∷ []) ≡ true = outer_fits (core.throw tag f) h in
          both BodyFits (inner_procedures s n tag) _ (inner_fit s n tag (head_fits tag (f ∷ []) os)) (inner_fit s (n + functions tag) f (head_fits f [] (tail_fits tag (f ∷ []) os)))
      inner_fit s n (core.unwind f cleanup) h =
          let os : list_all (fits rows) (f ∷ cleanup ∷ []) ≡ true = outer_fits (core.unwind f cleanup) h in
          both BodyFits (inner_procedures s n f) _ (inner_fit s n f (head_fits f (cleanup ∷ []) os)) (inner_fit s (n + functions f) cleanup (head_fits cleanup [] (tail_fits f (cleanup ∷ []) os)))
      inner_fit s n (core.with_handler handler body) h =
          let os : list_all (fits rows) (handler ∷ body ∷ []) ≡ true = outer_fits (core.with_handler handler body) h in
          both BodyFits (inner_procedures s n handler) _ (inner_fit s n handler (head_fits handler (body ∷ []) os)) (inner_fit s (n + functions handler) body (head_fits body [] (tail_fits handler (body ∷ []) os)))
      inner_fit s n (core.signal_form condition mark) h =
          let os : list_all (fits rows) (condition ∷ mark ∷ []) ≡ true = outer_fits (core.signal_form condition mark) h in
          both BodyFits (inner_procedures s n condition) _ (inner_fit s n condition (head_fits condition (mark ∷ []) os)) (inner_fit s (n + functions condition) mark (head_fits mark [] (tail_fits condition (mark ∷ []) os)))
      inner_fit s n (core.continue_form condition f) h =
          let os : list_all (fits rows) (condition ∷ f ∷ []) ≡ true = outer_fits (core.continue_form condition f) h in
          both BodyFits (inner_procedures s n condition) _ (inner_fit s n condition (head_fits condition (f ∷ []) os)) (inner_fit s (n + functions condition) f (head_fits f [] (tail_fits condition (f ∷ []) os)))

      forms_inside : (s : Scope) (n : ℕ) (fs : Forms) → list_all (fits rows) (forms_list fs) ≡ true → AllOf BodyFits (procedures_of_forms s n fs)
      forms_inside s n core.no_form h = tt
      forms_inside s n (core.form_and f fs) h =
          both BodyFits (inner_procedures s n f) _ (inner_fit s n f (head_fits f (forms_list fs) h)) (forms_inside s (n + functions f) fs (tail_fits f (forms_list fs) h))

      clauses_inside : (s : Scope) (n : ℕ) (cs : ClauseForms) → list_all (fits rows) (clause_list cs) ≡ true → AllOf BodyFits (procedures_of_clauses s n cs)
      clauses_inside s n core.no_clause h = tt
      clauses_inside s n (core.clause_and test core.no_body cs) h =
          both BodyFits (inner_procedures s n test ++ []) _ (both BodyFits (inner_procedures s n test) [] (inner_fit s n test (head_fits test (clause_list cs) h)) tt)
          (clauses_inside s (n + (functions test + 0)) cs (tail_fits test (clause_list cs) h))
      clauses_inside s n (core.clause_and test (core.with_body f) cs) h =
          let rest : list_all (fits rows) (f ∷ clause_list cs) ≡ true = tail_fits test (f ∷ clause_list cs) h in
          both BodyFits (inner_procedures s n test ++ inner_procedures s (n + functions test) f) _
          (both BodyFits (inner_procedures s n test) _ (inner_fit s n test (head_fits test (f ∷ clause_list cs) h)) (inner_fit s (n + functions test) f (head_fits f (clause_list cs) rest)))
          (clauses_inside s (n + (functions test + functions f)) cs (tail_fits f (clause_list cs) rest))

      values_inside : (s : Scope) (n : ℕ) (bs : BindingForms) → list_all (fits rows) (value_list bs) ≡ true → AllOf BodyFits (procedures_of_values s n bs)
      values_inside s n core.no_binding h = tt
      values_inside s n (core.binding_and v f bs) h =
          both BodyFits (inner_procedures s n f) _ (inner_fit s n f (head_fits f (value_list bs) h)) (values_inside s (n + functions f) bs (tail_fits f (value_list bs) h))

      dynamics_inside : (s : Scope) (n : ℕ) (ds : DynamicForms) → list_all (fits rows) (dynamic_value_list ds) ≡ true → AllOf BodyFits (procedures_of_dynamics s n ds)
      dynamics_inside s n core.no_dynamic h = tt
      dynamics_inside s n (core.dynamic_and name f ds) h =
          both BodyFits (inner_procedures s n f) _ (inner_fit s n f (head_fits f (dynamic_value_list ds) h)) (dynamics_inside s (n + functions f) ds (tail_fits f (dynamic_value_list ds) h))

    -- procedures, and main forms, one after another
    body_fitting : (f : Form) → body_fits rows f ≡ true → fits rows f ≡ true
    body_fitting f h = first_true (fits rows f) (nat_le (core_counts.depth f) 1000) h

    procedures_fit : (n : ℕ) (qs : List Procedure) → list_all (λ q. body_fits rows q.body) qs ≡ true → AllOf BodyFits (flat_procedures n qs)
    procedures_fit n [] h = tt
    procedures_fit n (q ∷ qs) h = (
      flat_fits (body_scope q.required q.rest q.body no_scope) n q.body (body_fitting q.body (first_true (body_fits rows q.body) (list_all (λ q. body_fits rows q.body) qs) h)),
      procedures_fit (n + functions q.body) qs (second_true (body_fits rows q.body) (list_all (λ q. body_fits rows q.body) qs) h),
    )

    inner_procedures_fit : (n : ℕ) (qs : List Procedure) → list_all (λ q. body_fits rows q.body) qs ≡ true → AllOf BodyFits (inner_of_procedures n qs)
    inner_procedures_fit n [] h = tt
    inner_procedures_fit n (q ∷ qs) h =
        both BodyFits (inner_procedures (body_scope q.required q.rest q.body no_scope) n q.body) _
        (inner_fit (body_scope q.required q.rest q.body no_scope) n q.body (body_fitting q.body (first_true (body_fits rows q.body) (list_all (λ q. body_fits rows q.body) qs) h)))
        (inner_procedures_fit (n + functions q.body) qs (second_true (body_fits rows q.body) (list_all (λ q. body_fits rows q.body) qs) h))

    main_fitting : (f : Form) (fs : List Form) → list_all (λ f. body_fits rows f && stands_alone false f) (f ∷ fs) ≡ true → fits rows f ≡ true
    main_fitting f fs h =
        body_fitting f (first_true (body_fits rows f) (stands_alone false f)
        (first_true (body_fits rows f && stands_alone false f) (list_all (λ f. body_fits rows f && stands_alone false f) fs) h))

    mains_fit : (n : ℕ) (fs : List Form) → list_all (λ f. body_fits rows f && stands_alone false f) fs ≡ true → AllOf (Fits program) (flat_mains n fs)
    mains_fit n [] h = tt
    mains_fit n (f ∷ fs) h = (
      flat_fits no_scope n f (main_fitting f fs h),
      mains_fit (n + functions f) fs (second_true (body_fits rows f && stands_alone false f) (list_all (λ f. body_fits rows f && stands_alone false f) fs) h),
    )

    inner_mains_fit : (n : ℕ) (fs : List Form) → list_all (λ f. body_fits rows f && stands_alone false f) fs ≡ true → AllOf BodyFits (inner_of_mains n fs)
    inner_mains_fit n [] h = tt
    inner_mains_fit n (f ∷ fs) h =
        both BodyFits (inner_procedures no_scope n f) _ (inner_fit no_scope n f (main_fitting f fs h))
        (inner_mains_fit (n + functions f) fs (second_true (body_fits rows f && stands_alone false f) (list_all (λ f. body_fits rows f && stands_alone false f) fs) h))

pub whole_fits : (program : ProgramRows) → is_whole program ≡ true → ProgramFits (flat_program program)
whole_fits program whole =
    let flat_rows : FlatProgram = flat_program program in
    let sound : (rows_fit program && bodies_stand program) ≡ true = first_true (rows_fit program && bodies_stand program) (nat_le (program_cells program) 262144) whole in
    let fit : rows_fit program ≡ true = first_true (rows_fit program) (bodies_stand program) sound in
    let stand : bodies_stand program ≡ true = second_true (rows_fit program) (bodies_stand program) sound in
    let bodies : list_all (λ p. body_fits program p.body) program.procedures ≡ true =
    second_true _ (list_all (λ p. body_fits program p.body) program.procedures)
    (first_true _ (all_differ same_name program.functions)
    (first_true _ (nat_le (length program.sites) 100000)
    (first_true _ (nat_le (program_nodes program) 100000) fit))) in
    let mains : list_all (λ f. body_fits program f && stands_alone false f) program.main ≡ true =
    second_true _ (list_all (λ f. body_fits program f && stands_alone false f) program.main)
    (first_true _ (procedures_stand program 0 program.procedures) stand) in
    record {
      procedures = procedures_fit program flat_rows refl refl 0 program.procedures bodies;
      lambdas = both (λ (p : FlatProcedure). Fits flat_rows p.body) (inner_of_procedures 0 program.procedures) _
          (inner_procedures_fit program flat_rows refl refl 0 program.procedures bodies)
          (inner_mains_fit program flat_rows refl refl (functions_of_procedures program.procedures) program.main mains);
      main = mains_fit program flat_rows refl refl (functions_of_procedures program.procedures) program.main mains;
    }
