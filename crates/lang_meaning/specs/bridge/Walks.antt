-- The walk over forms as proofs use it: one step of it by the forms right inside, induction over them, and that they are
-- smaller.
use Rattle.std.specs.Prelude.{◌≡◌, List, [], ◌∷◌, map, refl}
use Rattle.std.proofs.Common.{ap}
use Rattle.base.specs.AllOf.{AllOf}
use Rattle.lang_meaning.specs.Form.{Form, literal, local, set_local, global, set_global, def_global, clauses, sequence, let_form, lambda, call, call_value, apply, prim, while_form, block, return_from, tagbody, go, catch_form, throw, unwind, dynamic_let, dynamic, set_dynamic, def_dynamic, with_handler, signal_form, continue_form, next_method, has_next, sited}
use Rattle.lang_meaning.specs.Form.{Forms, no_form, form_and, ClauseForms, no_clause, clause_and, no_body, with_body}
use Rattle.lang_meaning.specs.Form.{BindingForms, no_binding, binding_and, DynamicForms, no_dynamic, dynamic_and}
use Rattle.lang_meaning.specs.Subforms.{forms_list, clause_list, value_list, dynamic_value_list, outer, inner, fold, fold_forms, fold_clauses, fold_values, fold_dynamics}

-- a step of the walk, over the forms right inside

module _ {X : Type 0} (step : Form → List X → List X → X) where
  forms_folded : (fs : Forms) → fold_forms step fs ≡ map (fold step) (forms_list fs)
  forms_folded no_form = refl
  forms_folded (form_and f fs) = ap (λ xs. fold step f ∷ xs) (forms_folded fs)

  clauses_folded : (cs : ClauseForms) → fold_clauses step cs ≡ map (fold step) (clause_list cs)
  clauses_folded no_clause = refl
  clauses_folded (clause_and test no_body cs) = ap (λ xs. fold step test ∷ xs) (clauses_folded cs)
  clauses_folded (clause_and test (with_body f) cs) = ap (λ xs. fold step test ∷ fold step f ∷ xs) (clauses_folded cs)

  values_folded : (bs : BindingForms) → fold_values step bs ≡ map (fold step) (value_list bs)
  values_folded no_binding = refl
  values_folded (binding_and v f bs) = ap (λ xs. fold step f ∷ xs) (values_folded bs)

  dynamics_folded : (ds : DynamicForms) → fold_dynamics step ds ≡ map (fold step) (dynamic_value_list ds)
  dynamics_folded no_dynamic = refl
  dynamics_folded (dynamic_and n f ds) = ap (λ xs. fold step f ∷ xs) (dynamics_folded ds)

  pub folded : (f : Form) → fold step f ≡ step f (map (fold step) (outer f)) (map (fold step) (inner f))
  folded (literal i) = refl
  folded (local v) = refl
  folded (set_local v f) = refl
  folded (global n) = refl
  folded (set_global n f) = refl
  folded (def_global n f) = refl
  folded (clauses cs) = ap (λ xs. step (clauses cs) xs []) (clauses_folded cs)
  folded (sequence fs) = ap (λ xs. step (sequence fs) xs []) (forms_folded fs)
  folded (let_form bs body) = ap (λ xs. step (let_form bs body) xs (fold step body ∷ [])) (values_folded bs)
  folded (lambda required rest body parts) = refl
  folded (call n fs) = ap (λ xs. step (call n fs) xs []) (forms_folded fs)
  folded (call_value fs) = ap (λ xs. step (call_value fs) xs []) (forms_folded fs)
  folded (apply function list) = refl
  folded (prim which fs) = ap (λ xs. step (prim which fs) xs []) (forms_folded fs)
  folded (while_form test body) = refl
  folded (block x body) = refl
  folded (return_from x f) = refl
  folded (tagbody x segments) = ap (λ xs. step (tagbody x segments) [] xs) (forms_folded segments)
  folded (go x segment) = refl
  folded (catch_form tag body) = refl
  folded (throw tag f) = refl
  folded (unwind f cleanup) = refl
  folded (dynamic_let ds body) = ap (λ xs. step (dynamic_let ds body) xs (fold step body ∷ [])) (dynamics_folded ds)
  folded (dynamic n) = refl
  folded (set_dynamic n f) = refl
  folded (def_dynamic n f) = refl
  folded (with_handler handler body) = refl
  folded (signal_form condition mark) = refl
  folded (continue_form condition f) = refl
  folded next_method = refl
  folded has_next = refl
  folded (sited site f) = refl

-- induction: what holds of a form where it holds of the forms right inside it holds of each form

module _ (P : Form → Type 0) (step : (f : Form) → AllOf P (outer f) → AllOf P (inner f) → P f) where
  mutual
    pub by_subforms : (f : Form) → P f
    by_subforms (literal i) = step (literal i) tt tt
    by_subforms (local v) = step (local v) tt tt
    by_subforms (set_local v f) = step (set_local v f) (by_subforms f, tt) tt
    by_subforms (global n) = step (global n) tt tt
    by_subforms (set_global n f) = step (set_global n f) (by_subforms f, tt) tt
    by_subforms (def_global n f) = step (def_global n f) (by_subforms f, tt) tt
    by_subforms (clauses cs) = step (clauses cs) (by_clauses cs) tt
    by_subforms (sequence fs) = step (sequence fs) (by_forms fs) tt
    by_subforms (let_form bs body) = step (let_form bs body) (by_values bs) (by_subforms body, tt)
    by_subforms (lambda required rest body parts) = step (lambda required rest body parts) tt (by_subforms body, tt)
    by_subforms (call n fs) = step (call n fs) (by_forms fs) tt
    by_subforms (call_value fs) = step (call_value fs) (by_forms fs) tt
    by_subforms (apply function list) = step (apply function list) (by_subforms function, (by_subforms list, tt)) tt
    by_subforms (prim which fs) = step (prim which fs) (by_forms fs) tt
    by_subforms (while_form test body) = step (while_form test body) (by_subforms test, (by_subforms body, tt)) tt
    by_subforms (block x body) = step (block x body) tt (by_subforms body, tt)
    by_subforms (return_from x f) = step (return_from x f) (by_subforms f, tt) tt
    by_subforms (tagbody x segments) = step (tagbody x segments) tt (by_forms segments)
    by_subforms (go x segment) = step (go x segment) tt tt
    by_subforms (catch_form tag body) = step (catch_form tag body) (by_subforms tag, (by_subforms body, tt)) tt
    by_subforms (throw tag f) = step (throw tag f) (by_subforms tag, (by_subforms f, tt)) tt
    by_subforms (unwind f cleanup) = step (unwind f cleanup) (by_subforms f, (by_subforms cleanup, tt)) tt
    by_subforms (dynamic_let ds body) = step (dynamic_let ds body) (by_dynamics ds) (by_subforms body, tt)
    by_subforms (dynamic n) = step (dynamic n) tt tt
    by_subforms (set_dynamic n f) = step (set_dynamic n f) (by_subforms f, tt) tt
    by_subforms (def_dynamic n f) = step (def_dynamic n f) (by_subforms f, tt) tt
    by_subforms (with_handler handler body) = step (with_handler handler body) (by_subforms handler, (by_subforms body, tt)) tt
    by_subforms (signal_form condition mark) = step (signal_form condition mark) (by_subforms condition, (by_subforms mark, tt)) tt
    by_subforms (continue_form condition f) = step (continue_form condition f) (by_subforms condition, (by_subforms f, tt)) tt
    by_subforms next_method = step next_method tt tt
    by_subforms has_next = step has_next tt tt
    by_subforms (sited site f) = step (sited site f) (by_subforms f, tt) tt

    by_forms : (fs : Forms) → AllOf P (forms_list fs)
    by_forms no_form = tt
    by_forms (form_and f fs) = (by_subforms f, by_forms fs)

    by_clauses : (cs : ClauseForms) → AllOf P (clause_list cs)
    by_clauses no_clause = tt
    by_clauses (clause_and test no_body cs) = (by_subforms test, by_clauses cs)
    by_clauses (clause_and test (with_body f) cs) = (by_subforms test, (by_subforms f, by_clauses cs))

    by_values : (bs : BindingForms) → AllOf P (value_list bs)
    by_values no_binding = tt
    by_values (binding_and v f bs) = (by_subforms f, by_values bs)

    by_dynamics : (ds : DynamicForms) → AllOf P (dynamic_value_list ds)
    by_dynamics no_dynamic = tt
    by_dynamics (dynamic_and n f ds) = (by_subforms f, by_dynamics ds)
