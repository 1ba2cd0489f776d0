-- The forms right inside a form, and the walk over all forms inside one another: what is found of a form is made of the
-- form and of what is found of those right inside it.
use Rattle.std.specs.Prelude.{⊤, List, [], ◌∷◌, ◌++◌}
use Rattle.lang_meaning.specs.Form.{Form, literal, local, set_local, global, set_global, def_global, clauses, sequence, let_form, lambda, call, call_value, apply, prim, while_form, block, return_from, tagbody, go, catch_form, throw, unwind, dynamic_let, dynamic, set_dynamic, def_dynamic, with_handler, signal_form, continue_form, next_method, has_next, sited}
use Rattle.lang_meaning.specs.Form.{Forms, no_form, form_and, ClauseForms, no_clause, clause_and, MaybeForm, no_body, with_body}
use Rattle.lang_meaning.specs.Form.{BindingForms, no_binding, binding_and, DynamicForms, no_dynamic, dynamic_and}

-- the forms of a list, and the values of bindings
abbrev pub forms_list : Forms → List Form
forms_list no_form = []
forms_list (form_and f fs) = f ∷ forms_list fs

abbrev pub body_list : MaybeForm → List Form
body_list no_body = []
body_list (with_body f) = f ∷ []

abbrev pub clause_list : ClauseForms → List Form
clause_list no_clause = []
clause_list (clause_and test body cs) = test ∷ (body_list body ++ clause_list cs)

abbrev pub value_list : BindingForms → List Form
value_list no_binding = []
value_list (binding_and v f bs) = f ∷ value_list bs

abbrev pub dynamic_value_list : DynamicForms → List Form
dynamic_value_list no_dynamic = []
dynamic_value_list (dynamic_and n f ds) = f ∷ dynamic_value_list ds

-- the forms inside that stand where the form stands
abbrev pub outer : Form → List Form
outer (set_local v f) = f ∷ []
outer (set_global n f) = f ∷ []
outer (def_global n f) = f ∷ []
outer (clauses cs) = clause_list cs
outer (sequence fs) = forms_list fs
outer (let_form bs body) = value_list bs
outer (call n fs) = forms_list fs
outer (call_value fs) = forms_list fs
outer (apply function list) = function ∷ list ∷ []
outer (prim which fs) = forms_list fs
outer (while_form test body) = test ∷ body ∷ []
outer (return_from x f) = f ∷ []
outer (catch_form tag body) = tag ∷ body ∷ []
outer (throw tag f) = tag ∷ f ∷ []
outer (unwind f cleanup) = f ∷ cleanup ∷ []
outer (dynamic_let ds body) = dynamic_value_list ds
outer (set_dynamic n f) = f ∷ []
outer (def_dynamic n f) = f ∷ []
outer (with_handler handler body) = handler ∷ body ∷ []
outer (signal_form condition mark) = condition ∷ mark ∷ []
outer (continue_form condition f) = condition ∷ f ∷ []
outer (sited site f) = f ∷ []
outer f = []

-- those that stand where what the form binds is bound
abbrev pub inner : Form → List Form
inner (let_form bs body) = body ∷ []
inner (lambda required rest body parts) = body ∷ []
inner (block x body) = body ∷ []
inner (tagbody x segments) = forms_list segments
inner (dynamic_let ds body) = body ∷ []
inner f = []

-- the walk: a step makes what is found of a form of what is found of its outer and its inner forms
module _ {X : Type 0} (step : Form → List X → List X → X) where
  abbrev mutual
    pub fold : Form → X
    fold (literal i) = step (literal i) [] []
    fold (local v) = step (local v) [] []
    fold (set_local v f) = step (set_local v f) (fold f ∷ []) []
    fold (global n) = step (global n) [] []
    fold (set_global n f) = step (set_global n f) (fold f ∷ []) []
    fold (def_global n f) = step (def_global n f) (fold f ∷ []) []
    fold (clauses cs) = step (clauses cs) (fold_clauses cs) []
    fold (sequence fs) = step (sequence fs) (fold_forms fs) []
    fold (let_form bs body) = step (let_form bs body) (fold_values bs) (fold body ∷ [])
    fold (lambda required rest body parts) = step (lambda required rest body parts) [] (fold body ∷ [])
    fold (call n fs) = step (call n fs) (fold_forms fs) []
    fold (call_value fs) = step (call_value fs) (fold_forms fs) []
    fold (apply function list) = step (apply function list) (fold function ∷ fold list ∷ []) []
    fold (prim which fs) = step (prim which fs) (fold_forms fs) []
    fold (while_form test body) = step (while_form test body) (fold test ∷ fold body ∷ []) []
    fold (block x body) = step (block x body) [] (fold body ∷ [])
    fold (return_from x f) = step (return_from x f) (fold f ∷ []) []
    fold (tagbody x segments) = step (tagbody x segments) [] (fold_forms segments)
    fold (go x segment) = step (go x segment) [] []
    fold (catch_form tag body) = step (catch_form tag body) (fold tag ∷ fold body ∷ []) []
    fold (throw tag f) = step (throw tag f) (fold tag ∷ fold f ∷ []) []
    fold (unwind f cleanup) = step (unwind f cleanup) (fold f ∷ fold cleanup ∷ []) []
    fold (dynamic_let ds body) = step (dynamic_let ds body) (fold_dynamics ds) (fold body ∷ [])
    fold (dynamic n) = step (dynamic n) [] []
    fold (set_dynamic n f) = step (set_dynamic n f) (fold f ∷ []) []
    fold (def_dynamic n f) = step (def_dynamic n f) (fold f ∷ []) []
    fold (with_handler handler body) = step (with_handler handler body) (fold handler ∷ fold body ∷ []) []
    fold (signal_form condition mark) = step (signal_form condition mark) (fold condition ∷ fold mark ∷ []) []
    fold (continue_form condition f) = step (continue_form condition f) (fold condition ∷ fold f ∷ []) []
    fold next_method = step next_method [] []
    fold has_next = step has_next [] []
    fold (sited site f) = step (sited site f) (fold f ∷ []) []

    pub fold_forms : Forms → List X
    fold_forms no_form = []
    fold_forms (form_and f fs) = fold f ∷ fold_forms fs

    pub fold_clauses : ClauseForms → List X
    fold_clauses no_clause = []
    fold_clauses (clause_and test body cs) = fold test ∷ (fold_body body ++ fold_clauses cs)

    pub fold_body : MaybeForm → List X
    fold_body no_body = []
    fold_body (with_body f) = fold f ∷ []

    pub fold_values : BindingForms → List X
    fold_values no_binding = []
    fold_values (binding_and v f bs) = fold f ∷ fold_values bs

    pub fold_dynamics : DynamicForms → List X
    fold_dynamics no_dynamic = []
    fold_dynamics (dynamic_and n f ds) = fold f ∷ fold_dynamics ds
