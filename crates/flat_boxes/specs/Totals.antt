-- What is counted of forms themselves, over a form and all forms in it.
use Rattle.std.specs.Prelude.{ℕ, ◌+◌}
use Rattle.flat_language.specs.FlatForm.{FlatForm, literal, local, set_local, global, set_global, def_global, clauses, sequence, let_form, make_function, call, call_value, apply, prim, while_form, block, return_from, tagbody, go, catch_form, throw, unwind, dynamic_let, dynamic, set_dynamic, def_dynamic, with_handler, signal_form, continue_form, next_method, has_next, sited}
use Rattle.flat_language.specs.FlatForm.{FlatForms, no_form, form_and, FlatClauses, no_clause, clause_and, FlatBody, no_body, with_body}
use Rattle.flat_language.specs.FlatForm.{FlatBindings, no_binding, binding_and, FlatDynamics, no_dynamic, dynamic_and}

module _ (own : FlatForm → ℕ) where
  abbrev mutual
    pub total : FlatForm → ℕ
    total (literal i) = own (literal i)
    total (local p) = own (local p)
    total (global n) = own (global n)
    total (make_function p parts) = own (make_function p parts)
    total (go x segment) = own (go x segment)
    total (dynamic n) = own (dynamic n)
    total (next_method m) = own (next_method m)
    total (has_next m) = own (has_next m)
    total (set_local p f) = own (set_local p f) + total f
    total (set_global n f) = own (set_global n f) + total f
    total (def_global n f) = own (def_global n f) + total f
    total (return_from x f) = own (return_from x f) + total f
    total (set_dynamic n f) = own (set_dynamic n f) + total f
    total (def_dynamic n f) = own (def_dynamic n f) + total f
    total (sited site f) = own (sited site f) + total f
    total (block body) = own (block body) + total body
    total (clauses cs) = own (clauses cs) + total_of_clauses cs
    total (sequence fs) = own (sequence fs) + total_of_forms fs
    total (call n fs) = own (call n fs) + total_of_forms fs
    total (call_value fs) = own (call_value fs) + total_of_forms fs
    total (prim which fs) = own (prim which fs) + total_of_forms fs
    total (tagbody segments) = own (tagbody segments) + total_of_forms segments
    total (let_form bs body) = own (let_form bs body) + (total_of_values bs + total body)
    total (dynamic_let ds body) = own (dynamic_let ds body) + (total_of_dynamics ds + total body)
    total (apply f list) = own (apply f list) + (total f + total list)
    total (while_form test body) = own (while_form test body) + (total test + total body)
    total (catch_form tag body) = own (catch_form tag body) + (total tag + total body)
    total (throw tag f) = own (throw tag f) + (total tag + total f)
    total (unwind f cleanup) = own (unwind f cleanup) + (total f + total cleanup)
    total (with_handler handler body) = own (with_handler handler body) + (total handler + total body)
    total (signal_form condition mark) = own (signal_form condition mark) + (total condition + total mark)
    total (continue_form condition f) = own (continue_form condition f) + (total condition + total f)

    pub total_of_forms : FlatForms → ℕ
    total_of_forms no_form = 0
    total_of_forms (form_and f fs) = total f + total_of_forms fs

    pub total_of_clauses : FlatClauses → ℕ
    total_of_clauses no_clause = 0
    total_of_clauses (clause_and test body cs) = total test + (total_of_body body + total_of_clauses cs)

    pub total_of_body : FlatBody → ℕ
    total_of_body no_body = 0
    total_of_body (with_body f) = total f

    pub total_of_values : FlatBindings → ℕ
    total_of_values no_binding = 0
    total_of_values (binding_and h f bs) = total f + total_of_values bs

    pub total_of_dynamics : FlatDynamics → ℕ
    total_of_dynamics no_dynamic = 0
    total_of_dynamics (dynamic_and n f ds) = total f + total_of_dynamics ds
