-- Whether the code of a form looks at the site that it is given: where some form in it, around which no site stands, may signal a
-- condition, or calls what may.
use Rattle.std.specs.Prelude.{Bool, true, false, ◌||◌}
use Rattle.flat_language.specs.FlatForm.{FlatForm, literal, local, set_local, global, set_global, def_global, clauses, sequence, let_form, make_function, call, call_value, apply, prim, while_form, block, return_from, tagbody, go, catch_form, throw, unwind, dynamic_let, dynamic, set_dynamic, def_dynamic, with_handler, signal_form, continue_form, next_method, has_next, sited}
use Rattle.flat_language.specs.FlatForm.{FlatForms, no_form, form_and, FlatClauses, no_clause, clause_and, FlatBody, no_body, with_body}
use Rattle.flat_language.specs.FlatForm.{FlatBindings, no_binding, binding_and, FlatDynamics, no_dynamic, dynamic_and}

abbrev mutual
  pub asks_site : FlatForm → Bool
  asks_site (literal i) = true
  asks_site (local p) = false
  asks_site (set_local p f) = asks_site f
  asks_site (global n) = true
  asks_site (set_global n f) = true
  asks_site (def_global n f) = asks_site f
  asks_site (clauses cs) = clauses_ask cs
  asks_site (sequence fs) = forms_ask fs
  asks_site (let_form bs body) = bindings_ask bs || asks_site body
  asks_site (make_function p parts) = false
  asks_site (call n fs) = true
  asks_site (call_value fs) = true
  asks_site (apply f list) = true
  asks_site (prim which fs) = true
  asks_site (while_form test body) = asks_site test || asks_site body
  asks_site (block body) = asks_site body
  asks_site (return_from x f) = true
  asks_site (tagbody segments) = forms_ask segments
  asks_site (go x segment) = true
  asks_site (catch_form tag body) = asks_site tag || asks_site body
  asks_site (throw tag f) = true
  asks_site (unwind f cleanup) = asks_site f || asks_site cleanup
  asks_site (dynamic_let ds body) = dynamics_ask ds || asks_site body
  asks_site (dynamic n) = true
  asks_site (set_dynamic n f) = true
  asks_site (def_dynamic n f) = asks_site f
  asks_site (with_handler handler body) = true
  asks_site (signal_form condition mark) = true
  asks_site (continue_form condition f) = true
  asks_site (next_method m) = true
  asks_site (has_next m) = false
  asks_site (sited site f) = false

  pub forms_ask : FlatForms → Bool
  forms_ask no_form = false
  forms_ask (form_and f fs) = asks_site f || forms_ask fs

  pub clauses_ask : FlatClauses → Bool
  clauses_ask no_clause = false
  clauses_ask (clause_and test body cs) = asks_site test || (body_asks body || clauses_ask cs)

  pub body_asks : FlatBody → Bool
  body_asks no_body = false
  body_asks (with_body f) = asks_site f

  pub bindings_ask : FlatBindings → Bool
  bindings_ask no_binding = false
  bindings_ask (binding_and h f bs) = asks_site f || bindings_ask bs

  pub dynamics_ask : FlatDynamics → Bool
  dynamics_ask no_dynamic = false
  dynamics_ask (dynamic_and n f ds) = asks_site f || dynamics_ask ds
