-- How many registers, from the one of its result on, the code of a form uses for itself.
use Rattle.std.specs.Prelude.{ℕ, ◌+◌, max}
use Rattle.flat_language.specs.FlatForm.{FlatForm, literal, local, set_local, global, set_global, def_global, clauses, sequence, let_form, make_function, call, call_value, apply, prim, while_form, block, return_from, tagbody, go, catch_form, throw, unwind, dynamic_let, dynamic, set_dynamic, def_dynamic, with_handler, signal_form, continue_form, next_method, has_next, sited}
use Rattle.flat_language.specs.FlatForm.{FlatForms, no_form, form_and, FlatClauses, no_clause, clause_and, FlatBody, no_body, with_body}
use Rattle.flat_language.specs.FlatForm.{FlatBindings, no_binding, binding_and, FlatDynamics, no_dynamic, dynamic_and}
use Rattle.flat_language.specs.FlatNodes.{count_forms, count_bindings, count_dynamics}

-- A value that is judged has one more register than its own. The records of blocks, catches and cleanups take five behind the first, and their
-- body comes behind them; so the variables of a let, dynamic bindings and handlers. What calls or signals takes those that it needs behind its
-- arguments.
abbrev mutual
  pub height : FlatForm → ℕ
  height (literal i) = 2
  height (local p) = 2
  height (set_local p f) = max 2 (height f)
  height (global n) = 2
  height (set_global n f) = max 3 (height f)
  height (def_global n f) = max 2 (height f)
  height (clauses cs) = height_of_clauses cs
  height (sequence fs) = max 2 (height_of_forms fs)
  height (let_form bs body) = max (height_of_values bs) (count_bindings bs + max 2 (height body))
  height (make_function p parts) = 3
  height (call n fs) = max (count_forms fs + 3) (height_of_arguments fs)
  height (call_value fs) = max (count_forms fs + 3) (height_of_arguments fs)
  height (apply f list) = max 4 (max (height f) (1 + height list))
  height (prim which fs) = max (count_forms fs + 3) (height_of_arguments fs)
  height (while_form test body) = max 2 (max (height test) (height body))
  height (block body) = max 8 (6 + height body)
  height (return_from x f) = max 4 (height f)
  height (tagbody segments) = max 9 (7 + height_of_forms segments)
  height (go x segment) = 4
  height (catch_form tag body) = max 8 (max (height tag) (6 + height body))
  height (throw tag f) = max 4 (max (height tag) (1 + height f))
  height (unwind f cleanup) = max 8 (max (6 + height f) (3 + height cleanup))
  height (dynamic_let ds body) = max (height_of_dynamics ds) (count_dynamics ds + 2 + max 2 (height body))
  height (dynamic n) = 2
  height (set_dynamic n f) = max 4 (height f)
  height (def_dynamic n f) = max 2 (height f)
  height (with_handler handler body) = max 4 (max (height handler) (3 + height body))
  height (signal_form condition mark) = max 4 (max (height condition) (1 + height mark))
  height (continue_form condition f) = max 4 (max (height condition) (1 + height f))
  height (next_method m) = 5
  height (has_next m) = 4
  height (sited site f) = height f

  -- forms whose results come in one register
  pub height_of_forms : FlatForms → ℕ
  height_of_forms no_form = 0
  height_of_forms (form_and f fs) = max (height f) (height_of_forms fs)

  -- forms whose results come in registers one after another
  pub height_of_arguments : FlatForms → ℕ
  height_of_arguments no_form = 0
  height_of_arguments (form_and f fs) = max (height f) (1 + height_of_arguments fs)

  pub height_of_clauses : FlatClauses → ℕ
  height_of_clauses no_clause = 2
  height_of_clauses (clause_and test body cs) = max (height test) (max (height_of_body body) (height_of_clauses cs))

  pub height_of_body : FlatBody → ℕ
  height_of_body no_body = 0
  height_of_body (with_body f) = height f

  pub height_of_values : FlatBindings → ℕ
  height_of_values no_binding = 0
  height_of_values (binding_and h f bs) = max (height f) (1 + height_of_values bs)

  pub height_of_dynamics : FlatDynamics → ℕ
  height_of_dynamics no_dynamic = 0
  height_of_dynamics (dynamic_and n f ds) = max (height f) (1 + height_of_dynamics ds)
