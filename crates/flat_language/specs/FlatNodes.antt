-- The nodes of flat forms, and what primitives see of flat programs.
use Rattle.std.specs.Prelude.{ℕ, ◌+◌, ◌-◌, List, [], ◌∷◌, ◌++◌, length, option_to_list}
use Rattle.std.specs.List.{sum}
use Rattle.lang_meaning.specs.declared.program.ProgramRows.{ProgramRows}
use Rattle.flat_language.specs.declared.program.FlatProcedure.{FlatProcedure}
use Rattle.flat_language.specs.declared.program.FlatProgram.{FlatProgram}
use Rattle.flat_language.specs.declared.place.Home.{Home}
use Rattle.flat_language.specs.FlatForm.{FlatForm, literal, local, set_local, global, set_global, def_global, clauses, sequence, let_form, make_function, call, call_value, apply, prim, while_form, block, return_from, tagbody, go, catch_form, throw, unwind, dynamic_let, dynamic, set_dynamic, def_dynamic, with_handler, signal_form, continue_form, next_method, has_next, sited}
use Rattle.flat_language.specs.FlatForm.{FlatForms, no_form, form_and, FlatClauses, no_clause, clause_and, FlatBody, no_body, with_body}
use Rattle.flat_language.specs.FlatForm.{FlatBindings, no_binding, binding_and, FlatDynamics, no_dynamic, dynamic_and}

-- where all variables of a procedure live
abbrev pub homes : FlatProcedure → List Home
homes p = p.required ++ option_to_list p.rest

-- the rows of a program without its bodies: all that primitives, literals and chains see of a program
abbrev pub tables : FlatProgram → ProgramRows
tables program = record {
  literals = program.literals;
  procedures = [];
  classes = program.classes;
  generics = program.generics;
  functions = program.functions;
  main = [];
  sites = program.sites;
}

abbrev pub count_forms : FlatForms → ℕ
count_forms no_form = 0
count_forms (form_and f fs) = count_forms fs + 1

abbrev pub count_clauses : FlatClauses → ℕ
count_clauses no_clause = 0
count_clauses (clause_and test body cs) = count_clauses cs + 1

abbrev pub count_bindings : FlatBindings → ℕ
count_bindings no_binding = 0
count_bindings (binding_and h f bs) = count_bindings bs + 1

abbrev pub count_dynamics : FlatDynamics → ℕ
count_dynamics no_dynamic = 0
count_dynamics (dynamic_and n f bs) = count_dynamics bs + 1

-- what a form counts by itself, and is charged when it is evaluated, as core forms are
abbrev pub own_nodes : FlatForm → ℕ
own_nodes (global n) = 2
own_nodes (set_global n f) = 2
own_nodes (def_global n f) = 2
own_nodes (clauses cs) = 1 + count_clauses cs
own_nodes (let_form bs body) = 1 + count_bindings bs
own_nodes (make_function p parts) = 1 + length parts
own_nodes (call n fs) = 2 + count_forms fs
own_nodes (call_value fs) = 1 + count_forms fs
own_nodes (prim which fs) = 1 + count_forms fs
own_nodes (block body) = 2
own_nodes (tagbody segments) = 2 + (count_forms segments - 1)
own_nodes (catch_form tag body) = 2
own_nodes (unwind f cleanup) = 2
own_nodes (dynamic_let ds body) = 1 + count_dynamics ds
own_nodes (dynamic n) = 2
own_nodes (set_dynamic n f) = 2
own_nodes (def_dynamic n f) = 2
own_nodes (with_handler handler body) = 2
own_nodes (sited site f) = 0
own_nodes f = 1

abbrev pub counted : ℕ → List ℕ → List ℕ → ℕ
counted own outer inner = own + sum outer + sum inner

-- the nodes of a body
abbrev mutual
  pub nodes : FlatForm → ℕ
  nodes (literal i) = counted (own_nodes (literal i)) [] []
  nodes (local v) = counted (own_nodes (local v)) [] []
  nodes (set_local v f) = counted (own_nodes (set_local v f)) (nodes f ∷ []) []
  nodes (global n) = counted (own_nodes (global n)) [] []
  nodes (set_global n f) = counted (own_nodes (set_global n f)) (nodes f ∷ []) []
  nodes (def_global n f) = counted (own_nodes (def_global n f)) (nodes f ∷ []) []
  nodes (clauses cs) = counted (own_nodes (clauses cs)) (nodes_of_clauses cs) []
  nodes (sequence fs) = counted (own_nodes (sequence fs)) (nodes_of_forms fs) []
  nodes (let_form bs body) = counted (own_nodes (let_form bs body)) (nodes_of_values bs) (nodes body ∷ [])
  nodes (make_function p parts) = counted (own_nodes (make_function p parts)) [] []
  nodes (call n fs) = counted (own_nodes (call n fs)) (nodes_of_forms fs) []
  nodes (call_value fs) = counted (own_nodes (call_value fs)) (nodes_of_forms fs) []
  nodes (apply function list) = counted (own_nodes (apply function list)) (nodes function ∷ nodes list ∷ []) []
  nodes (prim which fs) = counted (own_nodes (prim which fs)) (nodes_of_forms fs) []
  nodes (while_form test body) = counted (own_nodes (while_form test body)) (nodes test ∷ nodes body ∷ []) []
  nodes (block body) = counted (own_nodes (block body)) [] (nodes body ∷ [])
  nodes (return_from x f) = counted (own_nodes (return_from x f)) (nodes f ∷ []) []
  nodes (tagbody segments) = counted (own_nodes (tagbody segments)) [] (nodes_of_forms segments)
  nodes (go x segment) = counted (own_nodes (go x segment)) [] []
  nodes (catch_form tag body) = counted (own_nodes (catch_form tag body)) (nodes tag ∷ nodes body ∷ []) []
  nodes (throw tag f) = counted (own_nodes (throw tag f)) (nodes tag ∷ nodes f ∷ []) []
  nodes (unwind f cleanup) = counted (own_nodes (unwind f cleanup)) (nodes f ∷ nodes cleanup ∷ []) []
  nodes (dynamic_let ds body) = counted (own_nodes (dynamic_let ds body)) (nodes_of_dynamics ds) (nodes body ∷ [])
  nodes (dynamic n) = counted (own_nodes (dynamic n)) [] []
  nodes (set_dynamic n f) = counted (own_nodes (set_dynamic n f)) (nodes f ∷ []) []
  nodes (def_dynamic n f) = counted (own_nodes (def_dynamic n f)) (nodes f ∷ []) []
  nodes (with_handler handler body) = counted (own_nodes (with_handler handler body)) (nodes handler ∷ nodes body ∷ []) []
  nodes (signal_form condition mark) = counted (own_nodes (signal_form condition mark)) (nodes condition ∷ nodes mark ∷ []) []
  nodes (continue_form condition f) = counted (own_nodes (continue_form condition f)) (nodes condition ∷ nodes f ∷ []) []
  nodes (next_method m) = counted (own_nodes (next_method m)) [] []
  nodes (has_next m) = counted (own_nodes (has_next m)) [] []
  nodes (sited site f) = counted (own_nodes (sited site f)) (nodes f ∷ []) []

  pub nodes_of_forms : FlatForms → List ℕ
  nodes_of_forms no_form = []
  nodes_of_forms (form_and f fs) = nodes f ∷ nodes_of_forms fs

  pub nodes_of_clauses : FlatClauses → List ℕ
  nodes_of_clauses no_clause = []
  nodes_of_clauses (clause_and test body cs) = nodes test ∷ (nodes_of_body body ++ nodes_of_clauses cs)

  pub nodes_of_body : FlatBody → List ℕ
  nodes_of_body no_body = []
  nodes_of_body (with_body f) = nodes f ∷ []

  pub nodes_of_values : FlatBindings → List ℕ
  nodes_of_values no_binding = []
  nodes_of_values (binding_and h f bs) = nodes f ∷ nodes_of_values bs

  pub nodes_of_dynamics : FlatDynamics → List ℕ
  nodes_of_dynamics no_dynamic = []
  nodes_of_dynamics (dynamic_and n f ds) = nodes f ∷ nodes_of_dynamics ds
