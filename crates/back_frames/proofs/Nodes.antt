-- The nodes of a form are what forms count by themselves, over all forms in it.
use Rattle.std.proofs.Common.{◌≡◌, ℕ, ◌+◌, List, ◌∷◌, refl, arith}
use Rattle.std.specs.List.{sum}
use Rattle.std.proofs.lemmas.List.Sums.{sum_by-cons}
use Rattle.flat_language.specs.FlatForm.{FlatForm, literal, local, set_local, global, set_global, def_global, clauses, sequence, let_form, make_function, call, call_value, apply, prim, while_form, block, return_from, tagbody, go, catch_form, throw, unwind, dynamic_let, dynamic, set_dynamic, def_dynamic, with_handler, signal_form, continue_form, next_method, has_next, sited}
use Rattle.flat_language.specs.FlatForm.{FlatForms, no_form, form_and, FlatClauses, no_clause, clause_and, no_body, with_body}
use Rattle.flat_language.specs.FlatForm.{FlatBindings, no_binding, binding_and, FlatDynamics, no_dynamic, dynamic_and}
use Rattle.flat_language.specs.FlatNodes.{own_nodes, nodes, nodes_of_forms, nodes_of_clauses, nodes_of_values, nodes_of_dynamics}
use Rattle.flat_boxes.specs.Totals.{total, total_of_forms, total_of_clauses, total_of_values, total_of_dynamics}

summed : (n : ℕ) (ns : List ℕ) → sum (n ∷ ns) ≡ n + sum ns
summed n ns = sum_by-cons (λ x. x) n ns

mutual
  pub nodes_are : (f : FlatForm) → nodes f ≡ total own_nodes f
  nodes_are (literal i) = omega arith
  nodes_are (local p) = omega arith
  nodes_are (global n) = omega arith
  nodes_are (make_function p parts) = omega arith
  nodes_are (go x segment) = omega arith
  nodes_are (dynamic n) = omega arith
  nodes_are (next_method m) = omega arith
  nodes_are (has_next m) = omega arith
  nodes_are (set_local p f) = let inner = nodes_are f in omega arith
  nodes_are (set_global n f) = let inner = nodes_are f in omega arith
  nodes_are (def_global n f) = let inner = nodes_are f in omega arith
  nodes_are (return_from x f) = let inner = nodes_are f in omega arith
  nodes_are (set_dynamic n f) = let inner = nodes_are f in omega arith
  nodes_are (def_dynamic n f) = let inner = nodes_are f in omega arith
  nodes_are (sited site f) = let inner = nodes_are f in omega arith
  nodes_are (block body) = let inner = nodes_are body in omega arith
  nodes_are (clauses cs) = let inner = clauses_are cs in omega arith
  nodes_are (sequence fs) = let inner = forms_are fs in omega arith
  nodes_are (call n fs) = let inner = forms_are fs in omega arith
  nodes_are (call_value fs) = let inner = forms_are fs in omega arith
  nodes_are (prim which fs) = let inner = forms_are fs in omega arith
  nodes_are (tagbody segments) = let inner = forms_are segments in omega arith
  nodes_are (let_form bs body) = let outer = values_are bs in let inner = nodes_are body in omega arith
  nodes_are (dynamic_let ds body) = let outer = dynamics_are ds in let inner = nodes_are body in omega arith
  nodes_are (apply f list) = let first = nodes_are f in let second = nodes_are list in omega arith
  nodes_are (while_form test body) = let first = nodes_are test in let second = nodes_are body in omega arith
  nodes_are (catch_form tag body) = let first = nodes_are tag in let second = nodes_are body in omega arith
  nodes_are (throw tag f) = let first = nodes_are tag in let second = nodes_are f in omega arith
  nodes_are (unwind f cleanup) = let first = nodes_are f in let second = nodes_are cleanup in omega arith
  nodes_are (with_handler handler body) = let first = nodes_are handler in let second = nodes_are body in omega arith
  nodes_are (signal_form condition mark) = let first = nodes_are condition in let second = nodes_are mark in omega arith
  nodes_are (continue_form condition f) = let first = nodes_are condition in let second = nodes_are f in omega arith

  forms_are : (fs : FlatForms) → sum (nodes_of_forms fs) ≡ total_of_forms own_nodes fs
  forms_are no_form = refl
  forms_are (form_and f fs) = let first = nodes_are f in let more = forms_are fs in let both = summed (nodes f) (nodes_of_forms fs) in omega arith

  clauses_are : (cs : FlatClauses) → sum (nodes_of_clauses cs) ≡ total_of_clauses own_nodes cs
  clauses_are no_clause = refl
  clauses_are (clause_and test no_body cs) =
      let first = nodes_are test in let more = clauses_are cs in let both = summed (nodes test) (nodes_of_clauses cs) in omega arith
  clauses_are (clause_and test (with_body f) cs) =
      let first = nodes_are test in let second = nodes_are f in let more = clauses_are cs in
      let both = summed (nodes test) (nodes f ∷ nodes_of_clauses cs) in
      let behind = summed (nodes f) (nodes_of_clauses cs) in
      omega arith

  values_are : (bs : FlatBindings) → sum (nodes_of_values bs) ≡ total_of_values own_nodes bs
  values_are no_binding = refl
  values_are (binding_and h f bs) = let first = nodes_are f in let more = values_are bs in let both = summed (nodes f) (nodes_of_values bs) in omega arith

  dynamics_are : (ds : FlatDynamics) → sum (nodes_of_dynamics ds) ≡ total_of_dynamics own_nodes ds
  dynamics_are no_dynamic = refl
  dynamics_are (dynamic_and n f ds) = let first = nodes_are f in let more = dynamics_are ds in let both = summed (nodes f) (nodes_of_dynamics ds) in omega arith
