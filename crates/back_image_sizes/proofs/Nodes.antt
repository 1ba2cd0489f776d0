-- What is counted of forms by themselves, and what they pay for by their nodes.
use Rattle.std.proofs.Common.{◌≡◌, ℕ, ◌+◌, ◌*◌, ◌≤◌, List, ◌∷◌, arith}
use Rattle.std.specs.List.{sum}
use Rattle.std.proofs.lemmas.List.Sums.{sum_by-cons}
use Rattle.flat_language.specs.declared.program.FlatProgram.{FlatProgram}
use Rattle.flat_language.specs.FlatFits.{Fits, FitForms, FitClauses, FitValues, FitDynamics}
use Rattle.flat_language.specs.FlatForm.{FlatForm, literal, local, set_local, global, set_global, def_global, clauses, sequence, let_form, make_function, call, call_value, apply, prim, while_form, block, return_from, tagbody, go, catch_form, throw, unwind, dynamic_let, dynamic, set_dynamic, def_dynamic, with_handler, signal_form, continue_form, next_method, has_next, sited}
use Rattle.flat_language.specs.FlatForm.{FlatForms, no_form, form_and, FlatClauses, no_clause, clause_and, no_body, with_body}
use Rattle.flat_language.specs.FlatForm.{FlatBindings, no_binding, binding_and, FlatDynamics, no_dynamic, dynamic_and}
use Rattle.flat_language.specs.FlatNodes.{own_nodes, nodes, nodes_of_forms, nodes_of_clauses, nodes_of_values, nodes_of_dynamics}
use Rattle.flat_boxes.specs.Totals.{total, total_of_forms, total_of_clauses, total_of_values, total_of_dynamics}
use Rattle.back_code_sizes.specs.Sizes.{words_of_node}

-- one more in front of a sum
more_of : (x : ℕ) (xs : List ℕ) → sum (x ∷ xs) ≡ x + sum xs
more_of x xs = sum_by-cons (λ n. n) x xs

-- the own nodes of a form and of all forms in it are its nodes
mutual
  pub nodes_total : (f : FlatForm) → total own_nodes f ≡ nodes f
  nodes_total (literal i) = omega arith
  nodes_total (local p) = omega arith
  nodes_total (set_local p f) = let e = nodes_total f in omega (arith, e)
  nodes_total (global n) = omega arith
  nodes_total (set_global n f) = let e = nodes_total f in omega (arith, e)
  nodes_total (def_global n f) = let e = nodes_total f in omega (arith, e)
  nodes_total (clauses cs) = let e = nodes_of_clauses_total cs in omega (arith, e)
  nodes_total (sequence fs) = let e = nodes_of_forms_total fs in omega (arith, e)
  nodes_total (let_form bs body) = omega (arith, nodes_of_values_total bs, nodes_total body)
  nodes_total (make_function p parts) = omega arith
  nodes_total (call n fs) = let e = nodes_of_forms_total fs in omega (arith, e)
  nodes_total (call_value fs) = let e = nodes_of_forms_total fs in omega (arith, e)
  nodes_total (apply f list) = omega (arith, nodes_total f, nodes_total list)
  nodes_total (prim which fs) = let e = nodes_of_forms_total fs in omega (arith, e)
  nodes_total (while_form test body) = omega (arith, nodes_total test, nodes_total body)
  nodes_total (block body) = let e = nodes_total body in omega (arith, e)
  nodes_total (return_from x f) = let e = nodes_total f in omega (arith, e)
  nodes_total (tagbody segments) = let e = nodes_of_forms_total segments in omega (arith, e)
  nodes_total (go x segment) = omega arith
  nodes_total (catch_form tag body) = omega (arith, nodes_total tag, nodes_total body)
  nodes_total (throw tag f) = omega (arith, nodes_total tag, nodes_total f)
  nodes_total (unwind f cleanup) = omega (arith, nodes_total f, nodes_total cleanup)
  nodes_total (dynamic_let ds body) = omega (arith, nodes_of_dynamics_total ds, nodes_total body)
  nodes_total (dynamic n) = omega arith
  nodes_total (set_dynamic n f) = let e = nodes_total f in omega (arith, e)
  nodes_total (def_dynamic n f) = let e = nodes_total f in omega (arith, e)
  nodes_total (with_handler handler body) = omega (arith, nodes_total handler, nodes_total body)
  nodes_total (signal_form condition mark) = omega (arith, nodes_total condition, nodes_total mark)
  nodes_total (continue_form condition f) = omega (arith, nodes_total condition, nodes_total f)
  nodes_total (next_method m) = omega arith
  nodes_total (has_next m) = omega arith
  nodes_total (sited site f) = let e = nodes_total f in omega (arith, e)

  nodes_of_forms_total : (fs : FlatForms) → total_of_forms own_nodes fs ≡ sum (nodes_of_forms fs)
  nodes_of_forms_total no_form = omega arith
  nodes_of_forms_total (form_and f fs) = omega (arith, nodes_total f, nodes_of_forms_total fs, more_of (nodes f) (nodes_of_forms fs))

  nodes_of_clauses_total : (cs : FlatClauses) → total_of_clauses own_nodes cs ≡ sum (nodes_of_clauses cs)
  nodes_of_clauses_total no_clause = omega arith
  nodes_of_clauses_total (clause_and test no_body cs) = omega (arith, nodes_total test, nodes_of_clauses_total cs, more_of (nodes test) (nodes_of_clauses cs))
  nodes_of_clauses_total (clause_and test (with_body f) cs) =
      omega (
        arith,
        nodes_total test,
        nodes_total f,
        nodes_of_clauses_total cs,
        more_of (nodes test) (nodes f ∷ nodes_of_clauses cs),
        more_of (nodes f) (nodes_of_clauses cs),
      )

  nodes_of_values_total : (bs : FlatBindings) → total_of_values own_nodes bs ≡ sum (nodes_of_values bs)
  nodes_of_values_total no_binding = omega arith
  nodes_of_values_total (binding_and home f bs) = omega (arith, nodes_total f, nodes_of_values_total bs, more_of (nodes f) (nodes_of_values bs))

  nodes_of_dynamics_total : (ds : FlatDynamics) → total_of_dynamics own_nodes ds ≡ sum (nodes_of_dynamics ds)
  nodes_of_dynamics_total no_dynamic = omega arith
  nodes_of_dynamics_total (dynamic_and n f ds) = omega (arith, nodes_total f, nodes_of_dynamics_total ds, more_of (nodes f) (nodes_of_dynamics ds))

-- what each form pays by its own nodes for two things together is paid by all of them
module _ (program : FlatProgram) (one two : FlatForm → ℕ) (pays : (f : FlatForm) → Fits program f → one f + two f ≤ words_of_node * own_nodes f) where
  mutual
    pub total_paid : (f : FlatForm) → Fits program f → total one f + total two f ≤ words_of_node * total own_nodes f
    total_paid (literal i) h = let p = pays (literal i) h in omega (arith, p)
    total_paid (local p) h = let p = pays (local p) h in omega (arith, p)
    total_paid (set_local p f) h = omega (arith, pays (set_local p f) h, total_paid f h)
    total_paid (global n) h = let p = pays (global n) h in omega (arith, p)
    total_paid (set_global n f) h = omega (arith, pays (set_global n f) h, total_paid f h)
    total_paid (def_global n f) h = omega (arith, pays (def_global n f) h, total_paid f h)
    total_paid (clauses cs) h = omega (arith, pays (clauses cs) h, clauses_paid cs h)
    total_paid (sequence fs) h = omega (arith, pays (sequence fs) h, forms_paid fs h)
    total_paid (let_form bs body) h = omega (arith, pays (let_form bs body) h, values_paid bs h.0, total_paid body h.1)
    total_paid (make_function p parts) h = let p = pays (make_function p parts) h in omega (arith, p)
    total_paid (call n fs) h = omega (arith, pays (call n fs) h, forms_paid fs h)
    total_paid (call_value fs) h = omega (arith, pays (call_value fs) h, forms_paid fs h.1)
    total_paid (apply f list) h = omega (arith, pays (apply f list) h, total_paid f h.0, total_paid list h.1)
    total_paid (prim which fs) h = omega (arith, pays (prim which fs) h, forms_paid fs h.1)
    total_paid (while_form test body) h = omega (arith, pays (while_form test body) h, total_paid test h.0, total_paid body h.1)
    total_paid (block body) h = omega (arith, pays (block body) h, total_paid body h)
    total_paid (return_from x f) h = omega (arith, pays (return_from x f) h, total_paid f h)
    total_paid (tagbody segments) h = omega (arith, pays (tagbody segments) h, forms_paid segments h.1)
    total_paid (go x segment) h = let p = pays (go x segment) h in omega (arith, p)
    total_paid (catch_form tag body) h = omega (arith, pays (catch_form tag body) h, total_paid tag h.0, total_paid body h.1)
    total_paid (throw tag f) h = omega (arith, pays (throw tag f) h, total_paid tag h.0, total_paid f h.1)
    total_paid (unwind f cleanup) h = omega (arith, pays (unwind f cleanup) h, total_paid f h.0, total_paid cleanup h.1)
    total_paid (dynamic_let ds body) h = omega (arith, pays (dynamic_let ds body) h, dynamics_paid ds h.0, total_paid body h.1)
    total_paid (dynamic n) h = let p = pays (dynamic n) h in omega (arith, p)
    total_paid (set_dynamic n f) h = omega (arith, pays (set_dynamic n f) h, total_paid f h)
    total_paid (def_dynamic n f) h = omega (arith, pays (def_dynamic n f) h, total_paid f h)
    total_paid (with_handler handler body) h = omega (arith, pays (with_handler handler body) h, total_paid handler h.0, total_paid body h.1)
    total_paid (signal_form condition mark) h = omega (arith, pays (signal_form condition mark) h, total_paid condition h.0, total_paid mark h.1)
    total_paid (continue_form condition f) h = omega (arith, pays (continue_form condition f) h, total_paid condition h.0, total_paid f h.1)
    total_paid (next_method m) h = let p = pays (next_method m) h in omega (arith, p)
    total_paid (has_next m) h = let p = pays (has_next m) h in omega (arith, p)
    total_paid (sited site f) h = omega (arith, pays (sited site f) h, total_paid f h.2)

    forms_paid : (fs : FlatForms) → FitForms program fs → total_of_forms one fs + total_of_forms two fs ≤ words_of_node * total_of_forms own_nodes fs
    forms_paid no_form h = omega arith
    forms_paid (form_and f fs) h = omega (arith, total_paid f h.0, forms_paid fs h.1)

    clauses_paid : (cs : FlatClauses) → FitClauses program cs → total_of_clauses one cs + total_of_clauses two cs ≤ words_of_node * total_of_clauses own_nodes cs
    clauses_paid no_clause h = omega arith
    clauses_paid (clause_and test no_body cs) h = omega (arith, total_paid test h.0, clauses_paid cs h.2)
    clauses_paid (clause_and test (with_body f) cs) h = omega (arith, total_paid test h.0, total_paid f h.1, clauses_paid cs h.2)

    values_paid : (bs : FlatBindings) → FitValues program bs → total_of_values one bs + total_of_values two bs ≤ words_of_node * total_of_values own_nodes bs
    values_paid no_binding h = omega arith
    values_paid (binding_and home f bs) h = omega (arith, total_paid f h.0, values_paid bs h.1)

    dynamics_paid : (ds : FlatDynamics) → FitDynamics program ds → total_of_dynamics one ds + total_of_dynamics two ds ≤ words_of_node * total_of_dynamics own_nodes ds
    dynamics_paid no_dynamic h = omega arith
    dynamics_paid (dynamic_and n f ds) h = omega (arith, total_paid f h.0, dynamics_paid ds h.1)
