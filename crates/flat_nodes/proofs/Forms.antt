-- A form made flat, with the functions inside it beside it, has as many nodes as the form with the functions inside it.
use Rattle.std.proofs.Common.{◌≡◌, ℕ, ◌+◌, List, [], ◌∷◌, ◌++◌, Option, Some, None, length, refl, arith, length-append}
use Rattle.std.specs.Prelude.{if◌then◌else◌, sum_by, option_to_list}
use Rattle.std.specs.List.{sum}
use Rattle.std.proofs.lemmas.List.Sums.{sum_by-cons, sum_by-append}
use Rattle.lang_meaning.specs.Counts.{all_nodes, own_nodes, is_function, parameters, parameter_count}
use Rattle.lang_meaning.specs.Form.{Form, Forms, ClauseForms, MaybeForm, BindingForms, DynamicForms}
use Rattle.lang_meaning.specs.Form as core
use Rattle.lang_meaning.specs.Meaning.{bound_variables}
use Rattle.lang_meaning.specs.Subforms.{fold_forms, fold_clauses, fold_values, fold_dynamics}
use Rattle.flat_language.specs.FlatNodes.{nodes, nodes_of_forms, nodes_of_clauses, nodes_of_values, nodes_of_dynamics}
use Rattle.flat_language.specs.Scope.{Scope, homes_of, with_bound, with_around, seen, kinds_of}
use Rattle.flat_language.specs.Flatten.{functions, functions_of_values, functions_of_body, functions_of_dynamics, home_of_rest, flat, flat_forms, flat_clauses, flat_bindings, flat_dynamics, body_scope, flat_procedure, inner_procedures, procedures_of_forms, procedures_of_clauses, procedures_of_values, procedures_of_dynamics}
use Rattle.flat_language.proofs.Nodes.{length-parts, forms_counted, clauses_counted, bindings_counted, dynamics_counted}
use Rattle.flat_nodes.specs.ProgramNodes.{function_nodes}

-- the step by which the nodes of a core form with the functions inside it are counted
abbrev counts : Form → List ℕ → List ℕ → ℕ
counts = λ g outer inner. own_nodes g + sum outer + (if is_function g then sum inner + parameters g + 4 else sum inner)

more_of : (x : ℕ) (xs : List ℕ) → sum (x ∷ xs) ≡ x + sum xs
more_of x xs = sum_by-cons (λ n. n) x xs

homes_count : (vs : List ℕ) (body : Form) → length (homes_of vs body) ≡ length vs
homes_count [] body = refl
homes_count (v ∷ vs) body = let e = homes_count vs body in omega (arith, e)

rest_count : (rest : Option ℕ) (body : Form) → length (option_to_list (home_of_rest rest body)) ≡ length (option_to_list rest)
rest_count None body = refl
rest_count (Some v) body = refl

-- a function has as many homes as parameters
pub parameters_count :
    (required : List ℕ) (rest : Option ℕ) (body : Form)
    → length (homes_of required body ++ option_to_list (home_of_rest rest body)) ≡ parameter_count required rest
parameters_count required rest body =
    omega (
      arith,
      length-append (homes_of required body) (option_to_list (home_of_rest rest body)),
      homes_count required body,
      rest_count rest body,
    )

mutual
  unfolding flat

  pub inside_same : (s : Scope) (n : ℕ) (f : Form) → nodes (flat s n f) + sum_by function_nodes (inner_procedures s n f) ≡ all_nodes f
  inside_same s n (core.literal i) = omega arith
  inside_same s n (core.local v) = omega arith
  inside_same s n (core.set_local v f) = let e = inside_same s n f in omega (arith, e)
  inside_same s n (core.global name) = omega arith
  inside_same s n (core.set_global name f) = let e = inside_same s n f in omega (arith, e)
  inside_same s n (core.def_global name f) = let e = inside_same s n f in omega (arith, e)
  inside_same s n (core.clauses cs) = omega (arith, clauses_inside s n cs, clauses_counted s n cs)
  inside_same s n (core.sequence fs) = let e = forms_inside s n fs in omega (arith, e)
  inside_same s n (core.let_form bs body) =
      let t = with_bound (bound_variables bs) body s in
      let m = n + functions_of_values bs in
      omega (
        arith,
        values_inside s n body bs,
        inside_same t m body,
        bindings_counted s n body bs,
        sum_by-append function_nodes (procedures_of_values s n bs) (inner_procedures t m body),
      )
  inside_same s n (core.lambda required rest body parts) =
      let t = body_scope required rest body (seen s parts) in
      omega (
        arith,
        inside_same t (n + 1) body,
        length-parts s parts,
        parameters_count required rest body,
        sum_by-cons function_nodes (flat_procedure (seen s parts) (n + 1) (kinds_of s parts) required rest body) (inner_procedures t (n + 1) body),
      )
  inside_same s n (core.call name fs) = omega (arith, forms_inside s n fs, forms_counted s n fs)
  inside_same s n (core.call_value fs) = omega (arith, forms_inside s n fs, forms_counted s n fs)
  inside_same s n (core.apply f list) =
      omega (arith, inside_same s n f, inside_same s (n + functions f) list, sum_by-append function_nodes (inner_procedures s n f) (inner_procedures s (n + functions f) list))
  inside_same s n (core.prim which fs) = omega (arith, forms_inside s n fs, forms_counted s n fs)
  inside_same s n (core.while_form test body) =
      omega (arith, inside_same s n test, inside_same s (n + functions test) body, sum_by-append function_nodes (inner_procedures s n test) (inner_procedures s (n + functions test) body))
  inside_same s n (core.block x body) = let e = inside_same (with_around x s) n body in omega (arith, e)
  inside_same s n (core.return_from x f) = let e = inside_same s n f in omega (arith, e)
  inside_same s n (core.tagbody x segments) = omega (arith, forms_inside (with_around x s) n segments, forms_counted (with_around x s) n segments)
  inside_same s n (core.go x segment) = omega arith
  inside_same s n (core.catch_form tag body) =
      omega (arith, inside_same s n tag, inside_same s (n + functions tag) body, sum_by-append function_nodes (inner_procedures s n tag) (inner_procedures s (n + functions tag) body))
  inside_same s n (core.throw tag f) =
      omega (arith, inside_same s n tag, inside_same s (n + functions tag) f, sum_by-append function_nodes (inner_procedures s n tag) (inner_procedures s (n + functions tag) f))
  inside_same s n (core.unwind f cleanup) =
      omega (arith, inside_same s n f, inside_same s (n + functions f) cleanup, sum_by-append function_nodes (inner_procedures s n f) (inner_procedures s (n + functions f) cleanup))
  inside_same s n (core.dynamic_let ds body) =
      let m = n + functions_of_dynamics ds in
      omega (
        arith,
        dynamics_inside s n ds,
        inside_same s m body,
        dynamics_counted s n ds,
        sum_by-append function_nodes (procedures_of_dynamics s n ds) (inner_procedures s m body),
      )
  inside_same s n (core.dynamic name) = omega arith
  inside_same s n (core.set_dynamic name f) = let e = inside_same s n f in omega (arith, e)
  inside_same s n (core.def_dynamic name f) = let e = inside_same s n f in omega (arith, e)
  inside_same s n (core.with_handler handler body) =
      omega (arith, inside_same s n handler, inside_same s (n + functions handler) body, sum_by-append function_nodes (inner_procedures s n handler) (inner_procedures s (n + functions handler) body))
  inside_same s n (core.signal_form condition mark) =
      omega (arith, inside_same s n condition, inside_same s (n + functions condition) mark, sum_by-append function_nodes (inner_procedures s n condition) (inner_procedures s (n + functions condition) mark))
  inside_same s n (core.continue_form condition f) =
      omega (arith, inside_same s n condition, inside_same s (n + functions condition) f, sum_by-append function_nodes (inner_procedures s n condition) (inner_procedures s (n + functions condition) f))
  inside_same s n core.next_method = omega arith
  inside_same s n core.has_next = omega arith
  inside_same s n (core.sited site f) = let e = inside_same s n f in omega (arith, e)

  forms_inside :
      (s : Scope) (n : ℕ) (fs : Forms) → sum (nodes_of_forms (flat_forms s n fs)) + sum_by function_nodes (procedures_of_forms s n fs) ≡ sum (fold_forms counts fs)
  forms_inside s n core.no_form = omega arith
  forms_inside s n (core.form_and f fs) =
      let m = n + functions f in
      omega (
        arith,
        inside_same s n f,
        forms_inside s m fs,
        more_of (nodes (flat s n f)) (nodes_of_forms (flat_forms s m fs)),
        more_of (all_nodes f) (fold_forms counts fs),
        sum_by-append function_nodes (inner_procedures s n f) (procedures_of_forms s m fs),
      )

  clauses_inside :
      (s : Scope) (n : ℕ) (cs : ClauseForms)
      → sum (nodes_of_clauses (flat_clauses s n cs)) + sum_by function_nodes (procedures_of_clauses s n cs) ≡ sum (fold_clauses counts cs)
  clauses_inside s n core.no_clause = omega arith
  clauses_inside s n (core.clause_and test core.no_body cs) =
      let m = n + (functions test + functions_of_body core.no_body) in
      omega (
        arith,
        inside_same s n test,
        clauses_inside s m cs,
        more_of (nodes (flat s n test)) (nodes_of_clauses (flat_clauses s m cs)),
        more_of (all_nodes test) (fold_clauses counts cs),
        sum_by-append function_nodes (inner_procedures s n test ++ []) (procedures_of_clauses s m cs),
        sum_by-append function_nodes (inner_procedures s n test) [],
      )
  clauses_inside s n (core.clause_and test (core.with_body f) cs) =
      let k = n + functions test in
      let m = n + (functions test + functions_of_body (core.with_body f)) in
      omega (
        arith,
        inside_same s n test,
        inside_same s k f,
        clauses_inside s m cs,
        more_of (nodes (flat s n test)) (nodes (flat s k f) ∷ nodes_of_clauses (flat_clauses s m cs)),
        more_of (nodes (flat s k f)) (nodes_of_clauses (flat_clauses s m cs)),
        more_of (all_nodes test) (all_nodes f ∷ fold_clauses counts cs),
        more_of (all_nodes f) (fold_clauses counts cs),
        sum_by-append function_nodes (inner_procedures s n test ++ inner_procedures s k f) (procedures_of_clauses s m cs),
        sum_by-append function_nodes (inner_procedures s n test) (inner_procedures s k f),
      )

  values_inside :
      (s : Scope) (n : ℕ) (body : Form) (bs : BindingForms)
      → sum (nodes_of_values (flat_bindings s n body bs)) + sum_by function_nodes (procedures_of_values s n bs) ≡ sum (fold_values counts bs)
  values_inside s n body core.no_binding = omega arith
  values_inside s n body (core.binding_and v f bs) =
      let m = n + functions f in
      omega (
        arith,
        inside_same s n f,
        values_inside s m body bs,
        more_of (nodes (flat s n f)) (nodes_of_values (flat_bindings s m body bs)),
        more_of (all_nodes f) (fold_values counts bs),
        sum_by-append function_nodes (inner_procedures s n f) (procedures_of_values s m bs),
      )

  dynamics_inside :
      (s : Scope) (n : ℕ) (ds : DynamicForms)
      → sum (nodes_of_dynamics (flat_dynamics s n ds)) + sum_by function_nodes (procedures_of_dynamics s n ds) ≡ sum (fold_dynamics counts ds)
  dynamics_inside s n core.no_dynamic = omega arith
  dynamics_inside s n (core.dynamic_and name f ds) =
      let m = n + functions f in
      omega (
        arith,
        inside_same s n f,
        dynamics_inside s m ds,
        more_of (nodes (flat s n f)) (nodes_of_dynamics (flat_dynamics s m ds)),
        more_of (all_nodes f) (fold_dynamics counts ds),
        sum_by-append function_nodes (inner_procedures s n f) (procedures_of_dynamics s m ds),
      )
