-- The nodes of a form are its own and those of the forms right inside it, which are smaller than it.
use Rattle.std.proofs.Common.{◌≡◌, ℕ, zero, suc, ◌+◌, ◌<◌, List, [], ◌∷◌, Option, Some, None, ap, arith}
use Rattle.std.specs.Prelude.{slice_get}
use Rattle.std.specs.List.{sum, sum_by}
use Rattle.std.proofs.lemmas.List.Sums.{sum_by-cons}
use Rattle.flat_language.specs.declared.flat_core.FlatClause.{FlatClause}
use Rattle.flat_language.specs.declared.flat_core.FlatBinding.{FlatBinding}
use Rattle.flat_language.specs.declared.flat_core.FlatDynBinding.{FlatDynBinding}
use Rattle.flat_language.specs.FlatForm.{FlatForm, literal}
use Rattle.flat_language.specs.FlatForm.{form_size, forms_size, clauses_size, bindings_size, dynamics_size, body_size}
use Rattle.flat_language.specs.model.View.{forms, maybe_form, clauses_of, bindings_of, dynamics_of}
use Rattle.flat_language.specs.FlatNodes.{nodes, own_nodes, nodes_of_forms, nodes_of_clauses, nodes_of_values, nodes_of_dynamics}
use Rattle.eval_state.specs.Sizes.{nodes_inside, clause_nodes, value_nodes, dynamic_nodes}

pub own_and_inside : (f : FlatForm) → nodes f ≡ own_nodes f + nodes_inside f
own_and_inside (literal i) = omega arith
own_and_inside w = omega arith

-- the mirror of a list has the same sum of nodes
pub forms_summed : (xs : List FlatForm) → sum (nodes_of_forms (forms xs)) ≡ sum_by nodes xs
forms_summed [] = omega arith
forms_summed (x ∷ xs) = omega (arith, forms_summed xs, sum_by-cons nodes x xs, sum_by-cons (λ (n : ℕ). n) (nodes x) (nodes_of_forms (forms xs)))

pub values_summed : (xs : List FlatBinding) → sum (nodes_of_values (bindings_of xs)) ≡ sum_by value_nodes xs
values_summed [] = omega arith
values_summed (x ∷ xs) = omega (arith, values_summed xs, sum_by-cons value_nodes x xs, sum_by-cons (λ (n : ℕ). n) (nodes x.value) (nodes_of_values (bindings_of xs)))

pub dynamics_summed : (xs : List FlatDynBinding) → sum (nodes_of_dynamics (dynamics_of xs)) ≡ sum_by dynamic_nodes xs
dynamics_summed [] = omega arith
dynamics_summed (x ∷ xs) = omega (arith, dynamics_summed xs, sum_by-cons dynamic_nodes x xs, sum_by-cons (λ (n : ℕ). n) (nodes x.value) (nodes_of_dynamics (dynamics_of xs)))

clause_summed : (t : FlatForm) (b : Option FlatForm) (xs : List FlatClause)
    → sum (nodes_of_clauses (clauses_of (record { test = t; body = b } ∷ xs))) ≡ clause_nodes (record { test = t; body = b }) + sum (nodes_of_clauses (clauses_of xs))
clause_summed t None xs = omega (arith, sum_by-cons (λ (n : ℕ). n) (nodes t) (nodes_of_clauses (clauses_of xs)))
clause_summed t (Some f) xs =
    omega (arith, sum_by-cons (λ (n : ℕ). n) (nodes t) (nodes f ∷ nodes_of_clauses (clauses_of xs)), sum_by-cons (λ (n : ℕ). n) (nodes f) (nodes_of_clauses (clauses_of xs)))

pub clauses_summed : (xs : List FlatClause) → sum (nodes_of_clauses (clauses_of xs)) ≡ sum_by clause_nodes xs
clauses_summed [] = omega arith
clauses_summed (x ∷ xs) = omega (arith, clause_summed x.test x.body xs, clauses_summed xs, sum_by-cons clause_nodes x xs)

-- an item is smaller than its list
pub form_smaller : (xs : List FlatForm) (i : ℕ) (x : FlatForm) → slice_get xs i ≡ Some x → form_size x < forms_size (forms xs)
form_smaller [] i x h = absurd (cc)
form_smaller (y ∷ xs) zero x h = let e : y ≡ x = cc in omega (arith, ap form_size e)
form_smaller (y ∷ xs) (suc i) x h = omega (arith, form_smaller xs i x h)

abbrev pub clause_size : FlatClause → ℕ
clause_size c = form_size c.test + body_size (maybe_form c.body)

pub clause_smaller : (xs : List FlatClause) (i : ℕ) (x : FlatClause) → slice_get xs i ≡ Some x → clause_size x < clauses_size (clauses_of xs)
clause_smaller [] i x h = absurd (cc)
clause_smaller (y ∷ xs) zero x h = let e : y ≡ x = cc in omega (arith, ap clause_size e)
clause_smaller (y ∷ xs) (suc i) x h = omega (arith, clause_smaller xs i x h)

pub value_smaller : (xs : List FlatBinding) (i : ℕ) (x : FlatBinding) → slice_get xs i ≡ Some x → form_size x.value < bindings_size (bindings_of xs)
value_smaller [] i x h = absurd (cc)
value_smaller (y ∷ xs) zero x h = let e : y ≡ x = cc in omega (arith, ap (λ (b : FlatBinding). form_size b.value) e)
value_smaller (y ∷ xs) (suc i) x h = omega (arith, value_smaller xs i x h)

pub dynamic_smaller : (xs : List FlatDynBinding) (i : ℕ) (x : FlatDynBinding) → slice_get xs i ≡ Some x → form_size x.value < dynamics_size (dynamics_of xs)
dynamic_smaller [] i x h = absurd (cc)
dynamic_smaller (y ∷ xs) zero x h = let e : y ≡ x = cc in omega (arith, ap (λ (b : FlatDynBinding). form_size b.value) e)
dynamic_smaller (y ∷ xs) (suc i) x h = omega (arith, dynamic_smaller xs i x h)
