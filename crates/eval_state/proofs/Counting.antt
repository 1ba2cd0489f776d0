-- The parts of forms are as many as their lists are long.
use Rattle.std.proofs.Common.{◌≡◌, List, [], ◌∷◌, refl, length, arith}
use Rattle.flat_language.specs.FlatForm.{FlatForm}
use Rattle.flat_language.specs.FlatNodes.{count_forms, count_clauses, count_bindings, count_dynamics}
use Rattle.flat_language.specs.declared.flat_core.FlatClause.{FlatClause}
use Rattle.flat_language.specs.declared.flat_core.FlatBinding.{FlatBinding}
use Rattle.flat_language.specs.declared.flat_core.FlatDynBinding.{FlatDynBinding}
use Rattle.flat_language.specs.model.View.{forms, clauses_of, bindings_of, dynamics_of}

pub forms_counted : (xs : List FlatForm) → count_forms (forms xs) ≡ length xs
forms_counted [] = refl
forms_counted (x ∷ xs) = let e : count_forms (forms xs) ≡ length xs = forms_counted xs in omega arith

pub clauses_counted : (xs : List FlatClause) → count_clauses (clauses_of xs) ≡ length xs
clauses_counted [] = refl
clauses_counted (x ∷ xs) = let e : count_clauses (clauses_of xs) ≡ length xs = clauses_counted xs in omega arith

pub bindings_counted : (xs : List FlatBinding) → count_bindings (bindings_of xs) ≡ length xs
bindings_counted [] = refl
bindings_counted (x ∷ xs) = let e : count_bindings (bindings_of xs) ≡ length xs = bindings_counted xs in omega arith

pub dynamics_counted : (xs : List FlatDynBinding) → count_dynamics (dynamics_of xs) ≡ length xs
dynamics_counted [] = refl
dynamics_counted (x ∷ xs) = let e : count_dynamics (dynamics_of xs) ≡ length xs = dynamics_counted xs in omega arith
