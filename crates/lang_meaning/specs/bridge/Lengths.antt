-- The mirror of a list counts as many as the list has.
use Rattle.std.proofs.Common.{◌≡◌, List, [], ◌∷◌, length, arith}
use Rattle.lang_meaning.specs.Form.{Form}
use Rattle.lang_meaning.specs.model.View.{forms, clauses_of, bindings_of, dynamics_of}
use Rattle.lang_meaning.specs.Counts.{count_forms, count_clauses, count_bindings, count_dynamics}
use Rattle.lang_meaning.specs.declared.core_form.Clause.{Clause}
use Rattle.lang_meaning.specs.declared.core_form.Binding.{Binding}
use Rattle.lang_meaning.specs.declared.core_form.DynBinding.{DynBinding}

pub forms_counted : (xs : List Form) → count_forms (forms xs) ≡ length xs
forms_counted [] = omega arith
forms_counted (x ∷ xs) = omega (arith, forms_counted xs)

pub clauses_counted : (xs : List Clause) → count_clauses (clauses_of xs) ≡ length xs
clauses_counted [] = omega arith
clauses_counted (x ∷ xs) = omega (arith, clauses_counted xs)

pub bindings_counted : (xs : List Binding) → count_bindings (bindings_of xs) ≡ length xs
bindings_counted [] = omega arith
bindings_counted (x ∷ xs) = omega (arith, bindings_counted xs)

pub dynamics_counted : (xs : List DynBinding) → count_dynamics (dynamics_of xs) ≡ length xs
dynamics_counted [] = omega arith
dynamics_counted (x ∷ xs) = omega (arith, dynamics_counted xs)
