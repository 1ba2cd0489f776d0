-- What stands in a list of a flat form is smaller than the list: a recursion over flat forms ends.
use Rattle.std.proofs.Common.{◌≡◌, ℕ, zero, suc, ◌+◌, ◌<◌, List, [], ◌∷◌, Some, slice_get, arith, ap}
use Rattle.lang_meaning.specs.model.Sizes.{item_smaller}
use Rattle.flat_language.specs.FlatForm.{FlatForm, form_size, forms_size, clauses_size, body_size, bindings_size, dynamics_size}
use Rattle.flat_language.specs.model.View.{forms, clauses_of, maybe_form, bindings_of, dynamics_of}
use Rattle.flat_language.specs.declared.flat_core.FlatClause.{FlatClause}
use Rattle.flat_language.specs.declared.flat_core.FlatBinding.{FlatBinding}
use Rattle.flat_language.specs.declared.flat_core.FlatDynBinding.{FlatDynBinding}

pub flat_in_smaller : (xs : List FlatForm) (i : ℕ) (x : FlatForm) → slice_get xs i ≡ Some x
    → form_size x < forms_size (forms xs)
flat_in_smaller = item_smaller form_size (λ xs. forms_size (forms xs)) (λ x xs. omega arith)

-- a clause, its test and its body together, is smaller than the clauses
pub clause_in_smaller : (cs : List FlatClause) (i : ℕ) (c : FlatClause) → slice_get cs i ≡ Some c
    → form_size c.test + body_size (maybe_form c.body) + 1 < clauses_size (clauses_of cs)
clause_in_smaller = item_smaller (λ c. form_size c.test + body_size (maybe_form c.body) + 1) (λ cs. clauses_size (clauses_of cs)) (λ c cs. omega arith)

-- the value of a binding is smaller than the bindings
pub binding_in_smaller : (bs : List FlatBinding) (i : ℕ) (b : FlatBinding) → slice_get bs i ≡ Some b
    → form_size b.value < bindings_size (bindings_of bs)
binding_in_smaller = item_smaller (λ b. form_size b.value) (λ bs. bindings_size (bindings_of bs)) (λ b bs. omega arith)

pub dynamic_in_smaller : (bs : List FlatDynBinding) (i : ℕ) (b : FlatDynBinding) → slice_get bs i ≡ Some b
    → form_size b.value < dynamics_size (dynamics_of bs)
dynamic_in_smaller = item_smaller (λ b. form_size b.value) (λ bs. dynamics_size (dynamics_of bs)) (λ b bs. omega arith)
