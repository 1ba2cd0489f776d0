-- What stands in a list of a core form is smaller than the list: a recursion over forms ends.
use Rattle.std.specs.Prelude.{◌≡◌, ℕ, zero, suc, ◌+◌, ◌<◌, List, [], ◌∷◌, Some, slice_get}
use Rattle.std.proofs.Common.{arith, ap}
use Rattle.lang_meaning.specs.Form.{Form, form_size, forms_size, clauses_size, maybe_size, bindings_size, dynamics_size}
use Rattle.lang_meaning.specs.model.View.{forms, clauses_of, maybe_form, bindings_of, dynamics_of}
use Rattle.lang_meaning.specs.declared.core_form.Clause.{Clause}
use Rattle.lang_meaning.specs.declared.core_form.Binding.{Binding}
use Rattle.lang_meaning.specs.declared.core_form.DynBinding.{DynBinding}

-- where a list is larger than its first item and the rest together, each item is smaller than the list
module _ {X : Type 0} (size : X → ℕ) (list_size : List X → ℕ) (larger : (x : X) (xs : List X) → size x + list_size xs < list_size (x ∷ xs)) where
  pub item_smaller : (xs : List X) (i : ℕ) (x : X) → slice_get xs i ≡ Some x → size x < list_size xs
  item_smaller [] i x h = absurd (cc h)
  item_smaller (y ∷ ys) zero x h = let e : y ≡ x = cc h in omega (arith, larger y ys, ap size e)
  item_smaller (y ∷ ys) (suc i) x h = omega (arith, larger y ys, item_smaller ys i x h)

pub form_in_smaller : (xs : List Form) (i : ℕ) (x : Form) → slice_get xs i ≡ Some x
    → form_size x < forms_size (forms xs)
form_in_smaller = item_smaller form_size (λ xs. forms_size (forms xs)) (λ x xs. omega arith)

-- a clause, its test and its body together, is smaller than the clauses
clause_in_smaller : (cs : List Clause) (i : ℕ) (c : Clause) → slice_get cs i ≡ Some c
    → form_size c.test + maybe_size (maybe_form c.body) < clauses_size (clauses_of cs)
clause_in_smaller = item_smaller (λ c. form_size c.test + maybe_size (maybe_form c.body)) (λ cs. clauses_size (clauses_of cs)) (λ c cs. omega arith)

pub test_in_smaller : (cs : List Clause) (i : ℕ) (c : Clause) → slice_get cs i ≡ Some c
    → form_size c.test < clauses_size (clauses_of cs)
test_in_smaller cs i c h = omega (arith, clause_in_smaller cs i c h)

pub body_in_smaller : (cs : List Clause) (i : ℕ) (c : Clause) → slice_get cs i ≡ Some c
    → maybe_size (maybe_form c.body) < clauses_size (clauses_of cs)
body_in_smaller cs i c h = omega (arith, clause_in_smaller cs i c h)

-- the value of a binding is smaller than the bindings
pub binding_in_smaller : (bs : List Binding) (i : ℕ) (b : Binding) → slice_get bs i ≡ Some b
    → form_size b.value < bindings_size (bindings_of bs)
binding_in_smaller = item_smaller (λ b. form_size b.value) (λ bs. bindings_size (bindings_of bs)) (λ b bs. omega arith)

pub dynamic_in_smaller : (bs : List DynBinding) (i : ℕ) (b : DynBinding) → slice_get bs i ≡ Some b
    → form_size b.value < dynamics_size (dynamics_of bs)
dynamic_in_smaller = item_smaller (λ b. form_size b.value) (λ bs. dynamics_size (dynamics_of bs)) (λ b bs. omega arith)
