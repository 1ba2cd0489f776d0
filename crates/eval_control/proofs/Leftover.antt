-- Lists of forms from a place on.
use Rattle.std.proofs.Common.{◌≡◌, ℕ, zero, suc, ◌≤◌, List, [], ◌∷◌, Some, refl, ap, sym, length, drop, arith}
use Rattle.std.specs.Prelude.{slice_get}
use Rattle.flat_language.specs.FlatForm.{FlatForm, no_form, form_and, no_clause, clause_and, no_binding, binding_and, no_dynamic, dynamic_and}
use Rattle.flat_language.specs.declared.flat_core.FlatClause.{FlatClause}
use Rattle.flat_language.specs.declared.flat_core.FlatBinding.{FlatBinding}
use Rattle.flat_language.specs.declared.flat_core.FlatDynBinding.{FlatDynBinding}
use Rattle.flat_language.specs.model.View.{forms, clauses_of, bindings_of, dynamics_of, maybe_form}
use Rattle.eval_state.specs.Frames.{forms_from, clauses_from, bindings_from, dynamics_from}

-- the item at a place is the first one from there on
pub there : {X : Type 0} (xs : List X) (n : ℕ) (x : X) → slice_get xs n ≡ Some x → drop n xs ≡ x ∷ drop (suc n) xs
there [] n x h = absurd (cc)
there (y ∷ ys) zero x h = let e : y ≡ x = cc in ap (λ w. w ∷ ys) e
there (y ∷ ys) (suc n) x h = there ys n x h

-- behind the last one nothing is left
pub done : {X : Type 0} (xs : List X) (n : ℕ) → length xs ≤ n → drop n xs ≡ []
done [] zero h = refl
done [] (suc n) h = refl
done (y ∷ ys) zero h = absurd (omega arith)
done (y ∷ ys) (suc n) h = done ys n (omega arith)

pub form_there : (xs : List FlatForm) (n : ℕ) (x : FlatForm) → slice_get xs n ≡ Some x → form_and x (forms_from xs (suc n)) ≡ forms_from xs n
form_there xs n x h = sym (ap forms (there xs n x h))

pub forms_done : (xs : List FlatForm) (n : ℕ) → length xs ≤ n → no_form ≡ forms_from xs n
forms_done xs n h = sym (ap forms (done xs n h))

pub clause_there : (xs : List FlatClause) (n : ℕ) (x : FlatClause) → slice_get xs n ≡ Some x → clause_and x.test (maybe_form x.body) (clauses_from xs (suc n)) ≡ clauses_from xs n
clause_there xs n x h = sym (ap clauses_of (there xs n x h))

pub clauses_done : (xs : List FlatClause) (n : ℕ) → length xs ≤ n → no_clause ≡ clauses_from xs n
clauses_done xs n h = sym (ap clauses_of (done xs n h))

pub binding_there : (xs : List FlatBinding) (n : ℕ) (x : FlatBinding) → slice_get xs n ≡ Some x → binding_and x.home x.value (bindings_from xs (suc n)) ≡ bindings_from xs n
binding_there xs n x h = sym (ap bindings_of (there xs n x h))

pub bindings_done : (xs : List FlatBinding) (n : ℕ) → length xs ≤ n → no_binding ≡ bindings_from xs n
bindings_done xs n h = sym (ap bindings_of (done xs n h))

pub dynamic_there : (xs : List FlatDynBinding) (n : ℕ) (x : FlatDynBinding) → slice_get xs n ≡ Some x → dynamic_and x.name.0 x.value (dynamics_from xs (suc n)) ≡ dynamics_from xs n
dynamic_there xs n x h = sym (ap dynamics_of (there xs n x h))

pub dynamics_done : (xs : List FlatDynBinding) (n : ℕ) → length xs ≤ n → no_dynamic ≡ dynamics_from xs n
dynamics_done xs n h = sym (ap dynamics_of (done xs n h))
