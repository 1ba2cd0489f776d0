-- The homes of the variables of bindings, one for each.
use Rattle.std.proofs.Common.{◌≡◌, ℕ, zero, suc, ◌<◌, ◌≤◌, List, [], ◌∷◌, Some, None, refl, ap, length, arith}
use Rattle.std.specs.Prelude.{slice_get}
use Rattle.flat_language.specs.declared.flat_core.FlatBinding.{FlatBinding}
use Rattle.flat_language.specs.FlatMeaning.{binding_homes}
use Rattle.flat_language.specs.model.View.{bindings_of}

pub homes_counted : (bs : List FlatBinding) → length (binding_homes (bindings_of bs)) ≡ length bs
homes_counted [] = refl
homes_counted (b ∷ bs) = ap suc (homes_counted bs)

pub home_there : (bs : List FlatBinding) (n : ℕ) → n < length bs → slice_get (binding_homes (bindings_of bs)) n ≡ None → ⊥
home_there [] n h e = absurd (omega arith)
home_there (b ∷ bs) zero h e = cc
home_there (b ∷ bs) (suc n) h e = home_there bs n (omega arith) e

-- the home of a binding, and none past the last one
pub home_at : (bs : List FlatBinding) (n : ℕ) (b : FlatBinding) → slice_get bs n ≡ Some b → Some b.home ≡ slice_get (binding_homes (bindings_of bs)) n
home_at [] n b e = absurd (cc)
home_at (x ∷ bs) zero b e = let same : b ≡ x = cc in ap (λ (y : FlatBinding). Some y.home) same
home_at (x ∷ bs) (suc n) b e = home_at bs n b e

pub home_past : (bs : List FlatBinding) (n : ℕ) → length bs ≤ n → None ≡ slice_get (binding_homes (bindings_of bs)) n
home_past [] n h = refl
home_past (b ∷ bs) zero h = absurd (omega arith)
home_past (b ∷ bs) (suc n) h = home_past bs n (omega arith)
