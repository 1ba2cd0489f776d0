-- **All forms at all levels**, from the lowest level on; and so all main forms do what they mean, and lowering is right.
use Rattle.std.proofs.Common.{◌≡◌, ◌⊎◌, inl, inr, ℕ, zero, suc, ◌<◌, ◌≤◌, subst, arith}
use Rattle.std.proofs.lemmas.Bool.{cases_lt}
use Rattle.back_relation.specs.Setting.{Setting}
use Rattle.back_relation.specs.Right.{ProgramIsRight}
use Rattle.back_levels.proofs.Mains.{mains_law}
use Rattle.back_levels.specs.MainsLeft.{MainsDo}
use Rattle.back_levels.proofs.Programs.{programs_law}
use Rattle.back_levels.specs.Levels.{FormsDo, LawOfLevels, LawOfLowering}
use Rattle.back_levels.proofs.Forms.{forms_law}
use Rattle.back_levels.proofs.Routines.{routines_law}

module _ (setting : Setting) (right : ProgramIsRight setting) where
  forms_at : (k : ℕ) → ((j : ℕ) → j < k → FormsDo setting j) → FormsDo setting k
  forms_at k below = forms_law setting k right (λ turns fewer. routines_law setting k right below turns fewer) below

  -- the levels up to one, from those below it
  up_to : (k : ℕ) → ((i : ℕ) → i < k → FormsDo setting i) → (j : ℕ) → j < suc k → FormsDo setting j
  up_to k below j less = by (cases_lt j k)
    where
      by : j < k ⊎ k ≤ j → FormsDo setting j
      by (inl fewer) = below j fewer
      by (inr most) = let same : k ≡ j = omega (arith, less, most) in subst (λ i. FormsDo setting i) same (forms_at k below)

  all_below : (k j : ℕ) → j < k → FormsDo setting j
  all_below zero j less = absurd (omega (arith, less))
  all_below (suc k) j less = up_to k (λ i low. all_below k i low) j less

  pub all_forms : (k : ℕ) → FormsDo setting k
  all_forms k = all_below (suc k) k (omega arith)

  pub all_mains : (k : ℕ) → MainsDo setting k setting.turns_each
  all_mains k number f there = mains_law setting k setting.turns_each number f right (λ n fewer. (all_forms k n fewer f).value)

pub levels_law : LawOfLevels
levels_law setting right k = all_forms setting right k

pub lowering_law : LawOfLowering
lowering_law setting right input k w y begins enough = programs_law setting right input k w y (all_mains setting right k) begins enough
