-- What registers ask of the places where they stand, by their intervals and whether barriers cross them.
use Rattle.std.specs.Prelude.{◌≡◌, ◌<◌, ℕ, Bool, true, false, List, slice_index_or, Option}
use Rattle.back_liveness.specs.declared.step.Interval.{Interval}
use Rattle.back_liveness.specs.Liveness.{IsCovered}
use Rattle.back_scan.specs.declared.spot.Wish.{Wish}
use Rattle.back_scan.specs.declared.spot.Wish.TheVariants.{Any, Only, InSlot}

-- a parameter asks for the value register in which it is passed, or for a slot
abbrev pub IsOwnWish : (parameter : ℕ) → Wish → Type 0
IsOwnWish v Any = ⊥
IsOwnWish v (Only q) = (v < 14) × (q ≡ v)
IsOwnWish v InSlot = Unit {0}

abbrev pub wish_at : List Wish → (register : ℕ) → Wish
wish_at wishes v = slice_index_or wishes v InSlot

-- The first registers ask for a slot where a barrier is told to cross them; and those that are parameters, and have the first line in their
-- interval, for their own register or a slot.
pub record WishesHold (intervals : List (Option Interval)) (crossed : List Bool) (parameters count : ℕ) (wishes : List Wish) : Type 0 where
  pub outlasting : (v : ℕ) → v < count → slice_index_or crossed v false ≡ true → wish_at wishes v ≡ InSlot
  pub passed : (v : ℕ) → v < count → v < parameters → IsCovered intervals v 0 → IsOwnWish v (wish_at wishes v)
