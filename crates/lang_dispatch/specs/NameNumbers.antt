-- What the generic functions keep beside their rows: the number of each name.
use Rattle.std.specs.Prelude.{◌≡◌, ℕ, List, Some, slice_get}
use Rattle.std.specs.Ordering.{nat_cmp}
use Rattle.std.specs.BTreeMap.{get, BTreeMap}

-- each name has its own number
pub record IsIndexed (names : List ℕ) (numbers : BTreeMap ℕ ℕ) : Type 0 where
  pub found : (n i : ℕ) → get nat_cmp numbers n ≡ Some i → slice_get names i ≡ Some n
  pub there : (n i : ℕ) → slice_get names i ≡ Some n → get nat_cmp numbers n ≡ Some i
