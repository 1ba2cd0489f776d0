-- From one arena to a later one: the heap may have grown, and words stay, or only those of one spot change.
use Rattle.std.specs.Prelude.{◌≡◌, ℕ, ◌<◌, ◌≤◌, length}
use Rattle.mid_code.specs.Arena.{Arena, word_at}
use Rattle.mid_arena.specs.Places.{Spot, end_of}
use Rattle.mid_arena.specs.Standing.{ArenaStands, SameStack}

-- the same bounds but for the heap, which may have grown, and the same words in all that was laid or in the heap
pub record HeapGrows (earlier later : Arena) : Type 0 where
  pub size : length later.memory ≡ length earlier.memory
  pub laid_from : later.laid_from ≡ earlier.laid_from
  pub laid_to : later.laid_to ≡ earlier.laid_to
  pub heap_from : later.heap_from ≡ earlier.heap_from
  pub heap_to : earlier.heap_to ≤ later.heap_to
  pub stands : ArenaStands later
  pub words : (x : ℕ) → x < earlier.heap_to → word_at later x ≡ word_at earlier x

-- and the same words in the control records that stood and still stand
pub record Grows (earlier later : Arena) : Type 0 where
  pub heap : HeapGrows earlier later
  pub open heap use *
  pub stack : SameStack earlier later

-- The same bounds but for the heap, which may have grown, and the same words in what was laid and in the heap but in a spot, and in the control
-- records that stood and still stand.
pub record Changes (s : Spot) (earlier later : Arena) : Type 0 where
  pub laid_from : later.laid_from ≡ earlier.laid_from
  pub laid_to : later.laid_to ≡ earlier.laid_to
  pub heap_from : later.heap_from ≡ earlier.heap_from
  pub heap_to : earlier.heap_to ≤ later.heap_to
  pub stands : ArenaStands later
  pub before : (x : ℕ) → x < s.address → word_at later x ≡ word_at earlier x
  pub after : (x : ℕ) → end_of s ≤ x → x < earlier.heap_to → word_at later x ≡ word_at earlier x
  pub stack : SameStack earlier later
