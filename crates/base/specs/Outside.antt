-- What the outside is said to hold, to have left and to be given.
use Rattle.std.specs.Prelude.{◌≡◌, ◌≢◌, ℕ, ◌+◌, ◌<◌, ◌≤◌, ◌⊎◌, List, [], ◌++◌, length, take, Option, Some, if◌then◌else◌, ◌==◌}

-- a count of faults rose in a call, or it stands at the last value of its type
abbrev pub Rose : ℕ → ℕ → Type 0
Rose before after = (before < after) ⊎ (18446744073709551615 ≤ after)

-- the first n bytes of the buffer are now the first n of what there is to read, and none are put only
-- at the end or where the buffer has no room
pub record TakesFront (there : List ℕ) (n : ℕ) (buffer buffer' : List ℕ) : Type 0 where
  pub within : n ≤ length there
  pub bytes : take n buffer' ≡ take n there
  pub ends : 0 < length buffer → there ≢ [] → 0 < n

-- a sink that tells after a write of these bytes told before it, and was given the first n of them,
-- which is one write more unless n is 0
pub record Took (told : Option (List ℕ)) (writes : ℕ) (n : ℕ) (bytes : List ℕ) (after : List ℕ) (writes' : ℕ) : Type 0 where
  pub before : List ℕ
  pub was : told ≡ Some before
  pub appended : after ≡ before ++ take n bytes
  pub counted : writes' ≡ writes + (if n == 0 then 0 else 1)
