-- From where one comes to a line, and loops that lie one in another.
use Rattle.std.specs.Prelude.{◌≡◌, ◌≤◌, ◌<◌, ◌⊎◌, ℕ, ◌+◌, true, List, length, slice_get, slice_index, Some}
use Rattle.back_liveness.specs.declared.step.Step.{Step}
use Rattle.back_liveness.specs.Liveness.{goes_aside, Goes}

-- a line between the first and the last that are given for another
abbrev pub IsBetween : (earliest latest : List ℕ) → (line t : ℕ) → Type 0
IsBetween earliest latest line t = (slice_index earliest t ≤ line) × (line ≤ slice_index latest t)

-- for each line, the first and the last of it and of those that go aside to it, of the first lines
pub record AreHeadsOf (steps : List Step) (count : ℕ) (earliest latest : List ℕ) : Type 0 where
  pub earliest_count : length earliest ≡ length steps + 1
  pub latest_count : length latest ≡ length steps + 1
  pub own : (t : ℕ) → t ≤ length steps → IsBetween earliest latest t t
  pub sources :
      (line t : ℕ) (s : Step) → line < count → slice_get steps line ≡ Some s → goes_aside s t ≡ true → t ≤ length steps
      → IsBetween earliest latest line t
  pub within : (t : ℕ) → slice_index latest t ≤ length steps

-- such a first or last line is the line itself or goes aside to it
abbrev pub IsSource : List Step → (t line : ℕ) → Type 0
IsSource steps t line = (line ≡ t) ⊎ Goes steps line t

pub record AreSources (steps : List Step) (earliest latest : List ℕ) : Type 0 where
  pub first : (t : ℕ) → t ≤ length steps → IsSource steps t (slice_index earliest t)
  pub last : (t : ℕ) → t ≤ length steps → IsSource steps t (slice_index latest t)

-- the same number, or that of a line
abbrev pub IsSameOr : (old new : List ℕ) (t line : ℕ) (added : Type 0) → Type 0
IsSameOr old new t line added = (slice_index new t ≡ slice_index old t) ⊎ ((slice_index new t ≡ line) × added)

-- of all lines
abbrev pub AreHeads : (steps : List Step) (earliest latest : List ℕ) → Type 0
AreHeads steps earliest latest = AreHeadsOf steps (length steps) earliest latest

-- at each line one number that is no more than those of the lines from it on, or no less than those of the lines up to it
pub record AreFloors (earliest floors : List ℕ) : Type 0 where
  pub count : length floors ≡ length earliest
  pub below : (t k : ℕ) → t ≤ k → k < length earliest → slice_index floors t ≤ slice_index earliest k

pub record AreRoofs (latest roofs : List ℕ) : Type 0 where
  pub count : length roofs ≡ length latest
  pub above : (t k : ℕ) → k ≤ t → t < length latest → slice_index latest k ≤ slice_index roofs t

-- From its head to the last line from which one comes back a loop is entered at its head alone, and all that goes back to a line
-- inside is inside.
abbrev pub IsNestedAt : (earliest latest : List ℕ) → (h t : ℕ) → Type 0
IsNestedAt earliest latest h t = (h ≤ slice_index earliest t) × (slice_index latest t ≤ slice_index latest h)

abbrev pub AreNested : (earliest latest : List ℕ) → Type 0
AreNested earliest latest = (h t : ℕ) → h < t → t ≤ slice_index latest h → IsNestedAt earliest latest h t

-- a loop and a line of it, from outside of which one comes there or comes back to it
pub record IsCounterexample (earliest latest : List ℕ) : Type 0 where
  pub head : ℕ
  pub to : ℕ
  pub there : head < length latest
  pub behind : head < to
  pub inside : to ≤ slice_index latest head
  pub outside : (slice_index earliest to < head) ⊎ (slice_index latest head < slice_index latest to)
