-- Names that were found for the registers of a procedure: of which register each is a name, and barriers that tell whether they say what registers have.
use Rattle.std.specs.Prelude.{◌≡◌, ◌≢◌, ◌≤◌, ◌<◌, ◌⊎◌, ℕ, ◌+◌, ◌==◌, ◌&&◌, nat_lt, List, length, slice_get, slice_index, Some, if◌then◌else◌}
use Rattle.mid_lines.specs.declared.line.Line.{Line}
use Rattle.back_liveness.specs.declared.barrier.Barrier.{Barrier}
use Rattle.back_liveness.specs.Barriers.{Crosses, barrier_at}
use Rattle.back_allocation.specs.LineSteps.{line_gives}

-- the register of which a name is one
abbrev pub owner_in : (owners : List ℕ) → (name : ℕ) → ℕ
owner_in owners w = slice_index owners w

-- a name of a register, or else the register itself
abbrev pub checked_name : (owners : List ℕ) → (register name : ℕ) → ℕ
checked_name owners v w = if nat_lt w (length owners) && (slice_index owners w == v) then w else v

-- the name that a register has where it is read, by a list for all registers
abbrev pub name_in : (owners current : List ℕ) → (register : ℕ) → ℕ
name_in owners current v = checked_name owners v (slice_index current v)

-- a name but the first one of its register stands among those from where they start up to where they end
abbrev pub AreTogether : (owners starts ends : List ℕ) → Type 0
AreTogether owners starts ends =
    (w : ℕ) → w < length owners
    → (w ≡ owner_in owners w) ⊎ ((slice_index starts (owner_in owners w) ≤ w) × (w < slice_index ends (owner_in owners w)))

-- The first names are those of registers by themselves, and the others of a register stand one behind the other.
pub record AreGrouped (owners starts ends : List ℕ) (registers : ℕ) : Type 0 where
  pub few : registers ≤ length owners
  pub own : (w : ℕ) → w < registers → owner_in owners w ≡ w
  pub groups : AreTogether owners starts ends

-- Barriers at lines: behind a line that gives a word to a name, all other names of its register are crossed.
pub record AreOverwritten (named : List Line) (owner : (name : ℕ) → ℕ) (names : ℕ) (barriers : List Barrier) (count : ℕ) : Type 0 where
  pub long : length barriers ≡ count + 1
  pub written :
      (line to w : ℕ) (y : Line) → line < count → slice_get named line ≡ Some y → line_gives y ≡ Some to → w < names → owner w ≡ owner to → w ≢ to
      → Crosses (barrier_at barriers (line + 1)) w
