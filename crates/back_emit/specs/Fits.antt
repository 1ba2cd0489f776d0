-- What is asked of the spot of a line, so that its code has words as offsets: all places are in reach, and positions are within 2^24 words.
use Rattle.std.specs.Prelude.{◌≡◌, ℕ, ◌+◌, ◌^◌, ◌<◌, ◌≤◌, true, List, length}
use Rattle.mid_code.specs.declared.operation.Operation.{Operation}
use Rattle.mid_code.specs.declared.operation.Operation.TheVariants as operation
use Rattle.mid_lines.specs.declared.line.Line.{Line}
use Rattle.mid_lines.specs.declared.line.Line.TheVariants.{Do, Return}
use Rattle.mid_lines.specs.LinesChecked.{line_fits}
use Rattle.back_places.specs.declared.place.Place.{Place}
use Rattle.back_allocation.specs.Places.{place_at}
use Rattle.back_emit.specs.declared.spots.Spot.{Spot}
use Rattle.back_emit.specs.declared.ways.FrameWay.{FrameWay}
use Rattle.back_emit.specs.Ways.{IsReached, IsInReach, depth_of}

-- all registers are in reach
abbrev pub AreInReach : FrameWay → (places : List Place) → Type 0
AreInReach way places = (v : ℕ) → IsInReach way (place_at places v)

-- the places of registers are in reach at the line, and behind it
pub record FitsSpot (s : Spot) (places : List Place) : Type 0 where
  pub reached : AreInReach s.way places
  pub reached_next : AreInReach s.next_way places
  pub framed : depth_of s.way + s.frame < 2 ^ 30
  pub at_low : s.at < 2 ^ 24
  pub to_low : s.to < 2 ^ 24
  pub table_low : s.table < 2 ^ 24
  pub arguments_low : s.arguments_at < 2 ^ 24
  pub procedures_low : s.procedures_at < 2 ^ 24
  pub full_low : s.full_at < 2 ^ 24

-- how many arguments an operation passes
abbrev pub passed_by_operation : Operation → ℕ
passed_by_operation (operation.Call to callee arguments) = length arguments
passed_by_operation o = 0

-- the same of a line
abbrev pub passed_by : Line → ℕ
passed_by (Do o) = passed_by_operation o
passed_by x = 0

-- where a return starts, the return address is reached
abbrev pub ReachesLink : Spot → Line → Type 0
ReachesLink s (Return r) = IsReached s.way 0
ReachesLink s x = Unit {0}

-- what is asked for the code of a line, which fits some number of registers and of lines
pub record FitsLine (s : Spot) (places : List Place) (x : Line) : Type 0 where
  pub registers : ℕ
  pub lines : ℕ
  pub spot : FitsSpot s places
  pub fits : line_fits registers lines x ≡ true
  pub passed : s.arguments_at + passed_by x ≤ 2 ^ 24
  pub link : ReachesLink s x

-- an operation that is no call
abbrev pub IsPlain : Operation → Type 0
IsPlain (operation.Call to callee arguments) = ⊥
IsPlain o = Unit {0}
