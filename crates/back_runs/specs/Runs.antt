-- So many steps of lines and the instructions that match them.
use Rattle.std.specs.Prelude.{◌≡◌, ◌≤◌, ℕ, ◌+◌, Bool, true, List}
use Rattle.rv_machine.specs.Run.{Moment}
use Rattle.mid_code.specs.Arena.{Block}
use Rattle.mid_lines.specs.declared.line.LineProgram.{LineProgram}
use Rattle.mid_lines.specs.LinesChecked.{is_checked_line_program}
use Rattle.mid_lines.specs.LineMeaning.{Stage, state_of, after}
use Rattle.mid_lines.specs.Weights.{weights}
use Rattle.back_places.specs.declared.place.Place.{Place}
use Rattle.back_places.specs.Places.{Located}
use Rattle.back_places.specs.Good.{IsGood}
use Rattle.back_places.specs.Relation.{Relates}
use Rattle.back_places.specs.StepLaw.{Comes, IsLawful, Known}

-- The machine goes on to what comes so many steps later, in no more instructions than these steps cost, and in no fewer than they weigh.
pub record FollowsRun
    (program : LineProgram) (l : Located) (Fact : (number line register : ℕ) → Place → Type 0) (first : List Block) (s : Stage) (m : Moment) (steps : ℕ) : Type 0 where
  pub count : ℕ
  pub moment : Moment
  pub comes : Comes count m moment
  pub relates : Relates program l Fact first (after program steps s) moment
  pub cheap : count + (state_of s).cost ≤ (state_of (after program steps s)).cost
  pub heavy : IsLawful (after program steps s) → weights program steps s ≤ count

-- where all is good, each run of lines is matched, from wherever the stage is
abbrev pub LawOfRuns : Type 0
LawOfRuns =
    (program : LineProgram) (l : Located) (known : (number line register : ℕ) → Place → Bool) (first : List Block)
    → is_checked_line_program program ≡ true → IsGood program l (Known known)
    → (steps : ℕ) (s : Stage) (m : Moment) → Relates program l (Known known) first s m → FollowsRun program l (Known known) first s m steps
