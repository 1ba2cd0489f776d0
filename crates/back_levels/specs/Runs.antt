-- **The run of the code**: the start is entered, and the main forms are called; and what that is in words of the meaning of programs.
use Rattle.std.specs.Prelude.{ℕ, ◌+◌, ◌*◌, ◌<◌, List, length}
use Rattle.mid_code.specs.State.{MidState}
use Rattle.back_relation.specs.Right.{ProgramIsRight}
use Rattle.back_relation.specs.Setting.{Setting}
use Rattle.back_relation.specs.Worlds.{World}
use Rattle.back_claims.specs.Program.{ProgramBegins, RunEnds, the_meaning, RunDoes}
use Rattle.back_levels.specs.MainsLeft.{MainsDo}

abbrev pub LawOfRuns : Type 0
LawOfRuns =
    (setting : Setting) → ProgramIsRight setting → (input : List ℕ) (k : ℕ) (w : World) (y : MidState) → MainsDo setting k setting.turns_each
    → ProgramBegins setting input w y → RunEnds setting input k y

-- there are turns enough for the units of the program
abbrev pub LawOfRunsMeant : Type 0
LawOfRunsMeant =
    (setting : Setting) (input : List ℕ) (k : ℕ) (w : World) (y : MidState) → ProgramBegins setting input w y
    → 16 * (the_meaning setting input k y).units + length y.arena.memory < setting.turns_each → RunEnds setting input k y → RunDoes setting input k y
