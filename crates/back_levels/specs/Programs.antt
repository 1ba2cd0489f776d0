-- **Whole programs**: their code does what they mean, where all main forms do.
use Rattle.std.specs.Prelude.{ℕ, ◌+◌, ◌*◌, ◌<◌, List, length}
use Rattle.mid_code.specs.State.{MidState}
use Rattle.back_relation.specs.Right.{ProgramIsRight}
use Rattle.back_relation.specs.Setting.{Setting}
use Rattle.back_relation.specs.Worlds.{World}
use Rattle.back_claims.specs.Program.{ProgramBegins, the_meaning, RunDoes}
use Rattle.back_levels.specs.MainsLeft.{MainsDo}

abbrev pub LawOfPrograms : Type 0
LawOfPrograms =
    (setting : Setting) → ProgramIsRight setting → (input : List ℕ) (k : ℕ) (w : World) (y : MidState) → MainsDo setting k setting.turns_each
    → ProgramBegins setting input w y → 16 * (the_meaning setting input k y).units + length y.arena.memory < setting.turns_each → RunDoes setting input k y
