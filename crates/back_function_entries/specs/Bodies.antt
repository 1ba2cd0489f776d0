-- **The body of a function does what its form means**, one level below.
use Rattle.std.specs.Prelude.{ℕ}
use Rattle.flat_language.specs.declared.program.FlatProcedure.{FlatProcedure}
use Rattle.back_lowering.specs.Program.{Extra}
use Rattle.back_relation.specs.Setting.{Setting}
use Rattle.back_relation.specs.Forms.{DoesForm, context_at, code_at}
use Rattle.back_relation.specs.Procedures.{BodyDoes}
use Rattle.back_relation.specs.Right.{ProgramIsRight}

-- a body whose form does what it means
abbrev pub LawOfBodies : Type 0
LawOfBodies =
    (setting : Setting) (k entry : ℕ) (extra : Extra) (q : FlatProcedure) → ProgramIsRight setting
    → DoesForm setting setting.turns_each (context_at setting k) (code_at setting k setting.turns_each) q.body → BodyDoes setting k entry extra q
