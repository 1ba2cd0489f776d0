-- A program that is laid well: what is asked of it by what is shown of its parts.
use Rattle.std.specs.Prelude.{◌≡◌, ℕ, ◌+◌, ◌*◌, ◌≤◌, Some, slice_get}
use Rattle.base.specs.AllOf.{AllOf}
use Rattle.flat_language.specs.declared.program.FlatProcedure.{FlatProcedure}
use Rattle.flat_language.specs.FlatFits.{ProgramFits}
use Rattle.flat_language.specs.FlatNodes.{nodes}
use Rattle.flat_language.specs.FlatStanding.{ProgramStands}
use Rattle.back_lowering.specs.Program.{itself, extra_of, main_form}
use Rattle.back_relation.specs.Setting.{Setting}
use Rattle.back_relation.specs.Placed.{ProgramPlaced}
use Rattle.back_relation.specs.Room.{words_for, main_reserve}
use Rattle.back_relation.specs.Procedures.{BodyPaid}

module _ (setting : Setting) where
  -- the words that are charged for an application, and the reserve, are enough for the words of parameters in its entry, for the frame of each body
  -- and what its code lays; so are those of a main form with a reserve of its own
  pub record FramesPaid : Type 0 where
    pub procedures : (p : ℕ) (q : FlatProcedure) → slice_get setting.program.procedures p ≡ Some q → BodyPaid setting (extra_of setting.names setting.at setting.program p) q
    pub lambdas : AllOf (BodyPaid setting itself) setting.program.lambdas
    pub main :
        AllOf
        (λ f.
        (main_form setting.names setting.at setting.program f).frame + 8 + words_for setting.names setting.program f ≤ 16 + 16 * nodes f + main_reserve)
        setting.program.main

  -- a whole program, which is laid well
  pub record ProgramIsRight : Type 0 where
    pub stands : ProgramStands setting.program
    pub fits : ProgramFits setting.program
    pub placed : ProgramPlaced setting
    pub frames_paid : FramesPaid
