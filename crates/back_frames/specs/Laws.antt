-- The words that are charged for an application, and the reserve, are enough for the frame of each body and for what its code lays at a time; so
-- are those of a main form.
use Rattle.std.specs.Prelude.{◌+◌, ◌*◌, ◌≤◌}
use Rattle.flat_language.specs.declared.program.FlatProcedure.{FlatProcedure}
use Rattle.flat_language.specs.FlatFits.{Fits, ProgramFits}
use Rattle.flat_language.specs.FlatForm.{FlatForm}
use Rattle.flat_language.specs.FlatNodes.{nodes}
use Rattle.back_lowering.specs.Program.{Extra, main_form}
use Rattle.back_relation.specs.Setting.{Setting}
use Rattle.back_relation.specs.Room.{words_for, main_reserve}
use Rattle.back_relation.specs.Right.{FramesPaid}
use Rattle.back_relation.specs.Procedures.{BodyPaid}
use Rattle.flat_boxes.specs.Boxes.{BoxesAreCaptured, ProgramBoxes}

abbrev pub MainPaid : Setting → FlatForm → Type 0
MainPaid setting f =
    (main_form setting.names setting.at setting.program f).frame + 8 + words_for setting.names setting.program f ≤ 16 + 16 * nodes f + main_reserve

-- **any body whatever, of which no more variables have boxes than the functions in it capture**
abbrev pub LawOfBodiesPaid : Type 0
LawOfBodiesPaid = (setting : Setting) (extra : Extra) (q : FlatProcedure) → BoxesAreCaptured q → BodyPaid setting extra q

-- **any main form that fits**
abbrev pub LawOfMainsPaid : Type 0
LawOfMainsPaid = (setting : Setting) (f : FlatForm) → Fits setting.program f → MainPaid setting f

-- **each program that fits**
abbrev pub LawOfFramesPaid : Type 0
LawOfFramesPaid = (setting : Setting) → ProgramFits setting.program → ProgramBoxes setting.program → FramesPaid setting
