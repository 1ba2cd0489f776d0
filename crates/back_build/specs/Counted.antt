-- Whether no more variables of a function have boxes than the functions made in it capture, and so in each function of a program.
use Rattle.std.specs.Prelude.{Bool, ◌&&◌, nat_le}
use Rattle.std.specs.List.{list_all}
use Rattle.flat_language.specs.declared.program.FlatProcedure.{FlatProcedure}
use Rattle.flat_language.specs.declared.program.FlatProgram.{FlatProgram}
use Rattle.flat_language.specs.FlatNodes.{homes}
use Rattle.flat_boxes.specs.Boxes.{boxes, captured_variables}

abbrev pub has_boxes_captured : FlatProcedure → Bool
has_boxes_captured q = nat_le (boxes (homes q)) (captured_variables q.body)

abbrev pub are_boxes_captured : FlatProgram → Bool
are_boxes_captured program = list_all has_boxes_captured program.procedures && list_all has_boxes_captured program.lambdas
