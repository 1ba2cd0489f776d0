-- All ways are near where those of the procedures that are left are.
use Rattle.std.proofs.Common.{◌≡◌, drop}
use Rattle.std.specs.List.{list_all}
use Rattle.back_program_code.specs.Shapes.{is_near_shape}
use Rattle.back_program_code.proofs.plans.are_near_shapes.Given as goal

abbrev pub invariant-loop-shape : goal.invariant-loop-shape
invariant-loop-shape l = list_all is_near_shape (drop l.shape-index l.shapes) ≡ list_all is_near_shape l.shapes
