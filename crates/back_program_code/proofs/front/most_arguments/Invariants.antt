-- The most of the procedures that were looked at.
use Rattle.std.proofs.Common.{◌≡◌, map, take}
use Rattle.back_layout.specs.ChosenPlaces.{most_arguments}
use Rattle.back_program_code.specs.Shapes.{procedure_of}
use Rattle.back_program_code.proofs.front.most_arguments.Given as goal

abbrev pub invariant-loop-i : goal.invariant-loop-i
invariant-loop-i l = l.most ≡ most_arguments (map procedure_of (take l.i l.shapes))
