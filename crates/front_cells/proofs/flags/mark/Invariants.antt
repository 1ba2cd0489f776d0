-- The flags, with the methods that are left, say which class is there.
use Rattle.std.proofs.Common.{map, drop}
use Rattle.lang_meaning.specs.Cells.{argument_classes}
use Rattle.front_cells.proofs.Flagging.{AreFlagsBut, class_of}
use Rattle.front_cells.proofs.flags.mark.Given as goal

abbrev pub invariant-loop-method : goal.invariant-loop-method
invariant-loop-method l =
    AreFlagsBut (map (class_of l.argument) (drop l.method-index l.generic.methods)) (argument_classes l.generic l.argument) l.flags
