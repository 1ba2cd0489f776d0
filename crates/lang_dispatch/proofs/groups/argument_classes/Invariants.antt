-- The classes of the methods so far, and then those of the rest.
use Rattle.std.proofs.Common.{◌≡◌, ◌++◌, map, drop, slice_index_or}
use Rattle.lang_meaning.specs.Cells.{argument_classes}
use Rattle.lang_dispatch.proofs.groups.argument_classes.Given as goal

abbrev pub invariant-loop-method : goal.invariant-loop-method
invariant-loop-method l =
    l.column ++ map (λ m. slice_index_or m.classes l.argument 0) (drop l.method-index l.generic.methods) ≡ argument_classes l.generic l.argument
