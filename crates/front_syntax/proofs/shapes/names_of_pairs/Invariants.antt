-- The names of the bindings that were seen.
use Rattle.std.proofs.Common.{◌≡◌, take}
use Rattle.front_profile.specs.Shapes.{names_of_pairs}
use Rattle.front_syntax.specs.Views.{view_pairs}
use Rattle.front_syntax.proofs.shapes.names_of_pairs.Given as goal

abbrev pub invariant-loop-pair : goal.invariant-loop-pair
invariant-loop-pair l = l.names ≡ names_of_pairs (view_pairs (take l.pair-index l.pairs))
