-- Those in front are cut.
use Rattle.std.proofs.Common.{◌≡◌, take, length}
use Rattle.front_profile.specs.bridge.CutGenerics.{cut_first}
use Rattle.front_scope.proofs.mark.cut_generics.Given as goal

abbrev pub invariant-loop-at : goal.invariant-loop-at
invariant-loop-at l = l.generics ≡ cut_first l.at l.methods (take (length l.methods) l.fn.generics)
