-- Those seen that the body mentions.
use Rattle.std.proofs.Common.{◌≡◌, take}
use Rattle.std.specs.List.{filter}
use Rattle.front_elaboration.specs.Mentioned.{has}
use Rattle.front_elaboration.proofs.elaborate.captured.captured.Given as goal

abbrev pub invariant-loop-part : goal.invariant-loop-part
invariant-loop-part l = l.parts ≡ filter (has l.body) (take l.part-index l.around)
