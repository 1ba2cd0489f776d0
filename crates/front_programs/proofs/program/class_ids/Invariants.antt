-- What is passed is copied.
use Rattle.std.proofs.Common.{◌≡◌, take}
use Rattle.front_programs.proofs.program.class_ids.Given as goal

abbrev pub invariant-loop-id : goal.invariant-loop-id
invariant-loop-id l = l.copied ≡ take l.id-index l.list
