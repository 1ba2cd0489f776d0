-- What is passed is copied.
use Rattle.std.proofs.Common.{◌≡◌, take}
use Rattle.front_programs.proofs.program.procedures.Given as goal

abbrev pub invariant-loop-row : goal.invariant-loop-row
invariant-loop-row l = l.copied ≡ take l.row-index l.list
