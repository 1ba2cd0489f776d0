-- What is passed is copied.
use Rattle.std.proofs.Common.{◌≡◌, take}
use Rattle.front_programs.proofs.program.variables.Given as goal

abbrev pub invariant-loop-var : goal.invariant-loop-var
invariant-loop-var l = l.copied ≡ take l.var-index l.list
