-- As many procedures are made as were looked at.
use Rattle.std.proofs.Common.{◌≡◌, map, take}
use Rattle.mid_lines.specs.Flattened.{procedure_lines}
use Rattle.mid_lines.proofs.flattening.program_lines.Given as goal

abbrev pub invariant-loop-procedure : goal.invariant-loop-procedure
invariant-loop-procedure l = l.procedures ≡ map procedure_lines (take l.procedure-index l.program.procedures)
