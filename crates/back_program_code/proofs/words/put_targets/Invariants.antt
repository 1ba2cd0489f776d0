-- The addresses of as many lines as were looked at.
use Rattle.std.proofs.Common.{◌≡◌, ◌*◌, ◌++◌, map, take}
use Rattle.back_emit.specs.PlacedLines.{line_position}
use Rattle.back_program_code.proofs.words.put_targets.Given as goal

abbrev pub invariant-loop-target : goal.invariant-loop-target
invariant-loop-target l = l.words ≡ l.fn.words ++ map (λ to. 4 * line_position l.lefts l.body to) (take l.target-index l.targets)
