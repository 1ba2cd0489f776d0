-- As many parameters have gone to their places as were looked at.
use Rattle.std.proofs.Common.{◌≡◌, ◌++◌, take}
use Rattle.back_places.specs.Passing.{parameters_code}
use Rattle.back_emit.proofs.passing.put_parameters.Given as goal

abbrev pub invariant-loop-i : goal.invariant-loop-i
invariant-loop-i l = l.code ≡ l.fn.code ++ parameters_code l.words_at 0 (take l.i l.parameters)
