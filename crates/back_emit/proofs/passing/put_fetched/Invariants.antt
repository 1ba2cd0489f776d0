-- As many arguments are in their registers as were looked at.
use Rattle.std.proofs.Common.{◌≡◌, ◌++◌}
use Rattle.back_places.specs.Passing.{fetched_code}
use Rattle.back_emit.proofs.passing.put_fetched.Given as goal

abbrev pub invariant-loop-i : goal.invariant-loop-i
invariant-loop-i l = l.code ≡ l.fn.code ++ fetched_code l.words_at 0 l.i
