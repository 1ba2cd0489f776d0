use Rattle.std.proofs.Common.{◌≡◌, reverse, vec_len}
use Rattle.front_reader.specs.bridge.Machine.{LexemeState, put}
use Rattle.front_reader.proofs.turn.put_datum.Given as goal

abbrev pub invariant-loop-open : goal.invariant-loop-open
invariant-loop-open l = (s : LexemeState) → put s (reverse l.pending.items) l.datum ≡ put s (reverse l.fn.pending.items) l.fn.datum

abbrev pub decreases-loop-open : goal.decreases-loop-open
decreases-loop-open l = vec_len l.pending
