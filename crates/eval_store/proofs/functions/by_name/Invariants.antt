-- The rows from one on are noted.
use Rattle.std.proofs.Common.{◌≤◌, length, drop}
use Rattle.eval_store.specs.Tables.{IsNoting}
use Rattle.eval_store.proofs.functions.by_name.Given as goal

abbrev pub invariant-loop-at : goal.invariant-loop-at
invariant-loop-at l = record {
  inside : l.at ≤ length l.rows;
  noted : IsNoting l.fn.spellings (drop l.at l.rows) (drop l.at l.words) l.functions;
}

abbrev pub decreases-loop-at : goal.decreases-loop-at
decreases-loop-at l = l.at
