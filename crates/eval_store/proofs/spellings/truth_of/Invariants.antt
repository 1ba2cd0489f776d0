-- So far as the table was searched, no name has the text of t.
use Rattle.std.proofs.Common.{None}
use Rattle.eval_store.specs.Spelling.{IsTruth}
use Rattle.eval_store.proofs.spellings.truth_of.Given as goal

abbrev pub invariant-loop-number : goal.invariant-loop-number
invariant-loop-number l = IsTruth l.names l.number None
