-- The table was searched so far.
use Rattle.eval_store.specs.Spelling.{IsBlankBelow}
use Rattle.eval_store.proofs.spellings.Spellings.new.Given as goal

abbrev pub invariant-loop-number : goal.invariant-loop-number
invariant-loop-number l = IsBlankBelow l.names l.number l.blank
