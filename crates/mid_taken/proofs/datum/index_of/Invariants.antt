use Rattle.mid_taken.specs.IndexOf.{IsIndexOfFirst}
use Rattle.mid_taken.proofs.datum.index_of.Given as goal

abbrev pub invariant-loop-at : goal.invariant-loop-at
invariant-loop-at l = IsIndexOfFirst l.symbols l.at l.index
