-- Those that were passed are marked.
use Rattle.lang_reached.proofs.Searching.{MarksSome}
use Rattle.lang_reached.proofs.search.mark_methods.Given as goal

abbrev pub invariant-loop-at : goal.invariant-loop-at
invariant-loop-at l = MarksSome l.given.names.now l.given.program.now l.methods l.at l.initial.search l.search
