-- What the main forms that were passed mention is marked.
use Rattle.lang_reached.proofs.Looking.{MainsSome}
use Rattle.lang_reached.proofs.reached.mark_mains.Given as goal

abbrev pub invariant-loop-at : goal.invariant-loop-at
invariant-loop-at l = MainsSome l.given.names.now l.given.program.now l.main l.at l.initial.search l.search
