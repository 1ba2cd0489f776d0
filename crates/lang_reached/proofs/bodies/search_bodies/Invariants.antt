-- What is known at each time.
use Rattle.lang_reached.specs.Search.{IsUnderWay}
use Rattle.lang_reached.proofs.bodies.search_bodies.Given as goal

abbrev pub invariant-loop-turn : goal.invariant-loop-turn
invariant-loop-turn l = IsUnderWay l.given.names.now l.given.program.now l.initial.search l.search
