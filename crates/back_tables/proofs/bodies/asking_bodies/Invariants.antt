-- What the bodies so far say.
use Rattle.std.proofs.Common.{◌≡◌, map, take}
use Rattle.back_tables.proofs.Tabling.{procedure_asks}
use Rattle.back_tables.proofs.bodies.asking_bodies.Given as goal

abbrev pub invariant-loop-at : goal.invariant-loop-at
invariant-loop-at l = l.flags ≡ map procedure_asks (take l.at l.procedures)
