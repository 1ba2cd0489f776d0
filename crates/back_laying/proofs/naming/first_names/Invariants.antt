-- The first ones so far.
use Rattle.lang_meaning.specs.Lookup.{text}
use Rattle.back_laying.proofs.Distinct.{Firsts}
use Rattle.back_laying.proofs.naming.first_names.Given as goal

abbrev pub invariant-loop-at : goal.invariant-loop-at
invariant-loop-at l = Firsts (text l.names) l.used l.firsts l.at
