-- The names of the generic functions so far are added.
use Rattle.std.proofs.Common.{take, map}
use Rattle.lang_meaning.specs.declared.program.GenericRow.{GenericRow}
use Rattle.back_words.specs.Uses.{as_symbol}
use Rattle.back_uses.specs.Used.{AreAdded}
use Rattle.back_uses.proofs.program.add_generics.Given as goal

abbrev pub invariant-loop-at : goal.invariant-loop-at
invariant-loop-at l = AreAdded l.initial.used (map (λ (g : GenericRow). as_symbol g.name.0) (take l.at l.generics)) l.used
