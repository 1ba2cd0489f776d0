-- What the main forms so far use is added.
use Rattle.std.proofs.Common.{take}
use Rattle.std.specs.Prelude.{flat_map}
use Rattle.back_words.specs.Uses.{uses}
use Rattle.back_uses.specs.Used.{AreAdded}
use Rattle.back_uses.proofs.program.add_main.Given as goal

abbrev pub invariant-loop-at : goal.invariant-loop-at
invariant-loop-at l = AreAdded l.initial.used (flat_map (uses l.lookups.names.now l.lookups.program.now) (take l.at l.main)) l.used
