-- What the bodies so far use is added.
use Rattle.std.proofs.Common.{take}
use Rattle.std.specs.Prelude.{flat_map}
use Rattle.flat_language.specs.declared.program.FlatProcedure.{FlatProcedure}
use Rattle.back_words.specs.Uses.{uses}
use Rattle.back_uses.specs.Used.{AreAdded}
use Rattle.back_uses.proofs.program.add_bodies.Given as goal

abbrev pub invariant-loop-at : goal.invariant-loop-at
invariant-loop-at l =
    AreAdded l.initial.used (flat_map (λ (q : FlatProcedure). uses l.lookups.names.now l.lookups.program.now q.body) (take l.at l.procedures)) l.used
