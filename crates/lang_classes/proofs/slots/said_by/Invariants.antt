-- What the classes from this one on say.
use Rattle.std.proofs.Common.{◌≡◌, drop}
use Rattle.lang_classes.specs.InheritedSlots.{said_by}
use Rattle.lang_classes.proofs.slots.said_by.Given as goal

abbrev pub invariant-loop-at : goal.invariant-loop-at
invariant-loop-at l = l.said ≡ said_by l.own (drop l.at l.line)
