-- All slots so far are plain.
use Rattle.std.proofs.Common.{◌≡◌, drop}
use Rattle.std.specs.List.{list_all}
use Rattle.lang_meaning.specs.Facts.{is_plain_slot}
use Rattle.test_checker.proofs.classes.are_plain.Given as goal

abbrev pub invariant-loop-slot : goal.invariant-loop-slot
invariant-loop-slot l = list_all is_plain_slot (drop l.slot-index l.slots) ≡ list_all is_plain_slot l.slots
