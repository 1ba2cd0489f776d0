-- The symbols so far.
use Rattle.std.proofs.Common.{◌≡◌, map, take}
use Rattle.mid_start.proofs.NameData.{name_item}
use Rattle.mid_start.proofs.slots.list_of_names.Given as goal

abbrev pub invariant-loop-at : goal.invariant-loop-at
invariant-loop-at l = l.items ≡ map name_item (take l.at l.list)
