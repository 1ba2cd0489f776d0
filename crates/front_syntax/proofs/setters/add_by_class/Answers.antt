-- The slots stand behind the name and the superclasses.
use Rattle.std.proofs.Common.{Some}
use Rattle.front_syntax.proofs.AskedNames.{slots_behind_good}
use Rattle.front_syntax.proofs.setters.add_by_class.Goals as goal

pub add_by_slots-requires : goal.add_by_slots-requires
add_by_slots-requires c = slots_behind_good _ c.args.items.now (Some c.in-Some.slots.now) c.requires c.in-Some.ensures
