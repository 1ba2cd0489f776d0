-- The options of a slot stand behind its name.
use Rattle.std.proofs.Common.{Some, None, refl}
use Rattle.front_syntax.proofs.AskedNames.{on_ok, behind_good, slot_there}
use Rattle.front_syntax.proofs.setters.add_by_slot.Goals as goal

pub add_by_options-requires : goal.add_by_options-requires
add_by_options-requires c = behind_good _ c.args.slot.now (Some c.in-Some.options.now) c.requires c.in-Some.ensures

pub returns-in-Some-clause-given : goal.returns-in-Some-clause-given
returns-in-Some-clause-given c =
    on_ok _ _ _ (slot_there c.add_by_options.new.names c.args.slot.now (Some c.in-Some.options.now) c.in-Some.ensures) c.add_by_options.ensures.given

pub returns-in-None-clause-given : goal.returns-in-None-clause-given
returns-in-None-clause-given c = slot_there c.args.names.now c.args.slot.now None c.in-None.ensures (record { under = λ later e. refl })
