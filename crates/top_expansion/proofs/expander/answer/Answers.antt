-- Each end is a reason of its own, and there is no other.
use Rattle.base.specs.declared.reason.Reason.TheVariants.{ExpanderUnhandled, ExpanderArena, ExpanderBudget}
use Rattle.top_expansion.proofs.Calls.{stops_there, is_signalled, has_no_room, goes_on, ends_otherwise, other_of}
use Rattle.std.proofs.Common.{refl}
use Rattle.top_expansion.proofs.expander.answer.Goals as goal

pub unreachable-requires : goal.unreachable-requires
unreachable-requires c =
    ends_otherwise c.args.names.now c.args.call.now c.args.built.now c.requires.call c.args.run.now c.requires.fits c.requires.run c.args.run.now.ending refl
    (other_of c.args.run.now.ending c.in-Trap.is)

pub returns-in-Unhandled-clause-stops : goal.returns-in-Unhandled-clause-stops
returns-in-Unhandled-clause-stops c =
    stops_there c.args.names.now c.args.call.now ExpanderUnhandled c.refused.result c.refused.ensures
    (is_signalled c.args.names.now c.args.call.now c.args.built.now c.requires.call c.args.run.now c.requires.fits c.requires.run c.in-Unhandled.field-0
    c.in-Unhandled.is)

pub returns-in-Full-clause-stops : goal.returns-in-Full-clause-stops
returns-in-Full-clause-stops c =
    stops_there c.args.names.now c.args.call.now ExpanderArena c.refused-in-Full.result c.refused-in-Full.ensures
    (has_no_room c.args.names.now c.args.call.now c.args.built.now c.requires.call c.args.run.now c.requires.fits c.requires.run c.in-Full.asked c.in-Full.left
    c.in-Full.is)

pub returns-in-Budget-clause-stops : goal.returns-in-Budget-clause-stops
returns-in-Budget-clause-stops c =
    stops_there c.args.names.now c.args.call.now ExpanderBudget c.refused-in-Budget.result c.refused-in-Budget.ensures
    (goes_on c.args.names.now c.args.call.now c.args.built.now c.requires.call c.args.run.now c.requires.fits c.requires.run c.in-Budget.is)
