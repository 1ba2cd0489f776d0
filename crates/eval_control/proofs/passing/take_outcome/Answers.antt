-- Each frame does what its kind does.
use Rattle.eval_state.specs.Frames.{outcome_of}
use Rattle.eval_control.proofs.Framed.{framed, framed_ok}
use Rattle.eval_control.proofs.Others.{no_other_takes}
use Rattle.eval_control.proofs.passing.take_outcome.Goals as goal

pub unreachable-requires : goal.unreachable-requires
unreachable-requires c =
    no_other_takes c.args.frame c.requires c.in_default.not-Block c.in_default.not-Catch c.in_default.not-Signal c.in_default.not-Tagbody c.in_default.not-Cleans c.in_default.not-RestoresStack c.in_default.not-RestoresSlots c.in_default.not-DropsSlots c.in_default.not-Handles c.in_default.not-Binds

pub returns-in-Block : goal.returns-in-Block
returns-in-Block c = framed c.args.machine.now c.catches.new.machine (λ names. outcome_of names c.args.outcome) c.args.frame _ c.in-Block.is c.catches.ensures

pub returns-in-Catch : goal.returns-in-Catch
returns-in-Catch c = framed c.args.machine.now c.catches-in-Catch.new.machine (λ names. outcome_of names c.args.outcome) c.args.frame _ c.in-Catch.is c.catches-in-Catch.ensures

pub returns-in-Signal : goal.returns-in-Signal
returns-in-Signal c = framed c.args.machine.now c.catches-in-Signal.new.machine (λ names. outcome_of names c.args.outcome) c.args.frame _ c.in-Signal.is c.catches-in-Signal.ensures

pub returns-in-Tagbody : goal.returns-in-Tagbody
returns-in-Tagbody c = framed_ok c.turns.result c.args.machine.now c.turns.new.machine (λ names. outcome_of names c.args.outcome) c.args.frame _ c.in-Tagbody.is c.turns.ensures

pub returns-in-Cleans : goal.returns-in-Cleans
returns-in-Cleans c = framed_ok c.cleans.result c.args.machine.now c.cleans.new.machine (λ names. outcome_of names c.args.outcome) c.args.frame _ c.in-Cleans.is c.cleans.ensures

pub returns-in-RestoresStack : goal.returns-in-RestoresStack
returns-in-RestoresStack c = framed c.args.machine.now c.restores_stack.new.machine (λ names. outcome_of names c.args.outcome) c.args.frame _ c.in-RestoresStack.is c.restores_stack.ensures

pub returns-in-RestoresSlots : goal.returns-in-RestoresSlots
returns-in-RestoresSlots c = framed c.args.machine.now c.restores_slots.new.machine (λ names. outcome_of names c.args.outcome) c.args.frame _ c.in-RestoresSlots.is c.restores_slots.ensures

pub returns-in-DropsSlots : goal.returns-in-DropsSlots
returns-in-DropsSlots c = framed c.args.machine.now c.drops_slots.new.machine (λ names. outcome_of names c.args.outcome) c.args.frame _ c.in-DropsSlots.is c.drops_slots.ensures

pub returns-in-Handles : goal.returns-in-Handles
returns-in-Handles c = framed c.args.machine.now c.come_to.new.self (λ names. outcome_of names c.args.outcome) c.args.frame _ c.in-Handles.is c.come_to.ensures

pub returns-in-Binds : goal.returns-in-Binds
returns-in-Binds c = framed c.args.machine.now c.come_to-in-Binds.new.self (λ names. outcome_of names c.args.outcome) c.args.frame _ c.in-Binds.is c.come_to-in-Binds.ensures
