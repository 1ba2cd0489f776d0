-- A level and words of the stack are needed.
use Rattle.std.proofs.Common.{arith}
use Rattle.lang_dispatch.specs.Chains.{seen}
use Rattle.eval_state.proofs.Stepping.{on_ok}
use Rattle.eval_application.proofs.Entries.{has_stack, no_stack}
use Rattle.eval_application.proofs.Calling.{no_chain_level, chain_begun, chain_filled}
use Rattle.eval_application.proofs.generics.begin_chain.Goals as goal

pub returns-in_default : goal.returns-in_default
returns-in_default c =
    no_chain_level c.args.machine.now c.end_levels.new.machine (seen c.args.chain.now) c.args.count c.args.level c.args.around (omega (arith, c.in_default.ensures)) c.end_levels.ensures

pub returns-then-branch : goal.returns-then-branch
returns-then-branch c =
    on_ok c.run_chain.result _ _
    (chain_begun c.args.machine.now c.take_stack.new.machine c.drop_operands.new.self c.run_chain.new.machine (seen c.args.chain.now) c.in_ok-arguments.arguments.value c.args.count c.args.level c.in-Some.below c.args.around
    (omega (arith, c.in-Some.ensures)) c.requires c.in_ok-arguments.ensures (has_stack _ _ _ _ _ c.in_ok-take_stack.ensures c.if-branch.true) c.drop_operands.ensures)
    c.run_chain.ensures

pub returns-else-branch : goal.returns-else-branch
returns-else-branch c =
    chain_filled c.args.machine.now c.take_stack.new.machine c.drop_operands-else-branch.new.self (seen c.args.chain.now) c.args.count c.args.level c.in-Some.below c.args.around
    (omega (arith, c.in-Some.ensures)) c.requires (no_stack _ _ _ _ _ c.in_ok-take_stack.ensures c.if-branch.false) c.drop_operands-else-branch.ensures
