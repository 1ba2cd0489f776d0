-- One value after another.
use Rattle.std.proofs.Common.{◌+◌, ◌-◌, length, refl, sym, ap, ◌∙◌, arith, length-drop}
use Rattle.std.specs.Prelude.{slice_get}
use Rattle.eval_state.specs.declared.machine.Machine.{Machine}
use Rattle.eval_state.specs.Frames.{last_of}
use Rattle.eval_state.proofs.NewSlots.{from_last}
use Rattle.eval_control.proofs.DynamicEntered.{adding_begins, adding_goes, adding_ends}
use Rattle.eval_control.proofs.dynamic_bodies.add_values.Goals as goal

pub loop-at-init : goal.loop-at-init
loop-at-init c = adding_begins c.args.machine.now (last_of c.args.count c.args.machine.now.operands.items)

pub loop-at-preserved : goal.loop-at-preserved
loop-at-preserved c =
    adding_goes c.args.machine.now c.loop-at.machine _ (last_of c.args.count c.args.machine.now.operands.items) c.loop-at.at c.operand_at-word.result
    (from_last c.args.machine.now.operands.items c.args.count c.loop-at.at (c.len.result - c.args.count + c.loop-at.at) c.operand_at-word.result c.requires
    (omega arith)
    (sym (ap (λ (m : Machine). slice_get m.operands.items (c.len.result - c.args.count + c.loop-at.at)) c.loop-at.invariant.same) ∙ c.operand_at-word.ensures))
    c.loop-at.invariant refl c.in_ok-add_variable.ensures.ok

pub returns : goal.returns
returns c =
    adding_ends c.args.machine.now c.loop-at.machine (last_of c.args.count c.args.machine.now.operands.items) c.loop-at.at
    (omega (arith, length-drop (length c.args.machine.now.operands.items - c.args.count) c.args.machine.now.operands.items)) c.loop-at.invariant
