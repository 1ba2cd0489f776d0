-- The variables are made one by one.
use Rattle.std.proofs.Common.{◌+◌, ◌-◌, length, sym, ap, ◌∙◌, arith, length-drop}
use Rattle.std.specs.Prelude.{slice_get}
use Rattle.flat_language.specs.FlatMeaning.{binding_homes}
use Rattle.flat_language.specs.model.View.{bindings_of}
use Rattle.eval_state.specs.declared.machine.Machine.{Machine}
use Rattle.eval_state.specs.Frames.{last_of}
use Rattle.eval_state.proofs.NewSlots.{none_made, one_made, from_last, all_made, no_home_left}
use Rattle.eval_state.proofs.machine.Machine.add_bindings.Goals as goal

pub loop-at-init : goal.loop-at-init
loop-at-init c = none_made c.args.self.now (binding_homes (bindings_of c.args.list.now)) (last_of c.args.count c.args.self.now.operands.items)

pub loop-at-preserved : goal.loop-at-preserved
loop-at-preserved c =
    one_made c.args.self.now c.loop-at.self c.add_variable.new.self (binding_homes (bindings_of c.args.list.now))
    (last_of c.args.count c.args.self.now.operands.items) c.loop-at.at c.in-Some.home c.operand_at-word.result
    (sym c.binding_home.ensures ∙ c.in-Some.is)
    (from_last c.args.self.now.operands.items c.args.count c.loop-at.at (c.len.result - c.args.count + c.loop-at.at) c.operand_at-word.result c.requires
    (omega arith)
    (sym (ap (λ (m : Machine). slice_get m.operands.items (c.len.result - c.args.count + c.loop-at.at)) c.loop-at.invariant.same) ∙ c.operand_at-word.ensures))
    c.loop-at.invariant c.in_ok-add_variable.ensures

pub returns-in_default : goal.returns-in_default
returns-in_default c =
    no_home_left c.args.self.now c.loop-at.self (binding_homes (bindings_of c.args.list.now))
    (last_of c.args.count c.args.self.now.operands.items) c.loop-at.at (sym c.binding_home.ensures ∙ c.in_default.is) c.loop-at.invariant

pub returns : goal.returns
returns c =
    all_made c.args.self.now c.loop-at.self (binding_homes (bindings_of c.args.list.now)) (last_of c.args.count c.args.self.now.operands.items) c.loop-at.at
    (omega (arith, length-drop (length c.args.self.now.operands.items - c.args.count) c.args.self.now.operands.items)) c.loop-at.invariant
