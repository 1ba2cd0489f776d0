-- The class of each value.
use Rattle.std.proofs.Common.{◌≡◌, ◌+◌, ◌-◌, ℕ, take, sym, subst, arith}
use Rattle.eval_state.specs.Frames.{last_of}
use Rattle.eval_application.specs.Generics.{AreClassesOf}
use Rattle.eval_application.proofs.Dispatching.{class_there}
use Rattle.eval_state.proofs.NewSlots.{from_last}
use Rattle.eval_application.proofs.generics.classes_of.Goals as goal

pub loop-at-preserved : goal.loop-at-preserved
loop-at-preserved c =
    subst (AreClassesOf c.args.machine.now (take (c.loop-at.at + 1) (last_of c.args.count c.args.machine.now.operands.items))) (sym c.in_ok-push.ensures.ok)
    (class_there c.args.machine.now (last_of c.args.count c.args.machine.now.operands.items) c.loop-at.at c.operand_at-word.result c.class_of.result c.loop-at.classes
    (from_last c.args.machine.now.operands.items c.args.count c.loop-at.at (c.len.result - c.args.count + c.loop-at.at) c.operand_at-word.result c.requires.held (omega arith) c.operand_at-word.ensures)
    c.class_of.ensures c.loop-at.invariant)

pub returns : goal.returns
returns c =
    let e : c.loop-at.at ≡ c.args.required = omega arith in
    subst (λ (n : ℕ). AreClassesOf c.args.machine.now (take n (last_of c.args.count c.args.machine.now.operands.items)) c.loop-at.classes) e c.loop-at.invariant
