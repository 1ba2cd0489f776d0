-- The value is an operand more.
use Rattle.std.proofs.Common.{ap}
use Rattle.std.proofs.lemmas.Result.{on_ok_weaker}
use Rattle.eval_machine.specs.Step.{arguments_step}
use Rattle.eval_state.specs.Frames.{forms_from, operation_of}
use Rattle.eval_state.specs.declared.machine.Machine.{Machine}
use Rattle.eval_step.proofs.Running.{runs_from, operand_seen}
use Rattle.eval_step.proofs.Fed.{argument_given}
use Rattle.eval_step.proofs.evaluator.Evaluator.argument_value.Goals as goal

pub returns : goal.returns
returns c =
    let e = c.args.self.now in
    on_ok_weaker c.arguments.result
    (λ x. runs_from e c.push_operand.new.self c.arguments.new.self _ _ (ap (λ (m : Machine). m.given) c.in_ok-push_operand.ensures.same) x
    (λ names s b. operand_seen e.machine c.push_operand.new.self c.args.count c.in_ok-next.next c.args.word c.args.situation
    (λ k vs p fs z. arguments_step s (operation_of c.args.operation) (forms_from c.args.list.now k) vs p fs z) c.in_ok-next.ensures c.in_ok-push_operand.ensures names b))
    c.arguments.ensures

pub arguments-requires : goal.arguments-requires
arguments-requires c = λ r. absurd (argument_given c.args.operation c.args.self.now.machine.operands.items c.push_operand.new.self.operands.items c.args.word c.args.count c.in_ok-next.next c.in_ok-push_operand.ensures.operands c.in_ok-next.ensures r)
