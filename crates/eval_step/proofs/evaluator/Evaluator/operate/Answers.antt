-- Each operation does what its kind does.
use Rattle.std.proofs.Common.{ap, refl, ◌∙◌}
use Rattle.eval_step.proofs.Lifting.{lifted_ok}
use Rattle.eval_step.proofs.Begun.{operation_is}
use Rattle.eval_step.specs.Streams.{operation_reads}
use Rattle.eval_state.specs.Frames.{last_of}
use Rattle.eval_step.proofs.evaluator.Evaluator.operate.Goals as goal

pub returns-in-CallName : goal.returns-in-CallName
returns-in-CallName c =
    operation_is c.call_named.result c.args.self.now (record c.args.self.now { machine = c.call_named.new.machine }) c.args.count c.args.situation c.args.operation _ c.in-CallName.is
    (lifted_ok c.call_named.result c.args.self.now (record c.args.self.now { machine = c.call_named.new.machine }) _ refl c.call_named.ensures)

pub returns-in-CallFirst : goal.returns-in-CallFirst
returns-in-CallFirst c =
    operation_is c.call_first.result c.args.self.now (record c.args.self.now { machine = c.call_first.new.machine }) c.args.count c.args.situation c.args.operation _ c.in-CallFirst.is
    (lifted_ok c.call_first.result c.args.self.now (record c.args.self.now { machine = c.call_first.new.machine }) _ refl c.call_first.ensures)

pub returns-in-Compute : goal.returns-in-Compute
returns-in-Compute c = operation_is c.compute.result c.args.self.now c.compute.new.self c.args.count c.args.situation c.args.operation _ c.in-Compute.is c.compute.ensures

pub compute-requires : goal.compute-requires
compute-requires c = λ r. c.requires (ap (λ o. operation_reads o (last_of c.args.count c.args.self.now.machine.operands.items)) c.in-Compute.is ∙ r)
