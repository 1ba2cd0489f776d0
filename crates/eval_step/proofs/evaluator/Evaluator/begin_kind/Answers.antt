-- What wants more than the machine, and what wants the machine alone.
use Rattle.std.proofs.Common.{ap, refl}
use Rattle.flat_language.specs.model.View.{view_form, forms}
use Rattle.eval_machine.specs.Configuration.{call_name, call_first, compute}
use Rattle.eval_step.proofs.Begun.{runs_begun, arguments_begun}
use Rattle.eval_step.proofs.Lifting.{lifted_ok}
use Rattle.eval_step.proofs.Fed.{prim_fed}
use Rattle.eval_step.proofs.evaluator.Evaluator.begin_kind.Goals as goal

pub returns-in-Global : goal.returns-in-Global
returns-in-Global c = runs_begun c.named.result _ _ c.args.situation _ _ (ap view_form c.in-Global.is) c.named.ensures

pub returns-in-Dynamic : goal.returns-in-Dynamic
returns-in-Dynamic c = runs_begun c.dynamic.result _ _ c.args.situation _ _ (ap view_form c.in-Dynamic.is) c.dynamic.ensures

pub returns-in-Call : goal.returns-in-Call
returns-in-Call c = runs_begun c.arguments.result _ _ c.args.situation _ _ (ap view_form c.in-Call.is) (arguments_begun c.arguments.result _ _ c.args.situation (call_name c.in-Call.name.0) (forms c.in-Call.list) c.arguments.ensures)

pub returns-in-CallValue : goal.returns-in-CallValue
returns-in-CallValue c = runs_begun c.arguments-in-CallValue.result _ _ c.args.situation _ _ (ap view_form c.in-CallValue.is) (arguments_begun c.arguments-in-CallValue.result _ _ c.args.situation call_first (forms c.in-CallValue.list) c.arguments-in-CallValue.ensures)

pub returns-in-Prim : goal.returns-in-Prim
returns-in-Prim c = runs_begun c.arguments-in-Prim.result _ _ c.args.situation _ _ (ap view_form c.in-Prim.is) (arguments_begun c.arguments-in-Prim.result _ _ c.args.situation (compute c.in-Prim.which) (forms c.in-Prim.list) c.arguments-in-Prim.ensures)

pub returns-in-NextMethod : goal.returns-in-NextMethod
returns-in-NextMethod c = runs_begun c.next_method_at.result _ _ c.args.situation _ _ (ap view_form c.in-NextMethod.is)
    (lifted_ok c.next_method_at.result c.args.self.now (record c.args.self.now { machine = c.next_method_at.new.machine }) _ refl c.next_method_at.ensures)

pub returns-in-Literal : goal.returns-in-Literal
returns-in-Literal c = lifted_ok c.begin_kind.result c.args.self.now (record c.args.self.now { machine = c.begin_kind.new.machine }) _ refl c.begin_kind.ensures

pub arguments-requires-in-Prim : goal.arguments-requires-in-Prim
arguments-requires-in-Prim c = prim_fed c.args.self.now (view_form c.args.form.now) c.in-Prim.which (forms c.in-Prim.list) c.args.self.now.machine.operands.items (ap view_form c.in-Prim.is) c.requires
