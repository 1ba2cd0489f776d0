-- Each place does what its kind does.
use Rattle.std.proofs.Common.{refl}
use Rattle.lang_meaning.specs.State.{value}
use Rattle.std.proofs.lemmas.Result.{on_ok_weaker}
use Rattle.eval_store.specs.Words.{value_of_word, values_of, rest_of}
use Rattle.eval_state.specs.View.{frames, state, dynamic_context}
use Rattle.eval_state.proofs.Going.{followed}
use Rattle.eval_step.proofs.MethodsLeft.{before_is}
use Rattle.eval_step.proofs.Alone.{left_alone}
use Rattle.eval_step.proofs.Lifting.{lifted_ok}
use Rattle.eval_step.proofs.Running.{runs_framed}
use Rattle.eval_step.proofs.evaluator.Evaluator.value.Goals as goal

pub value_at_frame-requires : goal.value_at_frame-requires
value_at_frame-requires c = record {
  waits = c.requires;
  alone = left_alone c.args.frame c.in_default.not-SetGlobal c.in_default.not-DefGlobal c.in_default.not-Argument c.in_default.not-AppliedList c.in_default.not-SetDynamic c.in_default.not-DefDynamic c.in_default.not-HandlerValue c.in_default.not-SignalMark c.in_default.not-Methods c.in_default.not-BeforeMethods c.in_default.not-PrimaryMethod;
}

pub returns-in-SetGlobal : goal.returns-in-SetGlobal
returns-in-SetGlobal c =
    runs_framed c.set_named.result c.args.self.now c.set_named.new.self (λ names. value (value_of_word names c.args.word)) c.args.frame _ c.in-SetGlobal.is
    c.set_named.ensures

pub returns-in-DefGlobal : goal.returns-in-DefGlobal
returns-in-DefGlobal c =
    runs_framed c.define_named.result c.args.self.now c.define_named.new.self (λ names. value (value_of_word names c.args.word)) c.args.frame _ c.in-DefGlobal.is
    c.define_named.ensures

pub returns-in-Argument : goal.returns-in-Argument
returns-in-Argument c =
    runs_framed c.argument_value.result c.args.self.now c.argument_value.new.self (λ names. value (value_of_word names c.args.word)) c.args.frame _ c.in-Argument.is
    c.argument_value.ensures

pub returns-in-AppliedList : goal.returns-in-AppliedList
returns-in-AppliedList c =
    runs_framed c.apply_list.result c.args.self.now (record c.args.self.now { machine = c.apply_list.new.machine }) (λ names. value (value_of_word names c.args.word)) c.args.frame _ c.in-AppliedList.is
    (lifted_ok c.apply_list.result c.args.self.now (record c.args.self.now { machine = c.apply_list.new.machine }) _ refl c.apply_list.ensures)

pub returns-in-SetDynamic : goal.returns-in-SetDynamic
returns-in-SetDynamic c =
    runs_framed c.set_dynamic.result c.args.self.now c.set_dynamic.new.self (λ names. value (value_of_word names c.args.word)) c.args.frame _ c.in-SetDynamic.is
    c.set_dynamic.ensures

pub returns-in-DefDynamic : goal.returns-in-DefDynamic
returns-in-DefDynamic c =
    runs_framed c.define_named-in-DefDynamic.result c.args.self.now c.define_named-in-DefDynamic.new.self (λ names. value (value_of_word names c.args.word)) c.args.frame _ c.in-DefDynamic.is
    c.define_named-in-DefDynamic.ensures

pub returns-in-HandlerValue : goal.returns-in-HandlerValue
returns-in-HandlerValue c =
    runs_framed c.with_handler.result c.args.self.now (record c.args.self.now { machine = c.with_handler.new.machine }) (λ names. value (value_of_word names c.args.word)) c.args.frame _ c.in-HandlerValue.is
    (lifted_ok c.with_handler.result c.args.self.now (record c.args.self.now { machine = c.with_handler.new.machine }) _ refl c.with_handler.ensures)

pub returns-in-SignalMark : goal.returns-in-SignalMark
returns-in-SignalMark c =
    runs_framed c.signal_condition.result c.args.self.now (record c.args.self.now { machine = c.signal_condition.new.machine }) (λ names. value (value_of_word names c.args.word)) c.args.frame _ c.in-SignalMark.is
    (lifted_ok c.signal_condition.result c.args.self.now (record c.args.self.now { machine = c.signal_condition.new.machine }) _ refl c.signal_condition.ensures)

pub returns-in-Methods : goal.returns-in-Methods
returns-in-Methods c =
    runs_framed c.apply_each.result c.args.self.now (record c.args.self.now { machine = c.apply_each.new.machine }) (λ names. value (value_of_word names c.args.word)) c.args.frame _ c.in-Methods.is
    (lifted_ok c.apply_each.result c.args.self.now (record c.args.self.now { machine = c.apply_each.new.machine }) _ refl c.apply_each.ensures)

pub returns-in-BeforeMethods : goal.returns-in-BeforeMethods
returns-in-BeforeMethods c =
    runs_framed c.after_before.result c.args.self.now (record c.args.self.now { machine = c.after_before.new.machine }) (λ names. value (value_of_word names c.args.word)) c.args.frame _ c.in-BeforeMethods.is
    (lifted_ok c.after_before.result c.args.self.now (record c.args.self.now { machine = c.after_before.new.machine }) _ refl
    (on_ok_weaker c.after_before.result (λ x. followed _ _ _ _ x (λ names s b.
    before_is s (rest_of c.in-BeforeMethods.rest) (rest_of c.in-BeforeMethods.rest).primary (values_of names c.in-BeforeMethods.arguments.value) (value_of_word names c.args.word) c.in-BeforeMethods.level (dynamic_context names c.args.self.now.machine c.in-BeforeMethods.around)
    (frames names c.args.self.now.machine 0) (state names c.args.self.now.machine b))) c.after_before.ensures))

pub returns-in-PrimaryMethod : goal.returns-in-PrimaryMethod
returns-in-PrimaryMethod c =
    runs_framed c.after_primary.result c.args.self.now (record c.args.self.now { machine = c.after_primary.new.machine }) (λ names. value (value_of_word names c.args.word)) c.args.frame _ c.in-PrimaryMethod.is
    (lifted_ok c.after_primary.result c.args.self.now (record c.args.self.now { machine = c.after_primary.new.machine }) _ refl c.after_primary.ensures)

pub returns-in_default : goal.returns-in_default
returns-in_default c = lifted_ok c.value_at_frame.result c.args.self.now (record c.args.self.now { machine = c.value_at_frame.new.machine }) _ refl c.value_at_frame.ensures
