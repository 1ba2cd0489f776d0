-- Each place does what its kind does.
use Rattle.lang_meaning.specs.State.{value}
use Rattle.flat_language.specs.FlatForm.{while_form}
use Rattle.eval_machine.specs.Configuration.{configuration, evaluate, descend}
use Rattle.eval_machine.specs.Applications.{throw_to, continue_with}
use Rattle.eval_store.specs.Words.{value_of_word}
use Rattle.eval_state.specs.View.{at, frames, state}
use Rattle.eval_control.proofs.Framed.{framed, framed_ok, situated, situated_ok}
use Rattle.eval_control.proofs.Others.{no_other_waits}
use Rattle.eval_control.proofs.values.value_at_frame.Goals as goal

pub unreachable-requires : goal.unreachable-requires
unreachable-requires c =
    no_other_waits c.args.frame c.requires.waits c.requires.alone c.in_default.not-SetLocal c.in_default.not-Sequence c.in_default.not-Clause c.in_default.not-Binding c.in_default.not-DynamicValue c.in_default.not-AppliedFunction c.in_default.not-WhileTest c.in_default.not-WhileBody c.in_default.not-ReturnValue c.in_default.not-LastSegment c.in_default.not-CatchTag c.in_default.not-ThrowTag c.in_default.not-ThrowValue c.in_default.not-SignalCondition c.in_default.not-ContinueCondition c.in_default.not-ContinueValue c.in_default.not-Kept c.in_default.not-HandlerReturn c.in_default.not-MainForm c.in_default.not-MainForms

pub returns-in-SetLocal : goal.returns-in-SetLocal
returns-in-SetLocal c =
    framed_ok c.set_local.result c.args.machine.now c.set_local.new.machine (λ names. value (value_of_word names c.args.word)) c.args.frame _ c.in-SetLocal.is
    c.set_local.ensures

pub returns-in-Sequence : goal.returns-in-Sequence
returns-in-Sequence c =
    framed_ok c.sequence.result c.args.machine.now c.sequence.new.machine (λ names. value (value_of_word names c.args.word)) c.args.frame _ c.in-Sequence.is
    c.sequence.ensures

pub returns-in-Clause : goal.returns-in-Clause
returns-in-Clause c =
    framed_ok c.clause_value.result c.args.machine.now c.clause_value.new.machine (λ names. value (value_of_word names c.args.word)) c.args.frame _ c.in-Clause.is
    c.clause_value.ensures

pub returns-in-Binding : goal.returns-in-Binding
returns-in-Binding c =
    framed_ok c.binding_value.result c.args.machine.now c.binding_value.new.machine (λ names. value (value_of_word names c.args.word)) c.args.frame _ c.in-Binding.is
    c.binding_value.ensures

pub returns-in-DynamicValue : goal.returns-in-DynamicValue
returns-in-DynamicValue c =
    framed_ok c.dynamic_value.result c.args.machine.now c.dynamic_value.new.machine (λ names. value (value_of_word names c.args.word)) c.args.frame _ c.in-DynamicValue.is
    c.dynamic_value.ensures

pub returns-in-AppliedFunction : goal.returns-in-AppliedFunction
returns-in-AppliedFunction c =
    framed_ok c.wait.result c.args.machine.now c.wait.new.self (λ names. value (value_of_word names c.args.word)) c.args.frame _ c.in-AppliedFunction.is
    c.wait.ensures

pub returns-in-WhileTest : goal.returns-in-WhileTest
returns-in-WhileTest c =
    framed_ok c.loop_value.result c.args.machine.now c.loop_value.new.machine (λ names. value (value_of_word names c.args.word)) c.args.frame _ c.in-WhileTest.is
    c.loop_value.ensures

pub returns-in-WhileBody : goal.returns-in-WhileBody
returns-in-WhileBody c =
    framed c.args.machine.now c.goes_on.new.machine (λ names. value (value_of_word names c.args.word)) c.args.frame _ c.in-WhileBody.is
    (situated c.args.machine.now c.goes_on.new.machine c.in-WhileBody.situation (λ names s b k around. descend k (λ j. configuration (evaluate (while_form c.in-WhileBody.test.now c.in-WhileBody.body.now) (record (at names c.args.machine.now c.in-WhileBody.situation) { level = j }))) (frames names c.args.machine.now 0) (state names c.args.machine.now b)) c.goes_on.ensures)

pub returns-in-ReturnValue : goal.returns-in-ReturnValue
returns-in-ReturnValue c =
    framed_ok c.return_from.result c.args.machine.now c.return_from.new.machine (λ names. value (value_of_word names c.args.word)) c.args.frame _ c.in-ReturnValue.is
    c.return_from.ensures

pub returns-in-LastSegment : goal.returns-in-LastSegment
returns-in-LastSegment c =
    framed c.args.machine.now c.gives.new.self (λ names. value (value_of_word names c.args.word)) c.args.frame _ c.in-LastSegment.is
    c.gives.ensures

pub returns-in-CatchTag : goal.returns-in-CatchTag
returns-in-CatchTag c =
    framed_ok c.catch.result c.args.machine.now c.catch.new.machine (λ names. value (value_of_word names c.args.word)) c.args.frame _ c.in-CatchTag.is
    c.catch.ensures

pub returns-in-ThrowTag : goal.returns-in-ThrowTag
returns-in-ThrowTag c =
    framed_ok c.wait-in-ThrowTag.result c.args.machine.now c.wait-in-ThrowTag.new.self (λ names. value (value_of_word names c.args.word)) c.args.frame _ c.in-ThrowTag.is
    c.wait-in-ThrowTag.ensures

pub returns-in-ThrowValue : goal.returns-in-ThrowValue
returns-in-ThrowValue c =
    framed_ok c.throw_to.result c.args.machine.now c.throw_to.new.machine (λ names. value (value_of_word names c.args.word)) c.args.frame _ c.in-ThrowValue.is
    (situated_ok c.throw_to.result c.args.machine.now c.throw_to.new.machine c.in-ThrowValue.situation (λ names s b k around. throw_to s (value_of_word names c.in-ThrowValue.tag) (value_of_word names c.args.word) k around (frames names c.args.machine.now 0) (state names c.args.machine.now b)) c.throw_to.ensures)

pub returns-in-SignalCondition : goal.returns-in-SignalCondition
returns-in-SignalCondition c =
    framed_ok c.wait-in-SignalCondition.result c.args.machine.now c.wait-in-SignalCondition.new.self (λ names. value (value_of_word names c.args.word)) c.args.frame _ c.in-SignalCondition.is
    c.wait-in-SignalCondition.ensures

pub returns-in-ContinueCondition : goal.returns-in-ContinueCondition
returns-in-ContinueCondition c =
    framed_ok c.wait-in-ContinueCondition.result c.args.machine.now c.wait-in-ContinueCondition.new.self (λ names. value (value_of_word names c.args.word)) c.args.frame _ c.in-ContinueCondition.is
    c.wait-in-ContinueCondition.ensures

pub returns-in-ContinueValue : goal.returns-in-ContinueValue
returns-in-ContinueValue c =
    framed_ok c.continue_with.result c.args.machine.now c.continue_with.new.machine (λ names. value (value_of_word names c.args.word)) c.args.frame _ c.in-ContinueValue.is
    (situated_ok c.continue_with.result c.args.machine.now c.continue_with.new.machine c.in-ContinueValue.situation (λ names s b k around. continue_with s (value_of_word names c.in-ContinueValue.condition) (value_of_word names c.args.word) k around (frames names c.args.machine.now 0) (state names c.args.machine.now b)) c.continue_with.ensures)

pub returns-in-Kept : goal.returns-in-Kept
returns-in-Kept c =
    framed c.args.machine.now c.come_to.new.self (λ names. value (value_of_word names c.args.word)) c.args.frame _ c.in-Kept.is
    c.come_to.ensures

pub returns-in-HandlerReturn : goal.returns-in-HandlerReturn
returns-in-HandlerReturn c =
    framed_ok c.signal_class.result c.args.machine.now c.signal_class.new.self (λ names. value (value_of_word names c.args.word)) c.args.frame _ c.in-HandlerReturn.is
    c.signal_class.ensures

pub returns-in-MainForm : goal.returns-in-MainForm
returns-in-MainForm c =
    framed c.args.machine.now c.main_value.new.machine (λ names. value (value_of_word names c.args.word)) c.args.frame _ c.in-MainForm.is
    c.main_value.ensures

pub returns-in-MainForms : goal.returns-in-MainForms
returns-in-MainForms c =
    framed_ok c.main_forms.result c.args.machine.now c.main_forms.new.machine (λ names. value (value_of_word names c.args.word)) c.args.frame _ c.in-MainForms.is
    c.main_forms.ensures
