-- What the machine is about to do is done.
use Rattle.std.proofs.Common.{refl, ap, ◌∙◌}
use Rattle.eval_machine.specs.Applications.{signal_under}
use Rattle.eval_machine.specs.Step.{form_step}
use Rattle.flat_language.specs.FlatForm.{while_form}
use Rattle.eval_store.specs.Words.{value_of_word}
use Rattle.eval_state.specs.View.{at, frames, state, dynamic_context}
use Rattle.eval_step.proofs.Lifting.{lifted}
use Rattle.eval_step.proofs.Stepping.{stepped}
use Rattle.eval_step.specs.Streams.{control_reads}
use Rattle.eval_step.proofs.evaluator.Evaluator.step.Goals as goal

pub returns-in_ok-begin-in-Evaluate : goal.returns-in_ok-begin-in-Evaluate
returns-in_ok-begin-in-Evaluate c =
    let e = c.args.self.now in
    stepped e c.begin.new.self _ (λ names s b. form_step s c.in-Evaluate.form.now (at names e.machine c.in-Evaluate.situation) (frames names e.machine 0) (state names e.machine b))
    c.in-Evaluate.is (λ names s b. refl) c.in_ok-begin-in-Evaluate.ensures

pub returns-in_ok-again-in-Again : goal.returns-in_ok-again-in-Again
returns-in_ok-again-in-Again c =
    let e = c.args.self.now in
    stepped e c.again.new.self _ (λ names s b. form_step s (while_form c.in-Again.test.now c.in-Again.body.now) (at names e.machine c.in-Again.situation) (frames names e.machine 0) (state names e.machine b))
    c.in-Again.is (λ names s b. refl) c.in_ok-again-in-Again.ensures

pub returns-in_ok-signal_under-in-Signals : goal.returns-in_ok-signal_under-in-Signals
returns-in_ok-signal_under-in-Signals c =
    let e = c.args.self.now in
    stepped e (record e { machine = c.signal_under.new.machine }) _
    (λ names s b. signal_under s (dynamic_context names e.machine c.in-Signals.around).handlers (value_of_word names c.in-Signals.condition) (value_of_word names c.in-Signals.mark) c.in-Signals.level (dynamic_context names e.machine c.in-Signals.around) (frames names e.machine 0) (state names e.machine b))
    c.in-Signals.is (λ names s b. refl)
    (lifted e (record e { machine = c.signal_under.new.machine }) _ refl c.in_ok-signal_under-in-Signals.ensures)

pub begin-requires : goal.begin-requires
begin-requires c = λ r. c.requires (ap control_reads c.in-Evaluate.is ∙ r)
