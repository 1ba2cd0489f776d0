-- The main form at the place, and those behind it.
use Rattle.std.proofs.Common.{ap, sym, ◌∙◌, drop}
use Rattle.std.proofs.lemmas.Result.{on_ok_weaker}
use Rattle.eval_machine.specs.Configuration.{main_forms}
use Rattle.eval_machine.specs.Step.{value_step}
use Rattle.eval_store.specs.Words.{value_of_word}
use Rattle.eval_state.specs.View.{frames, state}
use Rattle.eval_state.proofs.Going.{followed}
use Rattle.eval_control.specs.Mains.{main_form_step}
use Rattle.eval_control.proofs.Leftover.{there, done}
use Rattle.eval_control.proofs.main_forms.main_forms.Goals as goal

pub returns-in_ok-left-in-Some : goal.returns-in_ok-left-in-Some
returns-in_ok-left-in-Some c =
    let m = c.args.machine.now in
    on_ok_weaker c.main_form.result
    (λ x. followed _ _ _ _ x (λ names s b.
    ap (λ k. main_form_step s c.args.level (drop k c.args.list.now) c.in-Some.form.now (frames names m 0) (state names m b)) c.in_ok-left-in-Some.ensures
    ∙ ap (λ fs. value_step s (main_forms c.args.level fs) (value_of_word names c.args.last) (frames names m 0) (state names m b)) (sym (there c.args.list.now c.args.place _ c.in-Some.ensures))))
    c.main_form.ensures

pub returns-in-None : goal.returns-in-None
returns-in-None c =
    let m = c.args.machine.now in
    followed _ _ _ _ c.gives.ensures (λ names s b.
    ap (λ fs. value_step s (main_forms c.args.level fs) (value_of_word names c.args.last) (frames names m 0) (state names m b)) (sym (done c.args.list.now c.args.place c.in-None.ensures)))
