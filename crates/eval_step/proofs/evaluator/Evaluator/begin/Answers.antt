-- The form is charged, and then does what it does.
use Rattle.std.proofs.Common.{ap, sym, ◌∙◌}
use Rattle.std.proofs.lemmas.Result.{on_ok_weaker}
use Rattle.flat_language.specs.FlatState.{charged}
use Rattle.flat_language.specs.model.View.{view_form}
use Rattle.eval_machine.specs.Step.{form_step}
use Rattle.eval_state.specs.declared.machine.Machine.{Machine}
use Rattle.eval_state.specs.View.{at, frames, state}
use Rattle.eval_control.specs.Begins.{begins}
use Rattle.eval_control.proofs.Beginning.{form_begins}
use Rattle.eval_step.proofs.Running.{runs_from}
use Rattle.eval_step.specs.Streams.{form_reads}
use Rattle.eval_step.proofs.evaluator.Evaluator.begin.Goals as goal

pub returns : goal.returns
returns c =
    let e = c.args.self.now in
    let m = e.machine in
    let p = c.args.situation in
    let f = view_form c.form.inside.form in
    on_ok_weaker c.begin_kind.result
    (λ x. runs_from e c.charge.new.self c.begin_kind.new.self _ _ (ap (λ (n : Machine). n.given) c.in_ok-charge.ensures.same) x
    (λ names s b.
    ap (λ (n : Machine). begins s f (at names n p) (frames names n 0) (state names c.charge.new.self b)) c.in_ok-charge.ensures.same
    ∙ ap (λ z. begins s f (at names m p) (frames names m 0) z) (c.in_ok-charge.ensures.state_is names b)
    ∙ ap (λ n. begins s f (at names m p) (frames names m 0) (charged n (state names m b))) c.in_ok-units.ensures
    ∙ form_begins s f (at names m p) (frames names m 0) (state names m b)
    ∙ ap (λ k. form_step s k (at names m p) (frames names m 0) (state names m b)) c.form.view_is))
    c.begin_kind.ensures

pub begin_kind-requires : goal.begin_kind-requires
begin_kind-requires c = λ r. c.requires (sym (ap form_reads c.form.view_is) ∙ r)
