-- The clause has a body, or not.
use Rattle.std.proofs.Common.{ap, sym, ◌∙◌, option_copied}
use Rattle.flat_language.specs.model.View.{maybe_form}
use Rattle.eval_machine.specs.Step.{clause_body_step}
use Rattle.eval_store.specs.Words.{value_of_word}
use Rattle.eval_state.specs.View.{at, frames, state}
use Rattle.eval_state.proofs.Going.{followed}
use Rattle.eval_control.specs.Valued.{clause_body_of}
use Rattle.eval_control.proofs.values.clause_body.Goals as goal

pub returns-in_default : goal.returns-in_default
returns-in_default c =
    let m = c.args.machine.now in
    followed _ _ _ _ c.gives.ensures (λ names s b.
    ap (λ o. clause_body_of s (value_of_word names c.args.word) (option_copied o) (at names m c.args.situation) (frames names m 0) (state names m b)) (sym c.in_default.is))

pub returns-in-Some-body : goal.returns-in-Some-body
returns-in-Some-body c =
    let m = c.args.machine.now in
    followed _ _ _ _ c.evaluate.ensures (λ names s b.
    ap (λ o. clause_body_step s (value_of_word names c.args.word) (maybe_form o) (at names m c.args.situation) (frames names m 0) (state names m b)) (sym c.in-Some-body.is)
    ∙ ap (λ o. clause_body_of s (value_of_word names c.args.word) (option_copied o) (at names m c.args.situation) (frames names m 0) (state names m b)) (sym c.in-Some.is))

pub returns-in-None : goal.returns-in-None
returns-in-None c =
    let m = c.args.machine.now in
    followed _ _ _ _ c.gives-in-None.ensures (λ names s b.
    ap (λ o. clause_body_step s (value_of_word names c.args.word) (maybe_form o) (at names m c.args.situation) (frames names m 0) (state names m b)) (sym c.in-None.is)
    ∙ ap (λ o. clause_body_of s (value_of_word names c.args.word) (option_copied o) (at names m c.args.situation) (frames names m 0) (state names m b)) (sym c.in-Some.is))
