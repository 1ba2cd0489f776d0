-- A transfer to the tagbody goes on there; other outcomes go further.
use Rattle.std.proofs.Common.{ap, sym, ◌∙◌}
use Rattle.std.proofs.lemmas.Result.{on_ok_weaker}
use Rattle.flat_language.specs.model.View.{forms}
use Rattle.eval_machine.specs.Step.{turn_step}
use Rattle.eval_store.specs.Words.{value_of_word}
use Rattle.eval_state.specs.Frames.{inside_tagbody, landing_of, outcome_of}
use Rattle.eval_state.specs.View.{at, frames, state}
use Rattle.eval_state.proofs.Going.{followed}
use Rattle.eval_control.proofs.Passed.{turned, not_turned, level_in, turns_other}
use Rattle.eval_control.proofs.outcomes.turns.Goals as goal

pub returns-then-exit-number : goal.returns-then-exit-number
returns-then-exit-number c =
    let m = c.args.machine.now in
    let all = forms c.args.segments.now in
    on_ok_weaker c.turns_to.result
    (λ x. followed _ _ _ _ x (λ names s b.
    turned s c.args.number c.in-Exit.exit c.args.outside.level all (inside_tagbody c.args.number (at names m c.args.outside)) (value_of_word names c.in-Exit.field-1) (landing_of c.in-Exit.landing) (frames names m 0) (state names m b)
    (level_in names m c.args.number c.args.outside) c.if-exit-number.true
    ∙ ap (λ o. turn_step s c.args.number all (inside_tagbody c.args.number (at names m c.args.outside)) (outcome_of names o) (frames names m 0) (state names m b)) (sym c.in-Exit.is)))
    c.turns_to.ensures

pub returns-else-exit-number : goal.returns-else-exit-number
returns-else-exit-number c =
    let m = c.args.machine.now in
    let all = forms c.args.segments.now in
    followed _ _ _ _ c.come_to.ensures (λ names s b.
    not_turned s c.args.number c.in-Exit.exit all (inside_tagbody c.args.number (at names m c.args.outside)) (value_of_word names c.in-Exit.field-1) (landing_of c.in-Exit.landing) (frames names m 0) (state names m b) c.if-exit-number.false
    ∙ ap (λ o. turn_step s c.args.number all (inside_tagbody c.args.number (at names m c.args.outside)) (outcome_of names o) (frames names m 0) (state names m b)) (sym c.in-Exit.is))

pub returns-in-Value : goal.returns-in-Value
returns-in-Value c =
    let m = c.args.machine.now in
    followed _ _ _ _ c.come_to-in-Value.ensures (λ names s b. turns_other names s c.args.number (forms c.args.segments.now) (inside_tagbody c.args.number (at names m c.args.outside)) c.args.outcome (frames names m 0) (state names m b) c.in-Value.is)
