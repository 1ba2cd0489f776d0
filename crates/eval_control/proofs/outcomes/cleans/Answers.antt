-- The cleanup runs, and what was there before is kept.
use Rattle.std.proofs.Common.{◌∷◌, ap, sym, ◌∙◌}
use Rattle.std.proofs.lemmas.Result.{on_ok_weaker}
use Rattle.eval_machine.specs.Configuration.{configuration, evaluate, awaits, kept}
use Rattle.eval_machine.specs.Step.{cleanup_step}
use Rattle.eval_state.specs.declared.frame.Outcome.TheVariants as outcome
use Rattle.eval_state.specs.Frames.{outcome_of}
use Rattle.eval_state.specs.View.{at, frames, state}
use Rattle.eval_state.proofs.Going.{followed}
use Rattle.eval_control.proofs.Passed.{without_inner, cleans_other}
use Rattle.eval_control.proofs.outcomes.cleans.Goals as goal

pub returns-in-Value : goal.returns-in-Value
returns-in-Value c =
    let m = c.args.machine.now in
    on_ok_weaker c.wait.result
    (λ x. followed _ _ _ _ x (λ names s b.
    ap (λ o. configuration (evaluate c.args.cleanup.now (at names m c.args.situation)) (awaits (kept (outcome_of names o)) ∷ frames names m 0) (state names m b)) c.in-Value.is
    ∙ ap (λ o. cleanup_step s c.args.cleanup.now (at names m c.args.situation) (outcome_of names o) (frames names m 0) (state names m b)) (sym c.in-Value.is)))
    c.wait.ensures

pub returns-in-Exit : goal.returns-in-Exit
returns-in-Exit c =
    let m = c.args.machine.now in
    on_ok_weaker c.wait-in-Exit.result
    (λ x. followed _ _ _ _ x (λ names s b.
    ap (λ i. configuration (evaluate c.args.cleanup.now (at names m i)) (awaits (kept (outcome_of names (outcome.Exit c.in-Exit.exit c.in-Exit.field-1 c.in-Exit.field-2))) ∷ frames names m 0) (state names m b)) c.with_exits.ensures
    ∙ ap (λ p. configuration (evaluate c.args.cleanup.now p) (awaits (kept (outcome_of names (outcome.Exit c.in-Exit.exit c.in-Exit.field-1 c.in-Exit.field-2))) ∷ frames names m 0) (state names m b)) (without_inner names m c.in-Exit.exit c.exits_from-exits.result c.args.situation (c.exits_from-exits.ensures names))
    ∙ ap (λ o. cleanup_step s c.args.cleanup.now (at names m c.args.situation) (outcome_of names o) (frames names m 0) (state names m b)) (sym c.in-Exit.is)))
    c.wait-in-Exit.ensures

pub returns-in-Full : goal.returns-in-Full
returns-in-Full c =
    let m = c.args.machine.now in
    followed _ _ _ _ c.come_to.ensures (λ names s b. cleans_other names s c.args.cleanup.now (at names m c.args.situation) c.args.outcome (frames names m 0) (state names m b) c.in-Full.is)
