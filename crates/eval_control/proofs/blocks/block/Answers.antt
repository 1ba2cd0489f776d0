-- The exit is made, and the body is evaluated inside it.
use Rattle.std.proofs.Common.{◌∷◌, ap, sym, ◌∙◌, suc, length, reverse}
use Rattle.std.proofs.lemmas.List.{length-reverse}
use Rattle.std.proofs.lemmas.Result.{on_ok_weaker}
use Rattle.flat_language.specs.FlatState.{exit_made}
use Rattle.eval_machine.specs.Configuration.{configuration, evaluate}
use Rattle.eval_state.specs.declared.frame.ContinuationFrame.TheVariants as frame
use Rattle.eval_state.specs.Frames.{situation_in}
use Rattle.eval_state.specs.Tops.{taken, below}
use Rattle.eval_state.specs.View.{frames, state}
use Rattle.eval_state.proofs.Going.{followed, after_store}
use Rattle.eval_control.proofs.Inside.{block_entered}
use Rattle.eval_control.proofs.blocks.block.Goals as goal

pub returns : goal.returns
returns c =
    let m = c.args.machine.now in
    let w = frame.Block c.in_ok-number.number c.args.situation.around.exits c.args.situation.own in
    on_ok_weaker c.enter.result
    (λ x. followed _ _ _ _
    (after_store m c.new_exit.new.self c.enter.new.self
    (λ n names s z. configuration (evaluate c.args.body.now (situation_in names n.current (w ∷ reverse n.frames.items) c.inside.result)) (taken names n w ∷ below names n w) z)
    (λ names z. exit_made z) c.in_ok-number.ensures.same c.in_ok-number.ensures.state_is x)
    (λ names s b. block_entered s names m.current (reverse m.frames.items) c.args.situation c.inside.result c.in_ok-number.number c.in_ok-link.link c.args.body.now (frames names m 0) (state names m b)
    (c.in_ok-link.ensures ∙ ap (λ n. suc (length n.frames.items)) c.in_ok-number.ensures.same ∙ ap suc (sym (length-reverse m.frames.items))) c.inside.ensures (c.in_ok-number.ensures.number_is names b)))
    c.enter.ensures
