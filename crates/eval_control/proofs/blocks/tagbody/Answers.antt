-- The exit is made, and the segments begin.
use Rattle.std.proofs.Common.{ap}
use Rattle.std.proofs.lemmas.Result.{on_ok_weaker}
use Rattle.flat_language.specs.FlatState.{exit_made}
use Rattle.flat_language.specs.model.View.{forms}
use Rattle.eval_machine.specs.Step.{segments_step}
use Rattle.eval_state.specs.Frames.{inside_tagbody}
use Rattle.eval_state.specs.View.{at, frames, state}
use Rattle.eval_state.proofs.Going.{followed, after_store}
use Rattle.eval_control.proofs.blocks.tagbody.Goals as goal

pub returns : goal.returns
returns c =
    let m = c.args.machine.now in
    let all = forms c.args.list.now in
    on_ok_weaker c.segments.result
    (λ x. followed _ _ _ _
    (after_store m c.new_exit.new.self c.segments.new.machine
    (λ n names s z. segments_step s c.in_ok-number.number all all (inside_tagbody c.in_ok-number.number (at names n c.args.situation)) (frames names n 0) z)
    (λ names z. exit_made z) c.in_ok-number.ensures.same c.in_ok-number.ensures.state_is x)
    (λ names s b. ap (λ e. segments_step s e all all (inside_tagbody e (at names m c.args.situation)) (frames names m 0) (exit_made (state names m b))) (c.in_ok-number.ensures.number_is names b)))
    c.segments.ensures
