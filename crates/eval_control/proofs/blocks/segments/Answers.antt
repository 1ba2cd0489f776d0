-- Two frames are pushed, above which the segments are a sequence.
use Rattle.std.proofs.Common.{◌∷◌, ap, sym, ◌∙◌, suc, reverse}
use Rattle.std.proofs.lemmas.List.{length-reverse}
use Rattle.std.proofs.lemmas.Result.{on_ok_weaker}
use Rattle.lang_meaning.specs.Values.{nil}
use Rattle.eval_machine.specs.Step.{sequence_step}
use Rattle.eval_state.specs.declared.frame.ContinuationFrame.TheVariants as frame
use Rattle.eval_state.specs.Frames.{forms_from, situation_in, frames_in, others_of}
use Rattle.eval_state.specs.View.{state}
use Rattle.eval_state.proofs.Going.{followed, after_push}
use Rattle.eval_control.proofs.Inside.{segments_entered}
use Rattle.eval_control.proofs.blocks.segments.Goals as goal

pub returns : goal.returns
returns c =
    let m = c.args.machine.now in
    let t = frame.Tagbody c.args.number c.args.list c.args.outside in
    let within = c.inside.result in
    let left = forms_from c.args.list.now c.args.place in
    on_ok_weaker c.sequence.result
    (λ x. followed _ _ _ _
    (after_push m c.push_frame.new.self c.sequence.new.machine t
    (λ n names s ws z. sequence_step s nil left (situation_in names n.current (frame.LastSegment ∷ ws) within) (frames_in names n.current (others_of 0 n.operands.items) n.slots.items (frame.LastSegment ∷ ws)) z)
    c.in_ok-push_frame.ensures
    (after_push c.push_frame.new.self c.push_frame-2.new.self c.sequence.new.machine frame.LastSegment
    (λ n names s ws z. sequence_step s nil left (situation_in names n.current ws within) (frames_in names n.current (others_of 0 n.operands.items) n.slots.items ws) z)
    c.in_ok-push_frame-2.ensures x))
    (λ names s b. segments_entered s names m.current m.operands.items m.slots.items (reverse m.frames.items) c.args.list c.args.outside within c.args.number c.in_ok-link.link left (state names m b)
    (c.in_ok-link.ensures ∙ ap suc (sym (length-reverse m.frames.items))) c.inside.ensures))
    c.sequence.ensures
