-- A level less, and the segments from there on.
use Rattle.std.proofs.Common.{ap, ◌∙◌, suc, arith, ◌≡◌}
use Rattle.std.proofs.lemmas.Result.{on_ok_weaker}
use Rattle.flat_language.specs.FlatMeaning.{from_segment}
use Rattle.flat_language.specs.model.View.{forms}
use Rattle.lang_meaning.specs.Meaning.{segment_of}
use Rattle.eval_machine.specs.Step.{segments_step}
use Rattle.eval_state.specs.Frames.{forms_from, inside_tagbody, landing_of}
use Rattle.eval_state.specs.View.{at, frames, state}
use Rattle.eval_state.proofs.Going.{followed}
use Rattle.eval_control.proofs.Passed.{no_level_left, one_level_less, segments_left, lower}
use Rattle.eval_control.proofs.outcomes.turns_to.Goals as goal

pub returns-in_default : goal.returns-in_default
returns-in_default c = followed _ _ _ _ c.come_to.ensures (λ names s b. no_level_left _ c.args.outside.level _ _ (omega arith))

pub returns : goal.returns
returns c =
    let m = c.args.machine.now in
    let all = forms c.args.segments.now in
    let less : c.args.outside.level ≡ suc c.in-Some.below = omega (arith, c.in-Some.ensures) in
    on_ok_weaker c.segments.result
    (λ x. followed _ _ _ _ x (λ names s b.
    ap (λ i. segments_step s c.args.number (forms_from c.args.segments.now c.segment_of-place.result) all (inside_tagbody c.args.number (at names m i)) (frames names m 0) (state names m b)) c.at_level.ensures
    ∙ ap (λ k. segments_step s c.args.number (forms_from c.args.segments.now k) all (inside_tagbody c.args.number (at names m (record c.args.outside { level = c.in-Some.below }))) (frames names m 0) (state names m b)) c.segment_of-place.ensures
    ∙ ap (λ left. segments_step s c.args.number left all (inside_tagbody c.args.number (at names m (record c.args.outside { level = c.in-Some.below }))) (frames names m 0) (state names m b)) (segments_left (segment_of (landing_of c.args.landing)) c.args.segments.now)
    ∙ ap (λ p. segments_step s c.args.number (from_segment (segment_of (landing_of c.args.landing)) all) all p (frames names m 0) (state names m b)) (lower names m c.args.number c.in-Some.below c.args.outside)
    ∙ one_level_less (λ k. segments_step s c.args.number (from_segment (segment_of (landing_of c.args.landing)) all) all (record (inside_tagbody c.args.number (at names m c.args.outside)) { level = k })) c.args.outside.level c.in-Some.below (frames names m 0) (state names m b) less))
    c.segments.ensures
