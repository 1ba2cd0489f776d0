-- One part more is counted.
use Rattle.std.proofs.Common.{[], ◌∷◌}
use Rattle.flat_language.specs.declared.place.FlatCapture.{FlatCapture}
use Rattle.flat_boxes.specs.Boxes.{variables_among}
use Rattle.back_build.proofs.Counted.{more_counted, next_variable}
use Rattle.back_build.proofs.captured.variables_among.Goals as goal

pub loop-at-preserved : goal.loop-at-preserved
loop-at-preserved c =
    more_counted variables_among (λ (p : FlatCapture). variables_among (p ∷ [])) next_variable c.args.parts.now c.loop-at.at c.in-Some.part.now c.loop-at.count
    c.variable_in.result c.in_ok-count.count c.in-Some.ensures c.variable_in.ensures c.in_ok-count.ensures
    c.loop-at.invariant
