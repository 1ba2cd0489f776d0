use Rattle.std.proofs.Common.{◌≡◌, ℕ, true, List, subst}
use Rattle.std.specs.Prelude.{◌==◌}
use Rattle.std.specs.List.{list_any}
use Rattle.back_liveness.specs.Points.{HasEndOr}
use Rattle.back_liveness.proofs.Tight.{line_ends}
use Rattle.back_liveness.proofs.points.add_line.Goals as goal

pub returns-in-Some-clause-only : goal.returns-in-Some-clause-only
returns-in-Some-clause-only c v x =
    line_ends c.args.steps.now c.args.line c.in-Some.step.now c.args.hulls.now c.add_reads.new.hulls c.add_written.new.hulls v x c.in-Some.ensures
    (subst (λ (rs : List ℕ). HasEndOr c.args.hulls.now c.add_reads.new.hulls v x ((list_any (λ r. r == v) rs ≡ true) × (x ≡ c.args.line)))
    c.as_slice.ensures (c.add_reads.ensures.only v x))
    (c.add_written.ensures.only v x)
