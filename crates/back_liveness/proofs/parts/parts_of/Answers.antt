use Rattle.std.proofs.Common.{◌+◌, ℕ, List, Option, sym, subst, arith}
use Rattle.back_liveness.specs.declared.step.Interval.{Interval}
use Rattle.back_liveness.specs.Parts.{parts_with, InParts}
use Rattle.back_liveness.proofs.Parting.{line_more}
use Rattle.back_liveness.proofs.parts.parts_of.Goals as goal

pub loop-line-preserved : goal.loop-line-preserved
loop-line-preserved c =
    let i = c.loop-line.invariant in
    let a = c.args in
    let with = c.in_ok-run.ensures in
    let held = c.is_held_at-is_held in
    record {
      parts =
          subst (λ (ps : List Interval). InParts a.steps.now a.latest.now a.register a.marks.now a.high a.interval.from (c.loop-line.line + 1) ps c.in_ok-run.run' c.reached-reach.result)
          (sym with.parts)
          (subst (λ (r : Option ℕ). InParts a.steps.now a.latest.now a.register a.marks.now a.high a.interval.from (c.loop-line.line + 1) (parts_with c.loop-line.parts c.loop-line.run c.loop-line.line held.result) r
          c.reached-reach.result) (sym with.run)
          (line_more a.steps.now a.latest.now a.register a.marks.now a.high a.interval.from c.loop-line.line c.loop-line.parts c.loop-line.run c.loop-line.reach c.reached-reach.result
          held.result i.parts i.above c.reached-reach.ensures.kept c.reached-reach.ensures.marked held.ensures.reached held.ensures.written));
      above = (let low = i.above in omega (arith, low));
    }
