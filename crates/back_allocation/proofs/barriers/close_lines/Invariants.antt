use Rattle.back_allocation.specs.LineSteps.{landings_in}
use Rattle.back_allocation.specs.Barriers.{AreBarriers}
use Rattle.back_allocation.specs.Slots.{ArePlain, OnlyOutlasting}
use Rattle.back_allocation.proofs.barriers.close_lines.Given as goal

abbrev pub invariant-loop-line : goal.invariant-loop-line
invariant-loop-line l = record {
  barriers : AreBarriers l.lines (landings_in l.landings) l.line l.barriers;
  plain : ArePlain l.initial.barriers → ArePlain l.barriers;
  only :
      ArePlain l.initial.barriers → OnlyOutlasting l.lines (landings_in l.landings) l.initial.barriers
      → OnlyOutlasting l.lines (landings_in l.landings) l.barriers;
}
