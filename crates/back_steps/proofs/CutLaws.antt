-- The law of cuts.
use Rattle.mid_lines.specs.declared.line.Line.TheVariants.{Cut}
use Rattle.back_places.specs.StepLaw.{Known, LawOfLine}
use Rattle.back_steps.specs.CuttingKind.{IsCut}
use Rattle.back_steps.proofs.Cutting.{cut_follows}

pub law_of_cuts : LawOfLine IsCut
law_of_cuts program l known first checked good a line rs callers z m (Cut block word) e kind r =
    cut_follows program l (Known known) first good a line block word rs callers z m e r
law_of_cuts program l known first checked good a line rs callers z m x e kind r = absurd kind
