-- The law of the lines that draw serial numbers.
use Rattle.mid_code.specs.declared.operation.Operation.TheVariants as operation
use Rattle.mid_lines.specs.declared.line.Line.TheVariants.{Do}
use Rattle.back_places.specs.StepLaw.{Known, LawOfLine}
use Rattle.back_steps.specs.AskingKinds.{IsDraw}
use Rattle.back_steps.proofs.Draws.{draw_follows}

pub law_of_draws : LawOfLine IsDraw
law_of_draws program l known first checked good a line rs callers z m (Do (operation.Draw to base offset)) e kind r =
    draw_follows program l (Known known) first checked good a line to base offset rs callers z m e r
law_of_draws program l known first checked good a line rs callers z m x e kind r = absurd kind
