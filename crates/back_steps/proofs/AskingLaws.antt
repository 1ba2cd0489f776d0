-- The laws of the lines that ask for something.
use Rattle.mid_code.specs.declared.operation.Operation.TheVariants as operation
use Rattle.mid_lines.specs.declared.line.Line.TheVariants.{Do}
use Rattle.back_places.specs.StepLaw.{Known, LawOfLine}
use Rattle.back_steps.specs.AskingKinds.{IsGet}
use Rattle.back_steps.proofs.Gets.{get_follows}

pub law_of_gets : LawOfLine IsGet
law_of_gets program l known first checked good a line rs callers z m (Do (operation.Get to)) e kind r =
    get_follows program l (Known known) first good a line to rs callers z m e r
law_of_gets program l known first checked good a line rs callers z m x e kind r = absurd kind
