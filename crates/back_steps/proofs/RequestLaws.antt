-- The law of the lines that request words.
use Rattle.mid_code.specs.declared.operation.Operation.TheVariants as operation
use Rattle.mid_lines.specs.declared.line.Line.TheVariants.{Do}
use Rattle.back_places.specs.StepLaw.{Known, LawOfLine}
use Rattle.back_steps.specs.AskingKinds.{IsRequest}
use Rattle.back_steps.proofs.RequestSteps.{request_follows}

pub law_of_requests : LawOfLine IsRequest
law_of_requests program l known first checked good a line rs callers z m (Do (operation.Request to words)) e kind r =
    request_follows program l (Known known) first good a line to words rs callers z m e r
law_of_requests program l known first checked good a line rs callers z m x e kind r = absurd kind
