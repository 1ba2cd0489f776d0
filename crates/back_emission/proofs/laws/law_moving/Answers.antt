use Rattle.back_places.specs.StepLaw.{Known}
use Rattle.back_emission.proofs.Moving.{moved}
use Rattle.back_emission.proofs.laws.law_moving.Goals as goal

pub returns : goal.returns
returns c = λ program l known first good. moved program l (Known known) first good
