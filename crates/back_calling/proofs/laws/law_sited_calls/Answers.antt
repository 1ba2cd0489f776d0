use Rattle.back_calling.proofs.Sited.{sited_calls_law}
use Rattle.back_calling.proofs.laws.law_sited_calls.Goals as goal

pub returns : goal.returns
returns c = sited_calls_law
