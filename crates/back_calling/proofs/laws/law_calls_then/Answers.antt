use Rattle.back_calling.proofs.Inner.{calls_then_law}
use Rattle.back_calling.proofs.laws.law_calls_then.Goals as goal

pub returns : goal.returns
returns c = calls_then_law
