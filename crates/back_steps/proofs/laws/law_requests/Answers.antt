use Rattle.back_steps.proofs.RequestLaws.{law_of_requests}
use Rattle.back_steps.proofs.laws.law_requests.Goals as goal

pub returns : goal.returns
returns c = law_of_requests
