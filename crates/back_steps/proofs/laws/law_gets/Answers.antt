use Rattle.back_steps.proofs.AskingLaws.{law_of_gets}
use Rattle.back_steps.proofs.laws.law_gets.Goals as goal

pub returns : goal.returns
returns c = law_of_gets
