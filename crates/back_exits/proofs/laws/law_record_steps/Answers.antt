use Rattle.back_exits.proofs.Laying.{record_steps_law}
use Rattle.back_exits.proofs.laws.law_record_steps.Goals as goal

pub returns : goal.returns
returns c = record_steps_law
