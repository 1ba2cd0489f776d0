use Rattle.back_trivial.proofs.KnownStages.{records_are_kept}
use Rattle.back_trivial.proofs.laws.law_known_records.Goals as goal

pub returns : goal.returns
returns c = records_are_kept
