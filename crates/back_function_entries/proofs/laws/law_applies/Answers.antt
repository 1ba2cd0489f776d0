use Rattle.back_function_entries.proofs.Applies.{applies_law}
use Rattle.back_function_entries.proofs.laws.law_applies.Goals as goal

pub returns : goal.returns
returns c = applies_law
