use Rattle.lang_derived.proofs.Kept.{derivation_later}
use Rattle.lang_derived.proofs.laws.law_names_apart.Goals as goal

pub returns : goal.returns
returns c = derivation_later
