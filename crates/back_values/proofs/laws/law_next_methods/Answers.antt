use Rattle.back_values.proofs.NextMethods.{next_methods_law}
use Rattle.back_values.proofs.laws.law_next_methods.Goals as goal

pub returns : goal.returns
returns c = next_methods_law
