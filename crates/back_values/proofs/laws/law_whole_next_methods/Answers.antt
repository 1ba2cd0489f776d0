use Rattle.back_values.proofs.NextMethods.{whole_next_methods}
use Rattle.back_values.proofs.laws.law_whole_next_methods.Goals as goal

pub returns : goal.returns
returns c = whole_next_methods
