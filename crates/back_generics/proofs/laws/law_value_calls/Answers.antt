use Rattle.back_generics.proofs.ValueCalls.{value_calls_law}
use Rattle.back_generics.proofs.laws.law_value_calls.Goals as goal

pub returns : goal.returns
returns c = value_calls_law
