use Rattle.back_generics.proofs.GenericCalls.{generic_calls_law}
use Rattle.back_generics.proofs.laws.law_generic_calls.Goals as goal

pub returns : goal.returns
returns c = generic_calls_law
