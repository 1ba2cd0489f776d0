use Rattle.back_function_entries.proofs.Methods.{methods_law}
use Rattle.back_function_entries.proofs.laws.law_methods.Goals as goal

pub returns : goal.returns
returns c = methods_law
