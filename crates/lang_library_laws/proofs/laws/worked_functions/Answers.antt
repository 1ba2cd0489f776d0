use Rattle.lang_library_laws.proofs.Worked.{is_met, works}
use Rattle.lang_library_laws.proofs.laws.worked_functions.Goals as goal

pub returns-clause-is_met : goal.returns-clause-is_met
returns-clause-is_met c = is_met

pub returns-clause-works : goal.returns-clause-works
returns-clause-works c = works
