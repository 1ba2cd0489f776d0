-- Each by the list of rows.
use Rattle.lang_dispatch.proofs.Cutting.{added, all_stay, apart, behind}
use Rattle.lang_dispatch.proofs.laws.law_cuts.Goals as goal

pub returns-clause-added : goal.returns-clause-added
returns-clause-added c = added

pub returns-clause-all : goal.returns-clause-all
returns-clause-all c = all_stay

pub returns-clause-apart : goal.returns-clause-apart
returns-clause-apart c = apart

pub returns-clause-behind : goal.returns-clause-behind
returns-clause-behind c = behind
