-- Each clause is a lemma.
use Rattle.front_files.specs.bridge.LaterVerdicts.{verdict_later, without_later}
use Rattle.front_files.proofs.laws.law_names_apart.Goals as goal

pub returns-clause-verdict : goal.returns-clause-verdict
returns-clause-verdict c = verdict_later

pub returns-clause-without : goal.returns-clause-without
returns-clause-without c = without_later
