use Rattle.rv_machine.proofs.Runs.{run_from-more, run_from-prefix, run_from-read_more, run_from-executed}
use Rattle.rv_machine.proofs.laws.law_budget.Goals as goal

pub returns-clause-ended : goal.returns-clause-ended
returns-clause-ended c = run_from-more

pub returns-clause-printed : goal.returns-clause-printed
returns-clause-printed c = run_from-prefix

pub returns-clause-executed : goal.returns-clause-executed
returns-clause-executed c = run_from-executed

pub returns-clause-input : goal.returns-clause-input
returns-clause-input c = λ j n m le. (run_from-read_more j n m le).0

pub returns-clause-gets : goal.returns-clause-gets
returns-clause-gets c = λ j n m le. (run_from-read_more j n m le).1
