use Rattle.rv_machine.proofs.Runs.{run_from-split}
use Rattle.rv_machine.proofs.laws.law_split.Goals as goal

pub returns : goal.returns
returns c = run_from-split
