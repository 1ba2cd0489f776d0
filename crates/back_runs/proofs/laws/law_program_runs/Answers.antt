use Rattle.back_runs.proofs.Programs.{law_of_program_runs}
use Rattle.back_runs.proofs.laws.law_program_runs.Goals as goal

pub returns : goal.returns
returns c = law_of_program_runs
