use Rattle.flat_nodes.proofs.Programs.{law_of_flat_program_nodes}
use Rattle.flat_nodes.proofs.laws.law_flat_program_nodes.Goals as goal

pub returns : goal.returns
returns c = law_of_flat_program_nodes
