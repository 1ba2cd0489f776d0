use Rattle.back_relation.proofs.Sequences.{sequences_law}
use Rattle.back_relation.proofs.laws.law_sequences.Goals as goal

pub returns : goal.returns
returns c = sequences_law
