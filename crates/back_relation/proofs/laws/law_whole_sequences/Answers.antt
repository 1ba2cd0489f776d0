use Rattle.back_relation.proofs.Wholes.{whole_sequences_law}
use Rattle.back_relation.proofs.laws.law_whole_sequences.Goals as goal

pub returns : goal.returns
returns c = whole_sequences_law
