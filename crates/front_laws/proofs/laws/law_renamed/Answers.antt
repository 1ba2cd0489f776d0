-- The law is the lemma.
use Rattle.front_laws.proofs.RenamedFiles.{file_by}
use Rattle.front_laws.proofs.laws.law_renamed.Goals as goal

pub returns : goal.returns
returns c = λ r old new prelude text mode v table w. file_by r old new w table prelude text mode v
