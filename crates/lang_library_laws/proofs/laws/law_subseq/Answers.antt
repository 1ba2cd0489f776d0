use Rattle.lang_library_laws.proofs.Subseq.{law_of_subseq}
use Rattle.lang_library_laws.proofs.laws.law_subseq.Goals as goal

pub returns : goal.returns
returns c = law_of_subseq
