-- The law is the lemma.
use Rattle.front_profile.proofs.Programs.{program_whole}
use Rattle.front_profile.proofs.whole_laws.law_programs.Goals as goal

pub returns : goal.returns
returns c = program_whole
