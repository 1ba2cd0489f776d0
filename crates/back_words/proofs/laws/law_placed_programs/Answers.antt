use Rattle.back_words.proofs.Programs.{placed_programs}
use Rattle.back_words.proofs.laws.law_placed_programs.Goals as goal

pub returns : goal.returns
returns c = placed_programs
