use Rattle.flat_laws.proofs.SameKind.{law_of_blanks}
use Rattle.flat_laws.proofs.laws.law_blanks.Goals as goal

pub returns : goal.returns
returns c = law_of_blanks
