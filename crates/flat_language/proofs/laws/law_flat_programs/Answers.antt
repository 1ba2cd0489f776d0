-- The law of flat programs holds since names are bound.
use Rattle.flat_language.proofs.Law.{law_of_flat_programs}
use Rattle.flat_language.proofs.laws.law_flat_programs.Goals as goal

pub returns : goal.returns
returns c = law_of_flat_programs c.law_names.ensures
