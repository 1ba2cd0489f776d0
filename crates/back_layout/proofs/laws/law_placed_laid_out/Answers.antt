use Rattle.back_layout.proofs.ChosenPlaces.{law_of_placed_laid_out}
use Rattle.back_layout.proofs.laws.law_placed_laid_out.Goals as goal

pub returns : goal.returns
returns c = law_of_placed_laid_out
