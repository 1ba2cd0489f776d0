use Rattle.back_sought_exits.proofs.Leaving.{goes_to_captured_law}
use Rattle.back_sought_exits.proofs.laws.law_goes_to_captured.Goals as goal

pub returns : goal.returns
returns c = goes_to_captured_law
