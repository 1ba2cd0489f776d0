use Rattle.back_values.proofs.Wholes.{points_known}
use Rattle.back_values.proofs.laws.law_points_known.Goals as goal

pub returns : goal.returns
returns c = points_known
