use Rattle.mid_examples.proofs.Bounds.{bound_rows}
use Rattle.mid_examples.proofs.worked.worked_bounds.Goals as goal

pub returns : goal.returns
returns c = record { bound_rows = bound_rows }
