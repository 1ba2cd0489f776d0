-- The text was taken of the shelf.
use Rattle.top_main.proofs.Written.{of_checked}
use Rattle.top_main.proofs.check.check_file.Goals as goal

pub returns-in-Ok : goal.returns-in-Ok
returns-in-Ok g c = of_checked c.check.result _ _ (c.check.ensures _ c.in-Ok.ensures.taken)
