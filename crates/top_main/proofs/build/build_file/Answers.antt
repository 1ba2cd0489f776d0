-- The text was taken of the shelf.
use Rattle.top_main.proofs.Written.{of_shelf}
use Rattle.top_main.proofs.build.build_file.Goals as goal

pub returns-in-Ok : goal.returns-in-Ok
returns-in-Ok g c = of_shelf c.build_text.result _ _ _ _ _ _ _ (c.build_text.ensures _ c.in-Ok.ensures.taken)
