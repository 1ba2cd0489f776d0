-- It is left to see whether the rest fits.
use Rattle.std.proofs.Common.{◌≡◌, ◌&&◌, false, drop}
use Rattle.std.specs.List.{list_all}
use Rattle.lang_meaning.specs.Facts.{body_fits}
use Rattle.lang_meaning.specs.Standing.{stands_alone}
use Rattle.test_checker.proofs.bodies.main_fits.Given as goal

abbrev pub invariant-loop-form : goal.invariant-loop-form
invariant-loop-form l = list_all (λ f. body_fits l.rows f && stands_alone false f) (drop l.form-index l.rows.main) ≡ list_all (λ f. body_fits l.rows f && stands_alone false f) l.rows.main
