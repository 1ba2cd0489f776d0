-- It is left to see whether the rest fits.
use Rattle.std.proofs.Common.{◌≡◌, drop}
use Rattle.std.specs.List.{list_all}
use Rattle.lang_meaning.specs.Facts.{class_fits}
use Rattle.test_checker.proofs.classes.classes_fit.Given as goal

abbrev pub invariant-loop-class : goal.invariant-loop-class
invariant-loop-class l = list_all (class_fits l.rows) (drop l.class-index l.rows.classes) ≡ list_all (class_fits l.rows) l.rows.classes
