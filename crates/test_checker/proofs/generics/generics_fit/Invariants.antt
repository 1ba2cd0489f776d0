-- It is left to see whether the rest fits.
use Rattle.std.proofs.Common.{◌≡◌, drop}
use Rattle.std.specs.List.{list_all}
use Rattle.lang_meaning.specs.Facts.{generic_fits}
use Rattle.test_checker.proofs.generics.generics_fit.Given as goal

abbrev pub invariant-loop-generic : goal.invariant-loop-generic
invariant-loop-generic l = list_all (generic_fits l.rows) (drop l.generic-index l.rows.generics) ≡ list_all (generic_fits l.rows) l.rows.generics
