-- It is left to see whether the rest fits.
use Rattle.std.proofs.Common.{◌≡◌, drop}
use Rattle.std.specs.List.{list_all}
use Rattle.lang_meaning.specs.Facts.{method_fits}
use Rattle.test_checker.proofs.generics.methods_fit.Given as goal

abbrev pub invariant-loop-method : goal.invariant-loop-method
invariant-loop-method l = list_all (method_fits l.rows l.generic) (drop l.method-index l.methods) ≡ list_all (method_fits l.rows l.generic) l.methods
