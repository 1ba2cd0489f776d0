-- It is left to see whether the rest fits.
use Rattle.std.proofs.Common.{◌≡◌, drop}
use Rattle.std.specs.List.{list_all}
use Rattle.lang_meaning.specs.Facts.{callee_fits}
use Rattle.test_checker.proofs.rows.functions_fit.Given as goal

abbrev pub invariant-loop-function : goal.invariant-loop-function
invariant-loop-function l = list_all (λ f. callee_fits l.rows f.callee) (drop l.function-index l.rows.functions) ≡ list_all (λ f. callee_fits l.rows f.callee) l.rows.functions
