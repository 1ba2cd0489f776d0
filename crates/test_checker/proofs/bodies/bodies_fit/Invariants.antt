-- All bodies so far fit.
use Rattle.std.proofs.Common.{◌≡◌, drop}
use Rattle.std.specs.List.{list_all}
use Rattle.lang_meaning.specs.Facts.{body_fits}
use Rattle.test_checker.proofs.bodies.bodies_fit.Given as goal

abbrev pub invariant-loop-procedure : goal.invariant-loop-procedure
invariant-loop-procedure l = list_all (λ p. body_fits l.rows p.body) (drop l.procedure-index l.rows.procedures) ≡ list_all (λ p. body_fits l.rows p.body) l.rows.procedures
