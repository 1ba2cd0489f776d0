-- It is left to see whether the rest fits.
use Rattle.std.proofs.Common.{◌≡◌, drop}
use Rattle.std.specs.List.{list_all}
use Rattle.lang_meaning.specs.Facts.{initform_fits}
use Rattle.test_checker.proofs.classes.initforms_fit.Given as goal

abbrev pub invariant-loop-slot : goal.invariant-loop-slot
invariant-loop-slot l = list_all (λ s. initform_fits l.rows s.initform) (drop l.slot-index l.slots) ≡ list_all (λ s. initform_fits l.rows s.initform) l.slots
