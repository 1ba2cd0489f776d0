-- Those that were looked at are classes.
use Rattle.std.proofs.Common.{◌≡◌, ℕ, ◌<◌, Some}
use Rattle.std.specs.Prelude.{slice_get}
use Rattle.eval_application.proofs.generics.are_classes.Given as goal

abbrev pub invariant-loop-class : goal.invariant-loop-class
invariant-loop-class l = (i c : ℕ) → i < l.class-index → slice_get l.classes i ≡ Some c → c < l.count
