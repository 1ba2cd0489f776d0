-- None of the methods so far has it.
use Rattle.std.proofs.Common.{◌≡◌, ◌==◌, drop}
use Rattle.std.specs.List.{list_any}
use Rattle.test_checker.proofs.procedures.has_method.Given as goal

abbrev pub invariant-loop-method : goal.invariant-loop-method
invariant-loop-method l = list_any (λ m. l.id == m.procedure) (drop l.method-index l.generic.methods) ≡ list_any (λ m. l.id == m.procedure) l.generic.methods
