-- No generic function so far has it.
use Rattle.std.proofs.Common.{◌≡◌, ◌==◌, drop}
use Rattle.std.specs.List.{list_any}
use Rattle.test_checker.proofs.procedures.is_of_method.Given as goal

abbrev pub invariant-loop-generic : goal.invariant-loop-generic
invariant-loop-generic l = list_any (λ g. list_any (λ m. l.id == m.procedure) g.methods) (drop l.generic-index l.rows.generics) ≡ list_any (λ g. list_any (λ m. l.id == m.procedure) g.methods) l.rows.generics
