-- All numbers so far are of classes.
use Rattle.std.proofs.Common.{◌≡◌, nat_lt, drop, length}
use Rattle.std.specs.List.{list_all}
use Rattle.test_checker.proofs.classes.are_classes.Given as goal

abbrev pub invariant-loop-id : goal.invariant-loop-id
invariant-loop-id l = list_all (λ c. nat_lt c (length l.rows.classes)) (drop l.id-index l.ids) ≡ list_all (λ c. nat_lt c (length l.rows.classes)) l.ids
