-- All parts so far are bound.
use Rattle.std.proofs.Common.{◌≡◌, drop}
use Rattle.std.specs.List.{list_all}
use Rattle.lang_meaning.specs.Standing.{is_bound}
use Rattle.test_checker.proofs.stands.are_bound.Given as goal

abbrev pub invariant-loop-part : goal.invariant-loop-part
invariant-loop-part l = list_all (is_bound l.scope) (drop l.part-index l.parts) ≡ list_all (is_bound l.scope) l.parts
