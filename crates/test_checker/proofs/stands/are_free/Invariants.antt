-- All parts so far are free in the body.
use Rattle.std.proofs.Common.{◌≡◌, drop}
use Rattle.std.specs.List.{list_all}
use Rattle.lang_meaning.specs.Standing.{is_free}
use Rattle.test_checker.proofs.stands.are_free.Given as goal

abbrev pub invariant-loop-part : goal.invariant-loop-part
invariant-loop-part l = list_all (is_free l.own l.body) (drop l.part-index l.parts) ≡ list_all (is_free l.own l.body) l.parts
