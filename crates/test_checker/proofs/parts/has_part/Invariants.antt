-- None of the parts so far is it.
use Rattle.std.proofs.Common.{◌≡◌, drop}
use Rattle.std.specs.List.{list_any}
use Rattle.lang_meaning.specs.Mentions.{same_part}
use Rattle.test_checker.proofs.parts.has_part.Given as goal

abbrev pub invariant-loop-p : goal.invariant-loop-p
invariant-loop-p l = list_any (same_part l.part) (drop l.p-index l.parts) ≡ list_any (same_part l.part) l.parts
