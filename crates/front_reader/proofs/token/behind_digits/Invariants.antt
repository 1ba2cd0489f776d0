-- What stands behind the digits stands behind those that are left.
use Rattle.std.proofs.Common.{◌≡◌, drop}
use Rattle.front_reader.specs.Tokens as spec
use Rattle.front_reader.proofs.token.behind_digits.Given as goal

abbrev pub invariant-loop-i : goal.invariant-loop-i
invariant-loop-i l = spec.behind_digits (drop l.i l.word) ≡ spec.behind_digits l.word
