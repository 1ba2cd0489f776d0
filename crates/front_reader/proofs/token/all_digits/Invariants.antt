-- All bytes so far are digits of the base.
use Rattle.std.proofs.Common.{◌≡◌, nat_lt, drop}
use Rattle.std.specs.List.{list_all}
use Rattle.front_reader.specs.Characters.{digit_value}
use Rattle.front_reader.proofs.token.all_digits.Given as goal

abbrev pub invariant-loop-byte : goal.invariant-loop-byte
invariant-loop-byte l =
    list_all (λ b. nat_lt (digit_value b) l.base) (drop l.byte-index l.word) ≡ list_all (λ b. nat_lt (digit_value b) l.base) l.word
