-- The addresses so far.
use Rattle.std.proofs.Common.{◌≡◌, map}
use Rattle.std.specs.List.{range_with_len}
use Rattle.lang_meaning.specs.Lookup.{text}
use Rattle.back_words.specs.Variables.{address_among}
use Rattle.back_laying.proofs.naming.addresses.Given as goal

abbrev pub invariant-loop-number : goal.invariant-loop-number
invariant-loop-number l = l.found ≡ map (address_among (text l.names) l.start l.firsts) (range_with_len 0 l.number)
