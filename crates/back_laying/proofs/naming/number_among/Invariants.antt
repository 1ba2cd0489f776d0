-- None so far has the text.
use Rattle.std.proofs.Common.{◌≡◌, ◌+◌, drop}
use Rattle.lang_meaning.specs.Lookup.{text}
use Rattle.back_words.specs.Variables.{number_among}
use Rattle.back_laying.proofs.naming.number_among.Given as goal

abbrev pub invariant-loop-at : goal.invariant-loop-at
invariant-loop-at l = number_among (text l.names) l.firsts l.name ≡ l.at + number_among (text l.names) (drop l.at l.firsts) l.name
