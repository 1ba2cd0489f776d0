-- It is left to see what the rest says.
use Rattle.std.proofs.Common.{◌≡◌, drop}
use Rattle.front_profile.specs.GivenNames.{number_of}
use Rattle.front_syntax.specs.Behind.{from}
use Rattle.front_syntax.proofs.naming.name_of_text.Given as goal

abbrev pub invariant-loop-number : goal.invariant-loop-number
invariant-loop-number l = from l.number (number_of (drop l.number l.names) l.text) ≡ number_of l.names l.text
