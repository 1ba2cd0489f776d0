-- It is left to see what the rest says.
use Rattle.std.proofs.Common.{◌≡◌, drop}
use Rattle.std.specs.List.{list_any}
use Rattle.front_profile.specs.Names.{same_symbol}
use Rattle.front_syntax.proofs.shapes.has_symbol.Given as goal

abbrev pub invariant-loop-other : goal.invariant-loop-other
invariant-loop-other l = list_any (same_symbol l.symbol) (drop l.other-index l.symbols) ≡ list_any (same_symbol l.symbol) l.symbols
