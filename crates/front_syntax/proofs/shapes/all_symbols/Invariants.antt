-- The required variables that were seen.
use Rattle.std.proofs.Common.{◌≡◌, take}
use Rattle.front_syntax.proofs.shapes.all_symbols.Given as goal

abbrev pub invariant-loop-symbol : goal.invariant-loop-symbol
invariant-loop-symbol l = l.symbols ≡ take l.symbol-index l.parameters.required
