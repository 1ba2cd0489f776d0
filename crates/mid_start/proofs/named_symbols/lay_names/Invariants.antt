-- The symbols so far.
use Rattle.std.proofs.Common.{◌*◌, take}
use Rattle.mid_start.specs.Making.{IsWithin}
use Rattle.mid_start.specs.NamedSymbols.{LaysSymbols}
use Rattle.mid_start.proofs.named_symbols.lay_names.Given as goal

abbrev pub invariant-loop-at : goal.invariant-loop-at
invariant-loop-at l = record {
  within : IsWithin l.fn.words l.words (70 * l.at);
  lays : LaysSymbols l.names (take l.at l.wanted) l.fn.words l.words;
}
