-- Symbols found by their words.
use Rattle.std.specs.Prelude.{ℕ, List, Option}
use Rattle.std.specs.Ordering.{nat_cmp}
use Rattle.std.specs.Map.{lookup}
use Rattle.std.specs.BTreeMap.{is_at}
use Rattle.base.specs.declared.datum.Symbol.{Symbol}

-- words with their symbols, as `NameMap` has them
abbrev pub Index : Type 0
Index = List (ℕ × Symbol)

-- the symbol that is found at a word
abbrev pub symbol_at : ℕ → Index → Option Symbol
symbol_at word index = lookup (is_at (nat_cmp word)) index
