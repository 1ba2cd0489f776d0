-- Whether the names of a slot, of a class and of a literal are in a table of so many names.
use Rattle.std.specs.Prelude.{ℕ, Bool, true, ◌&&◌, nat_lt}
use Rattle.std.specs.List.{list_all}
use Rattle.base.specs.declared.datum.Name.{Name}
use Rattle.base.specs.declared.datum.Symbol.{Symbol}
use Rattle.base.specs.declared.datum.Symbol.TheVariants.{Named, Fresh}
use Rattle.base.specs.Data.{Item, item, Content, integer, character, symbol, string, vector, nil, list}
use Rattle.base.specs.Data.{Items, no_item, item_and, Tail, no_tail, dotted}
use Rattle.lang_meaning.specs.declared.program.SlotRow.{SlotRow}
use Rattle.lang_meaning.specs.declared.program.ClassRow.{ClassRow}
use Rattle.lang_meaning.specs.declared.program.LiteralRow.{LiteralRow}
use Rattle.lang_meaning.specs.declared.program.LiteralRow.TheVariants as row

abbrev pub is_slot_named : (names : ℕ) → SlotRow → Bool
is_slot_named names s = nat_lt s.name.0 names && list_all (λ (a : Name). nat_lt a.0 names) s.initargs

abbrev pub is_class_named : (names : ℕ) → ClassRow → Bool
is_class_named names c = nat_lt c.name.0 names && list_all (is_slot_named names) c.slots

-- the name of a symbol, where it has one
abbrev pub is_symbol_named : (names : ℕ) → Symbol → Bool
is_symbol_named names (Named name) = nat_lt name.0 names
is_symbol_named names (Fresh expansion serial) = true

-- all names of a datum
unfoldable mutual
  pub is_named : (names : ℕ) → Item → Bool
  is_named names (item p c) = is_named_inside names c

  pub is_named_inside : (names : ℕ) → Content → Bool
  is_named_inside names (integer n) = true
  is_named_inside names (character c) = true
  is_named_inside names (symbol s) = is_symbol_named names s
  is_named_inside names (string bytes) = true
  is_named_inside names (vector ds) = are_named names ds
  is_named_inside names nil = true
  is_named_inside names (list ds t) = are_named names ds && is_tail_named names t

  pub are_named : (names : ℕ) → Items → Bool
  are_named names no_item = true
  are_named names (item_and d ds) = is_named names d && are_named names ds

  pub is_tail_named : (names : ℕ) → Tail → Bool
  is_tail_named names no_tail = true
  is_tail_named names (dotted d) = is_named names d

abbrev pub is_literal_named : (names : ℕ) → LiteralRow → Bool
is_literal_named names (row.Datum d) = is_named names d
is_literal_named names (row.Class c) = true
is_literal_named names (row.Function name) = true
