-- Names and serials of symbols, and fresh symbols.
use Rattle.std.specs.Prelude.{ℕ, ◌-◌, ◌^◌, [], ◌∷◌}
use Rattle.lang_meaning.specs.declared.primitive.Primitive.TheVariants.{SymbolName, SymbolSerial, Gensym}
use Rattle.lang_meaning.specs.Objects.{symbol_class}
use Rattle.mid_code.specs.State.{MidState, returns, with_arena}
use Rattle.mid_arena.specs.Tags.{object_tag, nil_word, string_header, fresh_header}
use Rattle.mid_arena.specs.FixedWords.{serial_address}
use Rattle.mid_examples.specs.Addresses.{object_at, number, symbol_t, symbol_x, symbol_point, symbol_abcd, symbol_cons, symbol_empty, fresh, expanded, made}
use Rattle.mid_examples.specs.Ground.{four, with_room}
use Rattle.mid_examples.specs.Kinds.{some_symbols, others_than}
use Rattle.mid_examples.specs.Rows.{Seen, ended, storing, growing, gives, makes, wants, RunsTo, RunsIn, RunsAlways, DoesThen, RefusesEach, FitsError, FitsObject}

-- a new string of the bytes of the name
pub record SymbolNameRows : Type 0 where
  -- of one byte, four, five and six
  pub of_x : RunsAlways SymbolName (object_at symbol_x ∷ []) (makes object_tag (string_header ∷ number 1 ∷ four 120 0 0 0 ∷ []))
  pub of_abcd : RunsAlways SymbolName (object_at symbol_abcd ∷ []) (makes object_tag (string_header ∷ number 4 ∷ four 97 98 99 100 ∷ []))
  pub of_point :
      RunsAlways SymbolName (object_at symbol_point ∷ [])
      (makes object_tag (string_header ∷ number 5 ∷ four 112 111 105 110 ∷ four 116 0 0 0 ∷ []))
  pub of_cons :
      RunsAlways SymbolName (object_at symbol_cons ∷ [])
      (makes object_tag (string_header ∷ number 6 ∷ four 60 99 111 110 ∷ four 115 62 0 0 ∷ []))
  -- nil, t
  pub of_nil : RunsAlways SymbolName (nil_word ∷ []) (makes object_tag (string_header ∷ number 3 ∷ four 110 105 108 0 ∷ []))
  pub of_t : RunsAlways SymbolName (object_at symbol_t ∷ []) (makes object_tag (string_header ∷ number 1 ∷ four 116 0 0 0 ∷ []))
  -- a name without bytes, and no name
  pub of_empty : RunsAlways SymbolName (object_at symbol_empty ∷ []) (makes object_tag (string_header ∷ number 0 ∷ []))
  pub of_fresh : RunsAlways SymbolName (object_at fresh ∷ []) (makes object_tag (string_header ∷ number 0 ∷ []))
  pub of_expanded : RunsAlways SymbolName (object_at expanded ∷ []) (makes object_tag (string_header ∷ number 0 ∷ []))
  pub refused : RefusesEach SymbolName (λ w. w ∷ []) (others_than some_symbols) symbol_class
  pub point_fits :
      FitsObject SymbolName (object_at symbol_point ∷ []) object_tag (string_header ∷ number 5 ∷ four 112 111 105 110 ∷ four 116 0 0 0 ∷ [])
  pub nil_fits : FitsObject SymbolName (nil_word ∷ []) object_tag (string_header ∷ number 3 ∷ four 110 105 108 0 ∷ [])
  pub fresh_fits : FitsObject SymbolName (object_at fresh ∷ []) object_tag (string_header ∷ number 0 ∷ [])
  pub error_fits : FitsError SymbolName (number 1 ∷ []) (number 1) symbol_class

-- its serial where it has no name, else nil
pub record SymbolSerialRows : Type 0 where
  pub of_fresh : RunsAlways SymbolSerial (object_at fresh ∷ []) (gives (number 3))
  pub of_expanded : RunsAlways SymbolSerial (object_at expanded ∷ []) (gives (number 1))
  pub of_x : RunsAlways SymbolSerial (object_at symbol_x ∷ []) (gives nil_word)
  pub of_empty : RunsAlways SymbolSerial (object_at symbol_empty ∷ []) (gives nil_word)
  pub of_nil : RunsAlways SymbolSerial (nil_word ∷ []) (gives nil_word)
  pub refused : RefusesEach SymbolSerial (λ w. w ∷ []) (others_than some_symbols) symbol_class
  pub fits : FitsError SymbolSerial (number 1 ∷ []) (number 1) symbol_class

-- a fresh symbol with a serial, which is followed by that one
abbrev pub makes_symbol : (serial next : ℕ) → MidState → Seen
makes_symbol serial next z =
    ended (returns (object_at z.arena.heap_to))
    (with_arena (storing serial_address (number next ∷ []) (growing (fresh_header ∷ number serial ∷ []) z.arena)) z)

-- where so many fresh symbols were made
abbrev pub where_made : ℕ → MidState
where_made count = with_arena (storing serial_address (number count ∷ []) (with_room 2).arena) (with_room 2)

pub record GensymRows : Type 0 where
  -- the sixth, and the one after it
  pub next : RunsAlways Gensym [] (makes_symbol 5 6)
  pub one_more : DoesThen (makes_symbol 5 6) Gensym [] (makes_symbol 6 7)
  -- the first, the last serial, and the first serial again
  pub first : RunsTo (where_made 0) Gensym [] (makes_symbol 0 1)
  pub last : RunsTo (where_made (2 ^ 29 - 1)) Gensym [] (makes_symbol (2 ^ 29 - 1) 0)
  -- what was made has that serial
  pub serial_then : DoesThen (makes_symbol 5 6) SymbolSerial (object_at made ∷ []) (gives (number 5))
  -- two words
  pub enough : RunsIn 2 Gensym [] (makes_symbol 5 6)
  pub one_less : RunsIn 1 Gensym [] (wants 2 1)
