-- The words of texts and of symbols.
use Rattle.std.specs.Prelude.{ℕ, zero, suc, ◌*◌, ◌%◌, ◌^◌, List, [], ◌∷◌, ◌++◌, length}
use Rattle.base.specs.declared.datum.Symbol.{Symbol}
use Rattle.base.specs.declared.datum.Symbol.TheVariants.{Named, Fresh}
use Rattle.lang_meaning.specs.Lookup.{text}
use Rattle.mid_arena.specs.Tags.{symbol_header, fresh_header}
use Rattle.mid_arena.specs.Layouts.{byte_words, packed, AreBytes}

-- the first so many words of bytes, four in each
abbrev pub packed_words : List ℕ → ℕ → List ℕ
packed_words bytes zero = []
packed_words bytes (suc n) = packed_words bytes n ++ packed bytes (4 * n) ∷ []

-- a header, the number of bytes as an integer, and the bytes
abbrev pub text_words : ℕ → List ℕ → List ℕ
text_words header bytes = header ∷ 4 * length bytes ∷ packed_words bytes (byte_words (length bytes))

abbrev pub symbol_words : List (List ℕ) → Symbol → List ℕ
symbol_words names (Named name) = text_words symbol_header (text names name.0)
symbol_words names (Fresh expansion serial) = fresh_header ∷ 4 * (serial % 2 ^ 29) ∷ []

-- the text of a symbol's name is bytes
abbrev pub HasBytes : List (List ℕ) → Symbol → Type 0
HasBytes names (Named name) = AreBytes (text names name.0)
HasBytes names (Fresh expansion serial) = Unit {0}
