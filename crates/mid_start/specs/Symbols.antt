-- The symbols that are laid, each with its word.
use Rattle.std.specs.Prelude.{◌≡◌, ℕ, Bool, false, ◌==◌, ◌&&◌, List, [], ◌∷◌, Option, Some, None, slice_get, if◌then◌else◌}
use Rattle.base.specs.declared.datum.Name.{Name}
use Rattle.base.specs.declared.datum.Symbol.{Symbol}
use Rattle.base.specs.declared.datum.Symbol.TheVariants.{Named, Fresh}
use Rattle.mid_start.specs.declared.symbol_words.SymbolWord.{SymbolWord}

-- whether two symbols are one: names are told apart by their numbers
abbrev pub is_same_symbol : Symbol → Symbol → Bool
is_same_symbol (Named a) (Named b) = a.0 == b.0
is_same_symbol (Named a) (Fresh x s) = false
is_same_symbol (Fresh x s) (Named b) = false
is_same_symbol (Fresh x s) (Fresh y r) = x == y && s == r

-- the word of a symbol; none where it is not laid
abbrev pub word_of_symbol : Symbol → List SymbolWord → Option ℕ
word_of_symbol s [] = None
word_of_symbol s (x ∷ xs) = if is_same_symbol s x.symbol then Some x.word else word_of_symbol s xs

-- under the number of each name that is laid stands the place of its symbol
pub record IsIndexed (symbols : List SymbolWord) (places : List ℕ) : Type 0 where
  pub found :
      (place : ℕ) (x : SymbolWord) (name : Name) → slice_get symbols place ≡ Some x → x.symbol ≡ Named name
      → slice_get places name.0 ≡ Some place
