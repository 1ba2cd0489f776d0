-- The index of symbols that are listed with their words.
use Rattle.std.specs.Prelude.{◌≡◌, ℕ, ◌<◌, List, length, Some, IsSome, slice_get}
use Rattle.base.specs.declared.datum.Symbol.{Symbol}
use Rattle.mid_start.specs.declared.symbol_words.SymbolWord.{SymbolWord}
use Rattle.mid_taken.specs.Index.{Index, symbol_at}

-- each symbol that is found at a word is listed with it, and at the word of each of the first so many symbols one is found
pub record IsIndexOfFirst (symbols : List SymbolWord) (count : ℕ) (index : Index) : Type 0 where
  pub found :
      (word : ℕ) (s : Symbol) → symbol_at word index ≡ Some s
      → (i : ℕ) × (slice_get symbols i ≡ Some (record { word = word; symbol = s }))
  pub there : (i : ℕ) (x : SymbolWord) → i < count → slice_get symbols i ≡ Some x → IsSome (symbol_at x.word index)

-- the same of all
abbrev pub IsIndexOf : List SymbolWord → Index → Type 0
IsIndexOf symbols index = IsIndexOfFirst symbols (length symbols) index
