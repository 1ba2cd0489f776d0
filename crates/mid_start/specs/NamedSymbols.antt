-- Symbols that are laid because a program wants their words, whatever else names them.
use Rattle.std.specs.Prelude.{◌≡◌, ℕ, ◌<◌, List, Some, length, slice_get}
use Rattle.base.specs.declared.datum.Name.{Name}
use Rattle.base.specs.declared.datum.Symbol.TheVariants.{Named}
use Rattle.lang_meaning.specs.declared.program.ProgramRows.{ProgramRows}
use Rattle.lang_meaning.specs.Objects.{Object}
use Rattle.mid_arena.specs.FixedWords.{nil_text}
use Rattle.mid_arena.specs.Places.{Places}
use Rattle.mid_start.specs.declared.symbol_words.SymbolWord.{SymbolWord}
use Rattle.mid_start.specs.declared.words.ArenaWords.{ArenaWords}
use Rattle.mid_start.specs.Laying.{Grown, Longer}
use Rattle.mid_start.specs.LaidWell.{LaidWell}
use Rattle.mid_start.specs.Symbols.{word_of_symbol}

-- the names are in the table, in which none has the text of nil
pub record AreNamed (names : List (List ℕ)) (wanted : List Name) : Type 0 where
  pub there : (i : ℕ) (name : Name) → slice_get wanted i ≡ Some name → name.0 < length names
  pub no_nil : (i : ℕ) → slice_get names i ≡ Some nil_text → ⊥

-- the symbol of each name has a word
pub record HaveSymbols (wanted : List Name) (symbols : List SymbolWord) : Type 0 where
  pub each : (i : ℕ) (name : Name) → slice_get wanted i ≡ Some name → (word : ℕ) × (word_of_symbol (Named name) symbols ≡ Some word)

-- the words represent the same objects, with more symbols
pub record StandsWith (names : List (List ℕ)) (program : ProgramRows) (places : Places) (store : List Object) (wanted : List Name) (after : ArenaWords) : Type 0 where
  pub places_after : Places
  pub longer : Longer places places_after
  pub stands : LaidWell names program places_after store after
  pub have : HaveSymbols wanted after.symbols

-- symbols are laid behind the words that were there
pub record LaysSymbols (names : List (List ℕ)) (wanted : List Name) (before after : ArenaWords) : Type 0 where
  pub grown : Grown before after
  pub there :
      (program : ProgramRows) (places : Places) (store : List Object) → LaidWell names program places store before
      → StandsWith names program places store wanted after
