-- When words that are laid represent objects and symbols: each stands where it is said to stand.
use Rattle.std.specs.Prelude.{◌≡◌, ℕ, ◌%◌, List, [], ◌∷◌, length, Some, slice_get}
use Rattle.base.specs.DataMeasures.{SymbolBelow}
use Rattle.lang_meaning.specs.declared.program.ProgramRows.{ProgramRows}
use Rattle.lang_meaning.specs.Values.{SymbolValue}
use Rattle.lang_meaning.specs.Objects.{Object}
use Rattle.lang_meaning.specs.Literals.{symbol_of}
use Rattle.mid_arena.specs.Places.{Spot, pointer_to, Places, Owner, of_object, of_symbol, spot_of}
use Rattle.mid_arena.specs.Standing.{SpotStands, AllApart}
use Rattle.mid_arena.specs.Layouts.{ObjectAt, SymbolAt}
use Rattle.mid_start.specs.declared.symbol_words.SymbolWord.{SymbolWord}
use Rattle.mid_start.specs.declared.words.ArenaWords.{ArenaWords}
use Rattle.mid_start.specs.LaidArena.{arena_of}

-- a laid symbol, of which the table has the name if it has one, is this one in this spot
pub record IsSymbolThere (names : List (List ℕ)) (x : SymbolWord) (v : SymbolValue) (s : Spot) : Type 0 where
  pub named : SymbolBelow (length names) x.symbol
  pub symbol : v ≡ symbol_of names x.symbol
  pub word : x.word ≡ pointer_to s

-- the laid symbols are these in these spots, in this order
abbrev pub AreSymbolsThere : List (List ℕ) → List SymbolWord → List (SymbolValue × Spot) → Type 0
AreSymbolsThere names [] [] = Unit {0}
AreSymbolsThere names [] (p ∷ ps) = ⊥
AreSymbolsThere names (x ∷ xs) [] = ⊥
AreSymbolsThere names (x ∷ xs) (p ∷ ps) = IsSymbolThere names x p.0 p.1 × AreSymbolsThere names xs ps

-- no symbol has two spots
abbrev pub AreDistinct : List (SymbolValue × Spot) → Type 0
AreDistinct ps = (i j : ℕ) (p q : SymbolValue × Spot) → slice_get ps i ≡ Some p → slice_get ps j ≡ Some q → p.0 ≡ q.0 → i ≡ j

-- The words represent these objects and the symbols laid so far. All spots are among the words, and those of different owners are apart.
pub record LaidWell (names : List (List ℕ)) (program : ProgramRows) (places : Places) (store : List Object) (words : ArenaWords) : Type 0 where
  pub aligned : words.first % 4 ≡ 0
  pub spots : (p : Owner) (s : Spot) → spot_of places p ≡ Some s → SpotStands (arena_of words) s
  pub apart : AllApart places
  pub count : length places.objects ≡ length store
  pub objects :
      (i : ℕ) (o : Object) (s : Spot) → slice_get store i ≡ Some o → spot_of places (of_object i) ≡ Some s
      → ObjectAt names program places (arena_of words) s o
  pub symbols : (v : SymbolValue) (s : Spot) → spot_of places (of_symbol v) ≡ Some s → SymbolAt (arena_of words) s v
  pub listed : AreSymbolsThere names words.symbols places.symbols
  pub once : AreDistinct places.symbols
