-- When words that are laid are what a recipe makes, wherever the words before represent objects.
use Rattle.std.specs.Prelude.{◌≡◌, ℕ, ◌+◌, ◌<◌, ◌≤◌, List, [], ◌∷◌, ◌++◌, length, Some, slice_get}
use Rattle.lang_meaning.specs.declared.program.ProgramRows.{ProgramRows}
use Rattle.lang_meaning.specs.Values.{Value, object}
use Rattle.lang_meaning.specs.Objects.{Object, function}
use Rattle.mid_code.specs.Arena.{word_at}
use Rattle.mid_arena.specs.Places.{Spot, Places, of_object, spot_of, word_of}
use Rattle.mid_start.specs.declared.words.ArenaWords.{ArenaWords}
use Rattle.mid_start.specs.LaidArena.{arena_of}
use Rattle.mid_start.specs.LaidWell.{LaidWell}
use Rattle.mid_start.specs.Laying.{Longer}
use Rattle.mid_start.specs.declared.slots.SlotWords.{SlotWords}
use Rattle.lang_meaning.specs.Recipes.{Recipe}
use Rattle.mid_start.specs.Recipes.{SlotValues}

-- the word of a value
abbrev pub IsWord : Places → Value → ℕ → Type 0
IsWord places v w = word_of places v ≡ Some w

-- the words of what a class says of a slot
pub record IsSlot (places : Places) (v : SlotValues) (s : SlotWords) : Type 0 where
  pub name : word_of places v.name ≡ Some s.name
  pub initargs : word_of places v.initargs ≡ Some s.initargs
  pub initform : word_of places v.initform ≡ Some s.initform

-- the same of each of a list
abbrev pub EachStandsFor : {V W : Type 0} → (Places → V → W → Type 0) → Places → List V → List W → Type 0
EachStandsFor means places [] [] = Unit {0}
EachStandsFor means places [] (w ∷ ws) = ⊥
EachStandsFor means places (v ∷ vs) [] = ⊥
EachStandsFor means places (v ∷ vs) (w ∷ ws) = means places v w × EachStandsFor means places vs ws

-- a value has a word: an object that is a value has a spot
pub record HasWord (places : Places) (v : Value) : Type 0 where
  pub word : ℕ
  pub of_value : word_of places v ≡ Some word

-- so many objects from a number on have words
pub record HaveWords (places : Places) (from count : ℕ) : Type 0 where
  pub each : (i : ℕ) → i < count → HasWord places (object (from + i))

-- a function has two words, of which the second is its procedure's number
pub record IsNumbered (words : ArenaWords) (s : Spot) (procedure : ℕ) : Type 0 where
  pub size : s.words ≡ 2
  pub number : word_at (arena_of words) (s.address + 4) ≡ Some procedure

-- each function with a spot is numbered
pub record AreNumbered (places : Places) (store : List Object) (words : ArenaWords) : Type 0 where
  pub each :
      (i p : ℕ) (s : Spot) → slice_get store i ≡ Some (function p) → spot_of places (of_object i) ≡ Some s → IsNumbered words s p

-- the words represent what was made behind the objects that were there, and this stands for it
pub record Made {V W : Type 0} (names : List (List ℕ)) (program : ProgramRows) (means : Places → V → W → Type 0) (places : Places) (store : List Object) (before after : ArenaWords)
    (made : List Object × V) (w : W) : Type 0 where
  pub places_after : Places
  pub longer : Longer places places_after
  pub stands : LaidWell names program places_after (store ++ made.0) after
  pub words : means places_after made.1 w
  pub numbered : AreNumbered places store before → AreNumbered places_after (store ++ made.0) after
  pub all : HaveWords places_after (length store) (length made.0)

-- wherever the words before represent objects, the words after represent them and what the recipe makes behind them
pub record Makes {V W : Type 0} (names : List (List ℕ)) (means : Places → V → W → Type 0) (recipe : Recipe V) (before after : ArenaWords) (w : W) : Type 0 where
  pub there :
      (program : ProgramRows) (places : Places) (store : List Object) → LaidWell names program places store before
      → Made names program means places store before after (recipe (length store)) w

-- from the same address on, and at most so many words more
pub record IsWithin (before after : ArenaWords) (more : ℕ) : Type 0 where
  pub first : after.first ≡ before.first
  pub count : length after.words ≤ length before.words + more
