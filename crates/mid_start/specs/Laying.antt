-- What is laid behind the words that are there: objects, which the words represent afterwards, and a value, which has a word.
use Rattle.std.specs.Prelude.{◌≡◌, ℕ, ◌+◌, ◌/◌, ◌≤◌, List, [], ◌∷◌, ◌++◌, length, Some}
use Rattle.lang_meaning.specs.declared.program.ProgramRows.{ProgramRows}
use Rattle.lang_meaning.specs.Values.{Value}
use Rattle.lang_meaning.specs.Objects.{Object, cons}
use Rattle.lang_meaning.specs.Literals.{Laid, no_object, after_parts}
use Rattle.mid_arena.specs.Places.{Places, word_of, WordsOf}
use Rattle.mid_start.specs.declared.words.ArenaWords.{ArenaWords}
use Rattle.mid_start.specs.Lists.{IsBeginning}
use Rattle.mid_start.specs.LaidWell.{LaidWell}

-- so many words more end below the address 2 ^ 30
abbrev pub HasRoom : ArenaWords → ℕ → Type 0
HasRoom words more = words.first / 4 + length words.words + more ≤ 268435456

-- words and symbols were laid behind those that were there
pub record Grown (before after : ArenaWords) : Type 0 where
  pub first : after.first ≡ before.first
  pub words : IsBeginning before.words after.words
  pub symbols : IsBeginning before.symbols after.symbols

abbrev pub with_more : List ℕ → ArenaWords → ArenaWords
with_more ws words = record words { words = words.words ++ ws }

-- more objects and symbols have spots; those that had one keep it
pub record Longer (before after : Places) : Type 0 where
  pub objects : IsBeginning before.objects after.objects
  pub symbols : IsBeginning before.symbols after.symbols
  pub others : after.others ≡ before.others

module _ (names : List (List ℕ)) (program : ProgramRows) (places : Places) (store : List Object) (after : ArenaWords) where
  -- the words represent these objects behind those that were there, and a word is the one of a value
  pub record LaidThere (laid : Laid) (word : ℕ) : Type 0 where
    pub places_after : Places
    pub longer : Longer places places_after
    pub stands : LaidWell names program places_after (store ++ laid.objects) after
    pub of_value : word_of places_after laid.value ≡ Some word

  -- the same for several values
  pub record AllLaidThere (laid : List Object × List Value) (ws : List ℕ) : Type 0 where
    pub places_after : Places
    pub longer : Longer places places_after
    pub stands : LaidWell names program places_after (store ++ laid.0) after
    pub of_values : WordsOf places_after laid.1 ws

-- Wherever the words before represent objects, the words after represent them and what is laid from the number of objects on.
pub record Lays (names : List (List ℕ)) (lay : ℕ → Laid) (before after : ArenaWords) (word : ℕ) : Type 0 where
  pub there :
      (program : ProgramRows) (places : Places) (store : List Object) → LaidWell names program places store before
      → LaidThere names program places store after (lay (length store)) word

pub record LaysAll (names : List (List ℕ)) (lay : ℕ → List Object × List Value) (before after : ArenaWords) (ws : List ℕ) : Type 0 where
  pub there :
      (program : ProgramRows) (places : Places) (store : List Object) → LaidWell names program places store before
      → AllLaidThere names program places store after (lay (length store)) ws

-- conses of these values, the last one first, before that end
abbrev pub conses : List Value → Value → ℕ → Laid
conses [] end n = no_object end
conses (v ∷ vs) end n = let rest = conses vs end n in after_parts n rest.objects (cons v rest.value)

-- conses of values are laid, of which the words are given, and the word of the end
pub record LaysConses (ws : List ℕ) (end : ℕ) (before after : ArenaWords) (word : ℕ) : Type 0 where
  pub there :
      (names : List (List ℕ)) (program : ProgramRows) (places : Places) (store : List Object) (vs : List Value) (v : Value)
      → LaidWell names program places store before → WordsOf places vs ws → word_of places v ≡ Some end
      → LaidThere names program places store after (conses vs v (length store)) word
