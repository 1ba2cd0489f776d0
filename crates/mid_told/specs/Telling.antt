-- Texts that are appended for what is told: wherever the words represent a state, of the value that is there.
use Rattle.std.specs.Prelude.{◌≡◌, ℕ, List, [], ◌∷◌, ◌++◌, Option, Some, None}
use Rattle.lang_meaning.specs.Values.{Value}
use Rattle.lang_meaning.specs.State as meaning
use Rattle.mid_arena.specs.Tags.{unbound_word}
use Rattle.mid_arena.specs.Places.{Places, word_of}
use Rattle.lang_told.specs.Told.{slots_at, TellsValue, TellsSlot, TellsSlots}
use Rattle.mid_told.specs.declared.telling.Memory.{Memory}
use Rattle.mid_told.specs.Stands.{Stands}

-- the words of a memory represent that state
abbrev pub StandsIn : Memory → meaning.State → Type 0
StandsIn from z = Stands from.names.now from.classes.now z from.words.now

-- the word of what a slot has
abbrev pub IsSlotWord : Places → Option Value → ℕ → Type 0
IsSlotWord places None word = word ≡ unbound_word
IsSlotWord places (Some v) word = word_of places v ≡ Some word

pub record ValueTold (from : Memory) (word : ℕ) (before after : List ℕ) : Type 0 where
  pub text : List ℕ
  pub appended : after ≡ before ++ text
  pub there :
      (z : meaning.State) (m : StandsIn from z) (v : Value) → word_of m.places v ≡ Some word
      → TellsValue from.names.now from.classes.now z.store v text

pub record SlotTold (from : Memory) (word : ℕ) (before after : List ℕ) : Type 0 where
  pub text : List ℕ
  pub appended : after ≡ before ++ text
  pub there :
      (z : meaning.State) (m : StandsIn from z) (slot : Option Value) → IsSlotWord m.places slot word
      → TellsSlot from.names.now from.classes.now z.store slot text

pub record SlotsTold (from : Memory) (word : ℕ) (before after : List ℕ) : Type 0 where
  pub text : List ℕ
  pub appended : after ≡ before ++ text
  pub there :
      (z : meaning.State) (m : StandsIn from z) (v : Value) → word_of m.places v ≡ Some word
      → TellsSlots from.names.now from.classes.now z.store (slots_at z.store v) text

-- a text behind a colon, if there is any
abbrev pub behind : List ℕ → List ℕ
behind [] = []
behind (b ∷ bs) = 58 ∷ b ∷ bs
