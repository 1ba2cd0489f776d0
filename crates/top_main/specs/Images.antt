-- **What the image of a program does**, in words of what the program means: with an input, in an arena of so many words.
use Rattle.std.specs.Prelude.{◌≡◌, ◌⊎◌, ◌<◌, ◌≤◌, ℕ, ◌+◌, ◌*◌, ◌%◌, ◌^◌, pos, ◌*ℤ◌, List, length, slice_index, slice_index_or}
use Rattle.base.specs.Arithmetic.{low_word}
use Rattle.base.specs.declared.place.Place.{Place}
use Rattle.lang_meaning.specs.declared.program.ProgramRows.{ProgramRows}
use Rattle.lang_meaning.specs.Counts.{bound}
use Rattle.lang_meaning.specs.Meaning.{Meant, meaning, ended_value, ended_unhandled, ended_full, class_in, place_of_site}
use Rattle.lang_meaning.specs.Prefixes.{IsPrefix}
use Rattle.lang_meaning.specs.State.{no_place, words, unlimited}
use Rattle.lang_meaning.specs.Values.{Value, integer, character, symbol, nil, object}
use Rattle.rv_machine.specs.declared.ending.Ending.TheVariants.{Budget, Halt, Unhandled, Full}
use Rattle.rv_machine.specs.declared.image.Image.{Image}
use Rattle.rv_machine.specs.Run.{Ended, run_of}
use Rattle.top_main.specs.Sizes.{IsSmall}

-- an input is bytes
abbrev pub AreBytes : List ℕ → Type 0
AreBytes input = (i : ℕ) → i < length input → slice_index_or input i 0 < 256

-- the words of an arena that are charged to no program, beside those of the image
abbrev pub unpaid_words : ℕ
unpaid_words = 57

-- the words of an arena that its program may be charged
abbrev pub Holds : (arena : ℕ) (image : List ℕ) (charge : ℕ) → Type 0
Holds arena image charge = charge + unpaid_words + length image ≤ arena

-- A word and a value. The two lowest bits are the tag: an integer stands above 0, in two's complement; a cons is its address with 1, a symbol or
-- another object its address with 2; nil is 3, and a character stands above 15.
abbrev pub IsWordOf : ℕ → Value → Type 0
IsWordOf word (integer n) = word ≡ low_word (pos 4 *ℤ n)
IsWordOf word (character c) = word ≡ 256 * c + 15
IsWordOf word nil = word ≡ 3
IsWordOf word (symbol s) = word % 4 ≡ 2
IsWordOf word (object i) = (word % 4 ≡ 1) ⊎ (word % 4 ≡ 2)

-- a run halted with the word of the program's value, and printed what the program prints
pub record Halts (m : Meant) (x : Ended) : Type 0 where
  pub word : ℕ
  pub ending : x.ending ≡ Halt word
  pub result : Value
  pub end : m.end ≡ ended_value result
  pub word_is : IsWordOf word result
  pub printed : x.at.printed ≡ m.printed

-- a site by its number; 0 is that of none
abbrev pub IsSite : ProgramRows → ℕ → Place → Type 0
IsSite program n place = ((n ≡ 0) × (place ≡ no_place)) ⊎ ((1 ≤ n) × (place_of_site program.sites n ≡ place))

-- it ended with the class of the condition that the program did not handle; register 11 has the site, and register 12 the condition
pub record Signals (program : ProgramRows) (m : Meant) (x : Ended) : Type 0 where
  pub class : ℕ
  pub ending : x.ending ≡ Unhandled class
  pub condition : Value
  pub place : Place
  pub end : m.end ≡ ended_unhandled condition place
  pub class_is : class ≡ class_in m.store condition
  pub site_is : IsSite program (slice_index x.at.state.registers 11) place
  pub word_is : IsWordOf (slice_index x.at.state.registers 12) condition
  pub printed : x.at.printed ≡ m.printed

-- it had no room
pub record HasNoRoom (x : Ended) : Type 0 where
  pub asked : ℕ
  pub left : ℕ
  pub ending : x.ending ≡ Full asked left

-- a program has no words left
pub record IsFull (m : Meant) : Type 0 where
  pub asked : ℕ
  pub left : ℕ
  pub end : m.end ≡ ended_full asked left

-- an image, in an arena of so many words, with an input
module _ (names : List (List ℕ)) (program : ProgramRows) (image : List ℕ) (entry arena : ℕ) (input : List ℕ) where
  -- its run for so many instructions
  abbrev pub ran : ℕ → Ended
  ran n = run_of image entry arena input n

  pub record Does : Type 0 where
    -- **prefix**: what was printed is a beginning of what the program prints, with no limit of words
    pub prefix : (n : ℕ) → n < 2 ^ 32 → IsPrefix (ran n).at.printed (meaning names program input n unlimited).printed
    -- **ends**: it goes on, or has ended as the program does, or has no room; so it traps nowhere
    pub ends :
        (n : ℕ) → n < 2 ^ 32
        → ((ran n).ending ≡ Budget)
        ⊎ Halts (meaning names program input n unlimited) (ran n)
        ⊎ Signals program (meaning names program input n unlimited) (ran n)
        ⊎ HasNoRoom (ran n)
    -- **no room** comes only where the program has no words left either, within words that the arena holds beside the image
    pub full :
        (n : ℕ) → n < 2 ^ 32 → HasNoRoom (ran n)
        → (charge k : ℕ) → Holds arena image charge → n ≤ k → IsFull (meaning names program input k (words charge))
    -- **in time**: where the program ends within such words, the run has ended so within the count that it is charged
    pub in_time :
        (charge k n : ℕ) → Holds arena image charge → bound (meaning names program input k (words charge)).units < 2 ^ 32
        → bound (meaning names program input k (words charge)).units ≤ n
        → ((v : Value) → (meaning names program input k (words charge)).end ≡ ended_value v
        → Halts (meaning names program input k (words charge)) (ran n))
        × ((c : Value) (place : Place) → (meaning names program input k (words charge)).end ≡ ended_unhandled c place
        → Signals program (meaning names program input k (words charge)) (ran n))

-- **an image is that of a program**: in every arena that has room for it, with every input of bytes, it does what the program means; and it has no
-- more words than by what is reached of the program
pub record IsImageOf (names : List (List ℕ)) (program : ProgramRows) (image : Image) : Type 0 where
  pub does :
      (arena : ℕ) (input : List ℕ) → length image.words ≤ arena → arena ≤ 2 ^ 24 → AreBytes input
      → Does names program image.words image.entry arena input
  pub small : IsSmall names program image
