-- **What the image of a program does**, in words of what the program means: with an input, in an arena of so many words.
-- The symbols that are laid in it are told, with their words.
use Rattle.std.specs.Prelude.{◌≡◌, ◌⊎◌, ◌<◌, ◌≤◌, ℕ, ◌+◌, ◌^◌, List, length, slice_get, slice_index, Some}
use Rattle.base.specs.declared.place.Place.{Place}
use Rattle.lang_meaning.specs.declared.program.ProgramRows.{ProgramRows}
use Rattle.lang_meaning.specs.Counts.{bound}
use Rattle.lang_meaning.specs.Meaning.{Meant, meaning, ended_value, ended_unhandled, ended_full, class_in, place_of_site}
use Rattle.lang_meaning.specs.Objects.{fresh_symbol}
use Rattle.lang_meaning.specs.Prefixes.{IsPrefix}
use Rattle.lang_meaning.specs.State.{State, no_place, words, unlimited}
use Rattle.lang_meaning.specs.Values.{Value}
use Rattle.lang_alike.specs.Alike.{StoresAlike}
use Rattle.flat_language.specs.Flatten.{flat_program}
use Rattle.flat_language.specs.FlatNodes.{tables}
use Rattle.rv_machine.specs.declared.ending.Ending.TheVariants.{Budget, Halt, Unhandled, Full}
use Rattle.rv_machine.specs.declared.image.Image.{Image}
use Rattle.rv_machine.specs.Run.{Ended, run_of}
use Rattle.mid_code.specs.State.{MidState}
use Rattle.mid_arena.specs.Layouts.{AreBytes}
use Rattle.mid_arena.specs.Places.{Places, word_of}
use Rattle.mid_arena.specs.Represents.{Represents}
use Rattle.mid_start.specs.declared.symbol_words.SymbolWord.{SymbolWord}
use Rattle.mid_start.specs.LaidWell.{AreSymbolsThere, AreDistinct}
use Rattle.back_claims.specs.Program.{start_words}
use Rattle.back_runs.specs.Ends.{Leaves}
use Rattle.back_meant.specs.Laws.{GoesOn}

-- the words of an arena that its program may be charged: those behind the image, but for the start's own
abbrev pub Holds : (arena : ℕ) (image : List ℕ) (charge : ℕ) → Type 0
Holds arena image charge = charge + start_words + length image ≤ arena

module _ (names : List (List ℕ)) (program : ProgramRows) (symbols : List SymbolWord) where
  -- A word that stands for a value, in the memory with which a run ended; the objects there are those that the program
  -- left, but for functions. The symbols that have words are those that were laid, each once, and the serials of those
  -- that the run made have 29 bits.
  pub record HasWord (m : Meant) (x : Ended) (v : Value) (word : ℕ) : Type 0 where
    pub places : Places
    pub state : State
    pub alike : StoresAlike m.store state.store
    pub arena : MidState
    pub represents : Represents names (tables (flat_program program)) places state arena
    pub of_value : word_of places v ≡ Some word
    pub leaves : Leaves arena x.at
    pub listed : AreSymbolsThere names symbols places.symbols
    pub once : AreDistinct places.symbols
    pub serials : (i serial : ℕ) → slice_get state.store i ≡ Some (fresh_symbol serial) → serial < 2 ^ 29

  -- a site by its number; 0 is that of none
  abbrev pub IsSite : ℕ → Place → Type 0
  IsSite n place = ((n ≡ 0) × (place ≡ no_place)) ⊎ ((1 ≤ n) × (place_of_site program.sites n ≡ place))

  -- a run halted with the word of the program's value, and printed what the program prints
  pub record HaltsWith (m : Meant) (x : Ended) : Type 0 where
    pub word : ℕ
    pub ending : x.ending ≡ Halt word
    pub result : Value
    pub end : m.end ≡ ended_value result
    pub has_word : HasWord m x result word
    pub printed : x.at.printed ≡ m.printed

  -- It ended with the class of the condition that the program did not handle; register 11 has the site, and register 12 the condition's word.
  pub record EndsUnhandled (m : Meant) (x : Ended) : Type 0 where
    pub class : ℕ
    pub ending : x.ending ≡ Unhandled class
    pub condition : Value
    pub place : Place
    pub end : m.end ≡ ended_unhandled condition place
    pub class_is : class ≡ class_in m.store condition
    pub site_is : IsSite (slice_index x.at.state.registers 11) place
    pub has_word : HasWord m x condition (slice_index x.at.state.registers 12)
    pub printed : x.at.printed ≡ m.printed

  -- it had no room
  pub record EndsFull (x : Ended) : Type 0 where
    pub asked : ℕ
    pub left : ℕ
    pub ending : x.ending ≡ Full asked left

  -- a program has no words left
  pub record IsFull (m : Meant) : Type 0 where
    pub asked : ℕ
    pub left : ℕ
    pub end : m.end ≡ ended_full asked left

  module _ (image : List ℕ) (entry arena : ℕ) (input : List ℕ) where
    -- the run of the image for so many instructions, and what the program means with so many levels
    abbrev pub the_run : ℕ → Ended
    the_run n = run_of image entry arena input n

    pub record ImageMeans : Type 0 where
      -- **prefix**: what was printed is a beginning of what the program prints, with no limit of words
      pub prefix : (n : ℕ) → n < 2 ^ 32 → IsPrefix (the_run n).at.printed (meaning names program input n unlimited).printed
      -- **ends**: it goes on, or has ended as the program does, or has no room
      pub ends :
          (n : ℕ) → n < 2 ^ 32
          → ((the_run n).ending ≡ Budget)
          ⊎ HaltsWith (meaning names program input n unlimited) (the_run n)
          ⊎ EndsUnhandled (meaning names program input n unlimited) (the_run n)
          ⊎ EndsFull (the_run n)
      -- **paid**: where it goes on, the program does, with no limit of words, or it is charged more
      pub paid :
          (n : ℕ) → n < 2 ^ 32 → (the_run n).ending ≡ Budget → GoesOn (meaning names program input n unlimited) n
      -- **no room** comes only where image and charge together pass the arena: within words that the arena holds beside the image the program has no words left
      pub full :
          (n : ℕ) → n < 2 ^ 32 → EndsFull (the_run n)
          → (charge k : ℕ) → Holds arena image charge → n ≤ k → IsFull (meaning names program input k (words charge))
      -- **in time**: where the program ends within such words, the run has ended so within the count that it is charged
      pub in_time :
          (charge k n : ℕ) → Holds arena image charge → bound (meaning names program input k (words charge)).units < 2 ^ 32
          → bound (meaning names program input k (words charge)).units ≤ n
          → ((v : Value) → (meaning names program input k (words charge)).end ≡ ended_value v
          → HaltsWith (meaning names program input k (words charge)) (the_run n))
          × ((c : Value) (place : Place) → (meaning names program input k (words charge)).end ≡ ended_unhandled c place
          → EndsUnhandled (meaning names program input k (words charge)) (the_run n))

-- **an image that was built of a program**, with the symbols that are laid in it: in every arena that has room for it,
-- with every input of bytes, it does what the program means
abbrev pub IsBuilt : (names : List (List ℕ)) (program : ProgramRows) → List SymbolWord → Image → Type 0
IsBuilt names program symbols image =
    (arena : ℕ) (input : List ℕ) → length image.words ≤ arena → arena ≤ 2 ^ 24 → AreBytes input
    → ImageMeans names program symbols image.words image.entry arena input
