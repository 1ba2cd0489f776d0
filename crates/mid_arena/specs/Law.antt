-- Laws for the code around primitives: what the word of a value is not; and how an arena goes on representing a state where code lays blocks and
-- stores words in them, changes or takes words of its own, or makes a function; and that procedures of primitives may have other frames.
use Rattle.std.specs.Prelude.{◌≡◌, ℕ, suc, ◌<◌, ◌≤◌, ◌≢◌, false, List, length, Some, slice_get}
use Rattle.lang_meaning.specs.declared.primitive.Primitive.{Primitive}
use Rattle.lang_meaning.specs.declared.program.ProgramRows.{ProgramRows}
use Rattle.lang_meaning.specs.Values.{Value, nil, object}
use Rattle.lang_meaning.specs.Objects.{function}
use Rattle.lang_meaning.specs.State.{stored}
use Rattle.lang_meaning.specs.State as meaning
use Rattle.mid_code.specs.Arena.{Arena}
use Rattle.mid_code.specs.State.{MidState}
use Rattle.mid_arena.specs.Tags.{nil_word, unbound_word, signal_word}
use Rattle.mid_arena.specs.Places.{Spot, end_of, pointer_to, Places, Owner, of_other, same_owner, spot_of, with_object, with_other, word_of}
use Rattle.mid_arena.specs.Standing.{SameWords}
use Rattle.mid_arena.specs.Growing.{HeapGrows, Changes}
use Rattle.mid_arena.specs.Layouts.{FunctionAt}
use Rattle.mid_arena.specs.Represents.{Represents}
use Rattle.mid_arena.specs.Answers.{IsPrimitive}
use Rattle.mid_arena.specs.Codes.{procedure_in}

-- a word that says neither that a condition is to be signalled nor that a slot has no value, and that is nil's only where the value is nil
pub record TellsValue (v : Value) (word : ℕ) : Type 0 where
  pub no_signal : word ≢ signal_word
  pub no_unbound : word ≢ unbound_word
  pub nil_alone : word ≡ nil_word → v ≡ nil

abbrev pub LawOfValueWords : Type 0
LawOfValueWords =
    (names : List (List ℕ)) (program : ProgramRows) (places : Places) (z : meaning.State) (y : MidState) (v : Value) (word : ℕ)
    → Represents names program places z y → word_of places v ≡ Some word → TellsValue v word

-- the same output and input
pub record SameStreams (earlier later : MidState) : Type 0 where
  pub printed : later.printed ≡ earlier.printed
  pub input : later.input ≡ earlier.input

-- the heap grows, and words of the stack may change
abbrev pub LawOfGrowth : Type 0
LawOfGrowth =
    (names : List (List ℕ)) (program : ProgramRows) (places : Places) (z : meaning.State) (y y' : MidState)
    → Represents names program places z y → HeapGrows y.arena y'.arena → SameStreams y y' → Represents names program places z y'

-- the words of all others stay
abbrev pub KeepsOthers : Places → Owner → Arena → Arena → Type 0
KeepsOthers places owner earlier later =
    (p : Owner) (s : Spot) → same_owner p owner ≡ false → spot_of places p ≡ Some s → SameWords earlier later s

-- words change in a spot that code has for itself, but not the first one
abbrev pub LawOfOwnWords : Type 0
LawOfOwnWords =
    (names : List (List ℕ)) (program : ProgramRows) (places : Places) (z : meaning.State) (y y' : MidState) (n : ℕ) (s : Spot)
    → Represents names program places z y → slice_get places.others (suc n) ≡ Some s → Changes s y.arena y'.arena → SameStreams y y'
    → Represents names program places z y' × KeepsOthers places (of_other (suc n)) y.arena y'.arena

-- words that were requested are a spot more that code has for itself
abbrev pub LawOfNewOwnWords : Type 0
LawOfNewOwnWords =
    (names : List (List ℕ)) (program : ProgramRows) (places : Places) (z : meaning.State) (y y' : MidState) (s : Spot)
    → Represents names program places z y → HeapGrows y.arena y'.arena → SameStreams y y' → s.address ≡ y.arena.heap_to → end_of s ≤ y'.arena.heap_to
    → 1 ≤ s.words → s.tag < 4 → Represents names program (with_other s places) z y'

-- words that were requested and stored are those of a new function, which is the value of its pointer
abbrev pub LawOfNewFunctions : Type 0
LawOfNewFunctions =
    (names : List (List ℕ)) (program : ProgramRows) (places : Places) (z : meaning.State) (y y' : MidState) (s : Spot) (p : ℕ)
    → Represents names program places z y → HeapGrows y.arena y'.arena → SameStreams y y' → s.address ≡ y.arena.heap_to → end_of s ≤ y'.arena.heap_to
    → FunctionAt y'.arena s
    → Represents names program (with_object s places) (stored (function p) z) y' × (word_of (with_object s places) (object (length z.store)) ≡ Some (pointer_to s))

-- the procedure of a primitive does what the primitive does, whatever the words of its frame are
abbrev pub LawOfFrames : Type 0
LawOfFrames = (which : Primitive) (frame : ℕ) → IsPrimitive which (procedure_in which frame)
