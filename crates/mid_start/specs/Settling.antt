-- Objects that are in the store without a spot get one: classes and streams, which stand in front of what their words name.
use Rattle.std.specs.Prelude.{◌≡◌, ℕ, ◌+◌, ◌*◌, ◌<◌, ◌≤◌, Bool, not, ◌&&◌, ◌||◌, nat_le, nat_lt, List, [], ◌∷◌, ◌++◌, length, map, Some, None, slice_get, if◌then◌else◌}
use Rattle.lang_meaning.specs.declared.program.ProgramRows.{ProgramRows}
use Rattle.lang_meaning.specs.declared.program.ClassRow.{ClassRow}
use Rattle.lang_meaning.specs.declared.program.SlotRow.{SlotRow}
use Rattle.lang_meaning.specs.Values.{Value, object, symbol, named, t}
use Rattle.lang_meaning.specs.Objects.{Object, class_object, built_in_classes, serious_condition_class}
use Rattle.lang_meaning.specs.Lookup.{text, is_in}
use Rattle.lang_meaning.specs.InitialHeap.{initargs_value, initform_value}
use Rattle.mid_arena.specs.Tags.{class_header, nil_word}
use Rattle.mid_arena.specs.Places.{Places, word_of}
use Rattle.mid_start.specs.declared.words.ArenaWords.{ArenaWords}
use Rattle.mid_start.specs.LaidWell.{LaidWell}
use Rattle.mid_start.specs.declared.slots.SlotWords.{SlotWords}
use Rattle.mid_start.specs.Making.{AreNumbered}

-- ---- the words of a class

abbrev pub is_condition : ClassRow → Bool
is_condition row = is_in serious_condition_class row.precedence

abbrev pub can_be_made : (class : ℕ) → ClassRow → Bool
can_be_made class row = not row.abstract_class && (nat_le built_in_classes class || is_condition row)

-- the word of t, or that of nil
abbrev pub truth_word : (truth : ℕ) → Bool → ℕ
truth_word truth b = if b then truth else nil_word

-- three words for each slot
abbrev pub slot_words : List SlotWords → List ℕ
slot_words [] = []
slot_words (s ∷ ss) = s.name ∷ s.initargs ∷ s.initform ∷ slot_words ss

abbrev pub precedence_words : List ℕ → List ℕ
precedence_words cs = map (λ c. 4 * c) cs

abbrev pub class_heading : (class name truth : ℕ) → ClassRow → List ℕ
class_heading class name truth row =
    class_header ∷ 4 * class ∷ name ∷ truth_word truth (can_be_made class row) ∷ truth_word truth (is_condition row)
    ∷ 4 * length row.precedence ∷ 4 * length row.slots ∷ []

abbrev pub class_words : (class name truth : ℕ) → ClassRow → List SlotWords → List ℕ
class_words class name truth row slots = class_heading class name truth row ++ precedence_words row.precedence ++ slot_words slots

-- the words of a slot are those of its name, of the list of its initargs and of its initform's function
pub record SlotStands (names : List (List ℕ)) (program : ProgramRows) (places : Places) (class place : ℕ) (row : SlotRow) (slot : SlotWords) : Type 0 where
  pub name : word_of places (symbol (named (text names row.name.0))) ≡ Some slot.name
  pub initargs : word_of places (initargs_value names program class place) ≡ Some slot.initargs
  pub initform : word_of places (initform_value names program class place) ≡ Some slot.initform

pub record SlotsStand (names : List (List ℕ)) (program : ProgramRows) (places : Places) (class : ℕ) (rows : List SlotRow) (slots : List SlotWords) : Type 0 where
  pub count : length slots ≡ length rows
  pub each :
      (i : ℕ) (row : SlotRow) (slot : SlotWords) → slice_get rows i ≡ Some row → slice_get slots i ≡ Some slot
      → SlotStands names program places class i row slot

-- each class has words for as many slots as it has
pub record SlotsAreCounted (classes : List ClassRow) (slots : List (List SlotWords)) : Type 0 where
  pub many : length slots ≡ length classes
  pub each :
      (class : ℕ) (row : ClassRow) (ss : List SlotWords) → slice_get classes class ≡ Some row → slice_get slots class ≡ Some ss
      → length ss ≡ length row.slots

-- ---- one object gets a spot

-- each word is as before
pub record StillWords (before after : Places) : Type 0 where
  pub word : (v : Value) (w : ℕ) → word_of before v ≡ Some w → word_of after v ≡ Some w

-- the object with that number has this word, and no other object got a spot
pub record Settled (names : List (List ℕ)) (program : ProgramRows) (places : Places) (store : List Object) (i : ℕ) (before after : ArenaWords) (word : ℕ) : Type 0 where
  pub places_after : Places
  pub words : StillWords places places_after
  pub waiting : (j : ℕ) → (j ≡ i → ⊥) → slice_get places.objects j ≡ Some None → slice_get places_after.objects j ≡ Some None
  pub others : places_after.others ≡ places.others
  pub stands : LaidWell names program places_after store after
  pub of_object : word_of places_after (object i) ≡ Some word
  pub numbered : AreNumbered places store before → AreNumbered places_after store after

-- wherever the words before represent objects, of which this one has no spot, and what is given holds, the words after represent the same objects, and this one has that word
pub record Settles (names : List (List ℕ)) (program : ProgramRows) (o : Object) (Given : Places → Type 0) (before after : ArenaWords) (word : ℕ) : Type 0 where
  pub there :
      (places : Places) (store : List Object) (i : ℕ) → LaidWell names program places store before → slice_get store i ≡ Some o
      → slice_get places.objects i ≡ Some None → Given places → Settled names program places store i before after word

-- what the words of a class need
pub record ClassGiven (names : List (List ℕ)) (program : ProgramRows) (class : ℕ) (row : ClassRow) (truth : ℕ) (slots : List SlotWords) (places : Places) : Type 0 where
  pub truth_stands : word_of places t ≡ Some truth
  pub slots_stand : SlotsStand names program places class row.slots slots

-- ---- all classes get spots

-- the number of a class among the objects: between the classes that are built in and the others stand the streams
abbrev pub class_number : ℕ → ℕ
class_number class = if nat_lt class built_in_classes then class else class + 2

-- all classes are in the store, those from one on without a spot
pub record ClassesWait (names : List (List ℕ)) (program : ProgramRows) (truth : ℕ) (slots : List (List SlotWords)) (from : ℕ) (places : Places) (store : List Object) : Type 0 where
  pub truth_stands : word_of places t ≡ Some truth
  pub many : length slots ≡ length program.classes
  pub slots_stand :
      (class : ℕ) (row : ClassRow) (ss : List SlotWords) → slice_get program.classes class ≡ Some row → slice_get slots class ≡ Some ss
      → SlotsStand names program places class row.slots ss
  pub objects : (class : ℕ) → class < length program.classes → slice_get store (class_number class) ≡ Some (class_object class)
  pub waiting : (class : ℕ) → from ≤ class → class < length program.classes → slice_get places.objects (class_number class) ≡ Some None

-- the first classes have these words
pub record ClassesSettled (names : List (List ℕ)) (program : ProgramRows) (truth : ℕ) (slots : List (List SlotWords)) (places : Places) (store : List Object) (before after : ArenaWords)
    (count : ℕ) (ws : List ℕ) : Type 0 where
  pub places_after : Places
  pub words : StillWords places places_after
  pub others : places_after.others ≡ places.others
  pub stands : LaidWell names program places_after store after
  pub many : length ws ≡ count
  pub of_classes : (class w : ℕ) → slice_get ws class ≡ Some w → word_of places_after (object (class_number class)) ≡ Some w
  pub wait : ClassesWait names program truth slots count places_after store
  pub numbered : AreNumbered places store before → AreNumbered places_after store after

-- wherever the words before represent objects, and all classes wait, the words after represent the same objects, and the first classes have these words
pub record ClassesSettle (names : List (List ℕ)) (program : ProgramRows) (truth : ℕ) (slots : List (List SlotWords)) (before after : ArenaWords) (count : ℕ) (ws : List ℕ) : Type 0 where
  pub there :
      (places : Places) (store : List Object) → LaidWell names program places store before → ClassesWait names program truth slots 0 places store
      → ClassesSettled names program truth slots places store before after count ws
