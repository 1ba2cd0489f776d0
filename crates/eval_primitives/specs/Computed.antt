-- **What a primitive comes to**, where primitives see the names and the rows of a program.
use Rattle.std.specs.Prelude.{◌≡◌, ◌==◌, ◌+◌, ◌<◌, drop, ℕ, Bool, false, List, Option, Some, None, Result, slice_index_or, length, if◌then◌else◌}
use Rattle.lang_meaning.specs.declared.primitive.Primitive.{Primitive}
use Rattle.lang_meaning.specs.declared.program.ProgramRows.{ProgramRows}
use Rattle.std.specs.List.{position_or_len}
use Rattle.lang_meaning.specs.declared.program.SlotRow.{SlotRow}
use Rattle.lang_meaning.specs.Lookup.{passed}
use Rattle.lang_meaning.specs.Objects.{serious_condition_class}
use Rattle.lang_meaning.specs.Classes.{is_below, slots, precedence}
use Rattle.lang_meaning.specs.Primitives.{primitive, can_be_made, says, is_slot, slot_place}
use Rattle.lang_meaning.specs.State.{charged}
use Rattle.flat_language.specs.FlatNodes.{tables}
use Rattle.eval_store.specs.declared.word.Word.{Word}
use Rattle.eval_store.specs.declared.store.Store.{Store}
use Rattle.eval_store.specs.declared.store.Halt.{Halt}
use Rattle.eval_store.specs.Spelling.{IsSpelling}
use Rattle.eval_store.specs.Words.{values_of}
use Rattle.eval_store.specs.View.{Beside, state_of, seen, limit_of}
use Rattle.eval_store.specs.InitialHeap.{IsInitialHeap}
use Rattle.eval_primitives.specs.declared.answer.Answer.{Answer}
use Rattle.eval_primitives.specs.declared.searching.Walk.{Walk}
use Rattle.eval_primitives.specs.declared.words.Spelt.{Spelt as SpeltWord}
use Rattle.eval_primitives.specs.Words.{spelt_of}
use Rattle.eval_primitives.specs.declared.primitives.Primitives.{Primitives}
use Rattle.eval_primitives.specs.Answers.{told, AnswersAs, carried_out}

-- primitives see these names and rows, and know which classes are below `<serious-condition>`
pub record IsFitted (names : List (List ℕ)) (rows : ProgramRows) (p : Primitives) : Type 0 where
  pub known : p.names.now ≡ names
  pub spelling : IsSpelling names p.spellings
  pub program : tables p.program.now ≡ rows
  pub layout : IsInitialHeap names rows p.layout.now
  pub serious : (c : ℕ) → slice_index_or p.serious.items c false ≡ is_below rows c serious_condition_class

-- a primitive that reads the store and the program answers so
pub record IsReadBy (p : Primitives) (which : Primitive) (arguments : List Word) (s : Store) (a : Answer) : Type 0 where
  pub told : (names : List (List ℕ)) (rows : ProgramRows) (b : Beside) → IsFitted names rows p
      → primitive names rows which (values_of names arguments) (state_of names s b) ≡ told names a (state_of names s b)

-- a primitive comes to that: what is left of its answer once it is carried out
pub record IsComputed (p : Primitives) (limit : Option ℕ) (which : Primitive) (arguments : List Word) (old new : Store) (r : Result Answer Halt) : Type 0 where
  pub comes : (names : List (List ℕ)) (rows : ProgramRows) (b : Beside) → IsFitted names rows p
      → AnswersAs names r (seen names new b) (carried_out (limit_of limit) (primitive names rows which (values_of names arguments) (state_of names old b)) (seen names old b))

-- however many words there are
pub record IsAlwaysComputed (p : Primitives) (which : Primitive) (arguments : List Word) (old new : Store) (r : Result Answer Halt) : Type 0 where
  pub always : (limit : Option ℕ) → IsComputed p limit which arguments old new r

-- whether a class is below `<serious-condition>`
pub record IsSerious (p : Primitives) (c : ℕ) (r : Bool) : Type 0 where
  pub seen : (names : List (List ℕ)) (rows : ProgramRows) → IsFitted names rows p → is_below rows c serious_condition_class ≡ r

-- how many slots an instance of a class has, if it can be made
abbrev pub slots_to_make : ProgramRows → ℕ → Option ℕ
slots_to_make rows c = if can_be_made rows c then Some (length (slots rows c)) else None

pub record HasSlots (p : Primitives) (c : ℕ) (r : Option ℕ) : Type 0 where
  pub seen : (names : List (List ℕ)) (rows : ProgramRows) → IsFitted names rows p → slots_to_make rows c ≡ r

-- how a search for a class in the precedence list of another one ends
pub record HasWalk (p : Primitives) (c d : ℕ) (w : Walk) : Type 0 where
  pub found : (names : List (List ℕ)) (rows : ProgramRows) → IsFitted names rows p → is_below rows c d ≡ w.found
  pub passed : (names : List (List ℕ)) (rows : ProgramRows) → IsFitted names rows p → passed (λ e. d == e) (precedence rows c) ≡ w.passed

-- whether a slot has that name
pub record IsNamed (p : Primitives) (x : SpeltWord) (row : SlotRow) (r : Bool) : Type 0 where
  pub seen : (names : List (List ℕ)) (rows : ProgramRows) → IsFitted names rows p → is_slot names (spelt_of names x) row ≡ r

-- slots up to a place have other names
pub record IsSlotPast (p : Primitives) (x : SpeltWord) (slots : List SlotRow) (at : ℕ) : Type 0 where
  pub seen : (names : List (List ℕ)) (rows : ProgramRows) → IsFitted names rows p
      → position_or_len (is_slot names (spelt_of names x)) slots ≡ at + position_or_len (is_slot names (spelt_of names x)) (drop at slots)

-- the first slot of that name, or none
pub record IsSlotFound (p : Primitives) (x : SpeltWord) (slots : List SlotRow) (at : ℕ) : Type 0 where
  pub inside : at < length slots
  pub seen : (names : List (List ℕ)) (rows : ProgramRows) → IsFitted names rows p → position_or_len (is_slot names (spelt_of names x)) slots ≡ at

pub record IsSlotMissing (p : Primitives) (x : SpeltWord) (slots : List SlotRow) : Type 0 where
  pub seen : (names : List (List ℕ)) (rows : ProgramRows) → IsFitted names rows p → position_or_len (is_slot names (spelt_of names x)) slots ≡ length slots

-- the place of the first slot of that name
abbrev pub IsFirstSlot : Primitives → SpeltWord → List SlotRow → Option ℕ → Type 0
IsFirstSlot p x slots (Some at) = IsSlotFound p x slots at
IsFirstSlot p x slots None = IsSlotMissing p x slots

-- the place of a slot of a class is answered, and what was passed is counted
pub record HasPlace (p : Primitives) (c : ℕ) (x : SpeltWord) (old new : Store) (r : Result Answer Halt) : Type 0 where
  pub comes : (names : List (List ℕ)) (rows : ProgramRows) (b : Beside) (limit : Option ℕ) → IsFitted names rows p
      → AnswersAs names r (seen names new b)
      (carried_out (limit_of limit) (slot_place (slots rows c) (is_slot names (spelt_of names x)) (state_of names old b)) (seen names old b))

-- whether a class is another one or below it is answered, and what was passed in its precedence list is counted
pub record IsSubclassTold (p : Primitives) (c d : ℕ) (old new : Store) (r : Result Answer Halt) : Type 0 where
  pub comes : (names : List (List ℕ)) (rows : ProgramRows) (b : Beside) (limit : Option ℕ) → IsFitted names rows p
      → AnswersAs names r (seen names new b)
      (carried_out (limit_of limit) (says (is_below rows c d) (charged (passed (λ e. d == e) (precedence rows c)) (state_of names old b))) (seen names old b))
