-- What the run of a primitive comes to, set beside the answer of the meaning.
use Rattle.std.specs.Prelude.{◌≡◌, ℕ, suc, ◌+◌, ◌*◌, ◌<◌, ◌≤◌, List, [], ◌∷◌, length, map, Some, slice_get}
use Rattle.lang_meaning.specs.declared.program.ProgramRows.{ProgramRows}
use Rattle.lang_meaning.specs.declared.primitive.Primitive.{Primitive}
use Rattle.lang_meaning.specs.Arity.{arity}
use Rattle.lang_meaning.specs.Values.{Value, nil, object}
use Rattle.lang_meaning.specs.Objects.{instance, function, fresh_symbol, domain_error_class}
use Rattle.lang_meaning.specs.State.{stored}
use Rattle.lang_meaning.specs.State as meaning
use Rattle.lang_meaning.specs.InitialHeap.{class_value}
use Rattle.lang_meaning.specs.Primitives.{Answer, result, makes, makes_symbol, fails, domain_error, instance_words, primitive}
use Rattle.mid_code.specs.declared.program.MidProcedure.{MidProcedure}
use Rattle.mid_code.specs.Arena.{Arena, left}
use Rattle.mid_code.specs.State.{MidState, returns, no_room, MidOutcome}
use Rattle.mid_code.specs.Meaning.{Task, enter, turns}
use Rattle.mid_arena.specs.Tags.{object_tag, signal_word, tag_of}
use Rattle.mid_arena.specs.Places.{Spot, Places, of_object, spot_of, with_object, word_of, WordsOf}
use Rattle.mid_arena.specs.Standing.{SameWords, SameStack, ValueAt}
use Rattle.mid_arena.specs.FixedWords.{pending_address}
use Rattle.mid_arena.specs.Represents.{Represents}

-- the same bounds, and so many words more in the heap
pub record Enlarged (earlier later : Arena) (words : ℕ) : Type 0 where
  pub size : length later.memory ≡ length earlier.memory
  pub laid_from : later.laid_from ≡ earlier.laid_from
  pub laid_to : later.laid_to ≡ earlier.laid_to
  pub heap_from : later.heap_from ≡ earlier.heap_from
  pub heap_to : later.heap_to ≡ earlier.heap_to + 4 * words

-- Where functions stand, in the spots that code has for itself but the first, and in the control records that stood and still stand, the
-- words are as they were: of a state of the meaning, and from one arena to a later one.
pub record KeepsWords (places : Places) (z : meaning.State) (earlier later : Arena) : Type 0 where
  pub functions :
      (i p : ℕ) (s : Spot) → slice_get z.store i ≡ Some (function p) → spot_of places (of_object i) ≡ Some s
      → SameWords earlier later s
  pub others : (n : ℕ) (s : Spot) → slice_get places.others (suc n) ≡ Some s → SameWords earlier later s
  pub stack : SameStack earlier later

module _ (names : List (List ℕ)) (program : ProgramRows) where
  -- the words that an answer asks for, and the units behind it
  abbrev pub words_asked : Answer → ℕ
  words_asked (result v z) = 0
  words_asked (makes size besides o z) = size
  words_asked (makes_symbol z) = 2
  words_asked (fails class slots z) = instance_words program class (length slots)
  words_asked (domain_error v expected z) = instance_words program domain_error_class 2

  abbrev pub units_after : Answer → ℕ
  units_after (result v z) = z.units
  units_after (makes size besides o z) = z.units + size + besides
  units_after (makes_symbol z) = z.units + 2
  units_after (fails class slots z) = z.units + instance_words program class (length slots)
  units_after (domain_error v expected z) = z.units + instance_words program domain_error_class 2

  -- a run from a state of the arena, where the meaning was in that state, in a frame of so many words
  module _ (places : Places) (start : meaning.State) (before : MidState) where
    -- the spot of an object that is made
    abbrev pub new_spot : (words tag : ℕ) → Spot
    new_spot words tag = record { address = before.arena.heap_to; words = words; tag = tag }

    -- it returned with the word of a value, where things stand so, and the state is that one
    pub record Returned (after : Places) (v : Value) (z : meaning.State) (words : ℕ) (r : MidOutcome) : Type 0 where
      pub word : ℕ
      pub end : r.end ≡ returns word
      pub of_value : word_of after v ≡ Some word
      pub represents : Represents names program after z r.state
      pub arena : Enlarged before.arena r.state.arena words
      pub blocks : r.state.arena.blocks ≡ before.arena.blocks
      pub kept : KeepsWords places start before.arena r.state.arena

    -- it returned, and the condition that it made, of a class with these slots, stands to be signalled
    pub record Pending (after : Places) (class : ℕ) (slots : List Value) (z : meaning.State) (words : ℕ) (r : MidOutcome) : Type 0 where
      pub end : r.end ≡ returns signal_word
      pub represents : Represents names program after (stored (instance class (map (λ v. Some v) slots) nil) z) r.state
      pub pending : ValueAt after r.state.arena pending_address (object (length z.store))
      pub arena : Enlarged before.arena r.state.arena words
      pub blocks : r.state.arena.blocks ≡ before.arena.blocks
      pub kept : KeepsWords places start before.arena r.state.arena

    abbrev pub Signalled : (class : ℕ) → List Value → meaning.State → MidOutcome → Type 0
    Signalled class slots z r =
        Pending (with_object (new_spot (instance_words program class (length slots)) object_tag) places) class slots z (instance_words program class (length slots)) r

    abbrev pub Done : Answer → MidOutcome → Type 0
    Done (result v z) r = Returned places v z 0 r
    Done (makes size besides o z) r =
        Returned (with_object (new_spot size (tag_of o)) places) (object (length z.store)) (stored o z) size r
    Done (makes_symbol z) r =
        Returned (with_object (new_spot 2 object_tag) places) (object (length z.store))
        (record (stored (fresh_symbol z.symbols) z) { symbols = z.symbols + 1 }) 2 r
    Done (fails class slots z) r = Signalled class slots z r
    Done (domain_error v expected z) r = Signalled domain_error_class (v ∷ class_value names program expected ∷ []) z r

    -- it asked for words that were not left, when the words of its frame were taken, or for these; nothing else changed
    pub record RoomWanting (frame_words asked : ℕ) (r : MidOutcome) : Type 0 where
      pub asked_for : ℕ
      pub left_then : ℕ
      pub end : r.end ≡ no_room asked_for left_then
      pub wanting : left_then < asked_for
      pub together : left before.arena < frame_words + asked
      pub represents : Represents names program places start r.state
      pub kept : KeepsWords places start before.arena r.state.arena

    pub data Comes (frame_words : ℕ) (answer : Answer) (r : MidOutcome) : Type 0 where
      done : Done answer r → Comes frame_words answer r
      no_words : RoomWanting frame_words (words_asked answer) r → Comes frame_words answer r

    -- a run costs at most 250 for each argument and each unit behind it, and 150
    abbrev pub IsWithin : (arguments : ℕ) → Answer → MidOutcome → Type 0
    IsWithin arguments answer r =
        r.state.cost + 250 * start.units ≤ before.cost + 150 + 250 * (arguments + units_after answer)

  -- The procedure of a primitive: entered with the words of its arguments, and with a turn for each unit that the primitive is charged, it
  -- comes to the primitive's answer, within its cost.
  pub record DoesPrimitive (which : Primitive) (procedure : MidProcedure) (places : Places) (z : meaning.State) (y : MidState) (vs : List Value) (r : MidOutcome) : Type 0 where
    pub comes : Comes places z y procedure.frame (primitive names program which vs z) r
    pub cost : IsWithin places z y (arity which) (primitive names program which vs z) r

abbrev pub IsPrimitive : Primitive → MidProcedure → Type 0
IsPrimitive which procedure =
    (names : List (List ℕ)) (program : ProgramRows) (procedures : List MidProcedure) (below : Task → MidState → MidOutcome) (n : ℕ)
    (places : Places) (z : meaning.State) (y : MidState) (vs : List Value) (ws : List ℕ)
    → Represents names program places z y → WordsOf places vs ws → length vs ≡ arity which
    → units_after names program (primitive names program which vs z) ≤ z.units + n
    → DoesPrimitive names program which procedure places z y vs (turns procedures below (suc n) (enter procedure ws) y)
