-- How a primitive is run, and what its run comes to.
use Rattle.std.specs.Prelude.{◌≡◌, ℕ, ◌+◌, ◌-◌, ◌*◌, List, [], ◌∷◌, length, map}
use Rattle.lang_meaning.specs.declared.primitive.Primitive.{Primitive}
use Rattle.lang_meaning.specs.Objects.{integer_class, domain_error_class}
use Rattle.mid_code.specs.Arena.{activation_frame, Arena, with_word}
use Rattle.mid_code.specs.State.{MidState, End, returns, no_room, MidOutcome, with_arena}
use Rattle.mid_code.specs.Meaning.{enter, levels}
use Rattle.mid_arena.specs.Tags.{nil_word, signal_word, character_word, instance_header}
use Rattle.mid_arena.specs.FixedWords.{pending_address}
use Rattle.mid_arena.specs.Codes.{frame_words, procedure_of}
use Rattle.mid_examples.specs.Addresses.{object_at, number, class_word}
use Rattle.mid_examples.specs.Ground.{with_room}
use Rattle.mid_examples.specs.Kinds.{some_integers, others_than}

-- a primitive is entered with words, at a level with turns for the loops of all rows
abbrev pub outcome : Primitive → List ℕ → MidState → MidOutcome
outcome which arguments z = levels [] 300 1 (enter (procedure_of which) arguments) z

-- what is seen of a run: its end, and then the arena, what was printed and the input that is left
pub record Seen : Type 0 where
  pub end : End
  pub arena : Arena
  pub printed : List ℕ
  pub input : List ℕ

abbrev pub seen : MidOutcome → Seen
seen r = record { end = r.end; arena = r.state.arena; printed = r.state.printed; input = r.state.input }

-- with this end all is as in a state
abbrev pub ended : End → MidState → Seen
ended end z = record { end = end; arena = z.arena; printed = z.printed; input = z.input }

-- the state where that is seen
abbrev pub after : Seen → MidState → MidState
after s z = record z { arena = s.arena; printed = s.printed; input = s.input }

-- words are stored from an address on
abbrev pub storing : ℕ → List ℕ → Arena → Arena
storing address [] a = a
storing address (w ∷ ws) a = storing (address + 4) ws (with_word address w a)

-- the heap has these words more
abbrev pub growing : List ℕ → Arena → Arena
growing words a = storing a.heap_to words (record a { heap_to = a.heap_to + 4 * length words })

-- it returns a word and changes nothing
abbrev pub gives : ℕ → MidState → Seen
gives word z = ended (returns word) z

-- it returns a word, and these words are stored from an address on
abbrev pub stores : ℕ → (address : ℕ) → List ℕ → MidState → Seen
stores word address words z = ended (returns word) (with_arena (storing address words z.arena) z)

-- it returns what points to new words of the heap, with a tag
abbrev pub makes : (tag : ℕ) → List ℕ → MidState → Seen
makes tag words z = ended (returns (z.arena.heap_to + tag)) (with_arena (growing words z.arena) z)

-- a condition of these words is made, and stands to be signalled
abbrev pub hands_over : List ℕ → MidState → Seen
hands_over words z =
    ended (returns signal_word) (with_arena (storing pending_address (object_at z.arena.heap_to ∷ []) (growing words z.arena)) z)

-- a domain error: the object that was given, and the class that was expected; its mark is nil
abbrev pub refuses : ℕ → (class : ℕ) → MidState → Seen
refuses word class = hands_over (instance_header 2 ∷ class_word domain_error_class ∷ word ∷ class_word class ∷ nil_word ∷ [])

-- another condition, without slots
abbrev pub signals : (class : ℕ) → MidState → Seen
signals class = hands_over (instance_header 0 ∷ class_word class ∷ nil_word ∷ [])

-- so many words are asked for, and so many are left; its frame stands, and nothing else has changed
abbrev pub wants : (asked left : ℕ) → MidState → Seen
wants asked left z =
    ended (no_room asked left)
    (with_arena (record z.arena { blocks = record { words = frame_words; kind = activation_frame } ∷ z.arena.blocks }) z)

-- run from a state, a primitive comes to that
abbrev pub RunsTo : MidState → Primitive → List ℕ → (MidState → Seen) → Type 0
RunsTo z which arguments change = seen (outcome which arguments z) ≡ change z

-- so it does where so many words are left beside its frame, and where there are enough for each row
abbrev pub RunsIn : (room : ℕ) → Primitive → List ℕ → (MidState → Seen) → Type 0
RunsIn room = RunsTo (with_room room)

abbrev pub ample : ℕ
ample = 16

abbrev pub RunsAlways : Primitive → List ℕ → (MidState → Seen) → Type 0
RunsAlways = RunsIn ample

-- so it does in the state that another row leaves
abbrev pub DoesThen : (MidState → Seen) → Primitive → List ℕ → (MidState → Seen) → Type 0
DoesThen earlier = RunsTo (after (earlier (with_room ample)) (with_room ample))

-- with each of these arguments it comes to the same
abbrev pub DoesAlike : Primitive → List (List ℕ) → (MidState → Seen) → Type 0
DoesAlike which rows change =
    map (λ arguments. seen (outcome which arguments (with_room ample))) rows ≡ map (λ arguments. change (with_room ample)) rows

-- each of these words is refused in its place among arguments, where one of that class is expected
abbrev pub RefusesEach : Primitive → (ℕ → List ℕ) → List ℕ → (class : ℕ) → Type 0
RefusesEach which arguments words class =
    map (λ w. seen (outcome which (arguments w) (with_room ample))) words ≡ map (λ w. refuses w class (with_room ample)) words

-- The words of a condition are the last ones that are left, or there is one less. A domain error takes five words, a condition without slots
-- three.
pub record FitsError (which : Primitive) (arguments : List ℕ) (word class : ℕ) : Type 0 where
  pub enough : RunsIn 5 which arguments (refuses word class)
  pub one_less : RunsIn 4 which arguments (wants 5 4)

pub record FitsCondition (which : Primitive) (arguments : List ℕ) (class : ℕ) : Type 0 where
  pub enough : RunsIn 3 which arguments (signals class)
  pub one_less : RunsIn 2 which arguments (wants 3 2)

-- so for an object of words that are made with a tag
pub record FitsObject (which : Primitive) (arguments : List ℕ) (tag : ℕ) (words : List ℕ) : Type 0 where
  pub enough : RunsIn (length words) which arguments (makes tag words)
  pub one_less : RunsIn (length words - 1) which arguments (wants (length words) (length words - 1))

-- a primitive of two integers refuses each other value, the first argument before the second
pub record NeedsIntegers (which : Primitive) : Type 0 where
  pub first : RefusesEach which (λ w. w ∷ number 1 ∷ []) (others_than some_integers) integer_class
  pub second : RefusesEach which (λ w. number 1 ∷ w ∷ []) (others_than some_integers) integer_class
  -- both, and the second one by zero
  pub first_of_two : RunsAlways which (character_word 65 ∷ nil_word ∷ []) (refuses (character_word 65) integer_class)
  pub before_zero : RunsAlways which (nil_word ∷ number 0 ∷ []) (refuses nil_word integer_class)
  pub first_fits : FitsError which (nil_word ∷ number 1 ∷ []) nil_word integer_class
  pub second_fits : FitsError which (number 1 ∷ nil_word ∷ []) nil_word integer_class
