-- Spots that stand in an arena apart from one another, and what the words there are.
use Rattle.std.specs.Prelude.{◌≡◌, ℕ, ◌+◌, ◌*◌, ◌%◌, ◌^◌, ◌<◌, ◌≤◌, false, List, length, Option, Some, None, slice_index_or}
use Rattle.lang_meaning.specs.Values.{Value, nil}
use Rattle.mid_code.specs.Arena.{Arena, words_of, stack_from, word_at}
use Rattle.mid_arena.specs.Tags.{unbound_word}
use Rattle.mid_arena.specs.Places.{Spot, end_of, Places, Owner, same_owner, spot_of, word_of}

-- an arena of at most 2 ^ 24 words, in which the laid words, the heap and the stack stand in this order and do not meet
pub record ArenaStands (a : Arena) : Type 0 where
  pub size : length a.memory ≤ 2 ^ 24
  pub laid : a.laid_to ≤ a.heap_from
  pub heap : a.heap_from ≤ a.heap_to
  pub aligned : a.heap_to % 4 ≡ 0
  pub room : a.heap_to ≤ stack_from a
  pub blocks : words_of a.blocks ≤ length a.memory

-- a spot is among the words laid beside the code, or in the heap
pub data IsLentPart (a : Arena) (s : Spot) : Type 0 where
  of_laid : a.laid_from ≤ s.address → end_of s ≤ a.laid_to → IsLentPart a s
  of_heap : a.heap_from ≤ s.address → end_of s ≤ a.heap_to → IsLentPart a s

pub record SpotStands (a : Arena) (s : Spot) : Type 0 where
  pub aligned : s.address % 4 ≡ 0
  pub some : 1 ≤ s.words
  pub tag : s.tag < 4
  pub part : IsLentPart a s

-- one ends before the other begins
pub data Apart (s r : Spot) : Type 0 where
  in_front : end_of s ≤ r.address → Apart s r
  behind : end_of r ≤ s.address → Apart s r

-- the spots of different things are apart
abbrev pub AllApart : Places → Type 0
AllApart places =
    (p q : Owner) (s r : Spot) → same_owner p q ≡ false → spot_of places p ≡ Some s → spot_of places q ≡ Some r → Apart s r

-- the same words stand in a spot
abbrev pub SameWords : Arena → Arena → Spot → Type 0
SameWords earlier later s =
    (address : ℕ) → s.address ≤ address → address < end_of s → word_at later address ≡ word_at earlier address

-- The same words stand in the control records of blocks that stood and still stand: from the beginnings of both stacks on.
abbrev pub SameStack : Arena → Arena → Type 0
SameStack earlier later =
    (address : ℕ) → stack_from earlier ≤ address → stack_from later ≤ address → word_at later address ≡ word_at earlier address

-- a value's word stands at an address
pub record ValueAt (places : Places) (a : Arena) (address : ℕ) (v : Value) : Type 0 where
  pub word : ℕ
  pub of_value : word_of places v ≡ Some word
  pub stands : word_at a address ≡ Some word

-- what a slot has stands at an address: the word of its value, or the one that says that it has none
abbrev pub SlotAt : Places → Arena → ℕ → Option Value → Type 0
SlotAt places a address None = word_at a address ≡ Some unbound_word
SlotAt places a address (Some v) = ValueAt places a address v

-- values one after another
abbrev pub ValuesAt : Places → Arena → ℕ → List Value → Type 0
ValuesAt places a address vs = (i : ℕ) → i < length vs → ValueAt places a (address + 4 * i) (slice_index_or vs i nil)

abbrev pub SlotsAt : Places → Arena → ℕ → List (Option Value) → Type 0
SlotsAt places a address vs = (i : ℕ) → i < length vs → SlotAt places a (address + 4 * i) (slice_index_or vs i None)
