-- The arena: the words of memory, of which some are lent to code. From low addresses to high ones stand the words laid beside
-- the code, the heap, which grows up, words that are left, and the stack, which grows down from the arena's end.
use Rattle.std.specs.Prelude.{ℕ, zero, suc, ◌+◌, ◌-◌, ◌*◌, ◌/◌, ◌%◌, Bool, true, false, ◌&&◌, ◌||◌, ◌==◌, nat_lt, nat_le, List, [], ◌∷◌, length, slice_get, slice_set, Option, Some, None, if◌then◌else◌}

-- a frame, which an activation has for itself, or a control record, which a cut may go to as long as it is open; a block that is only lent
-- is closed from the start
pub data BlockKind : Type 0 where
  activation_frame : BlockKind
  open_record : BlockKind
  closed_record : BlockKind

-- A block of the stack. The first words of a control record are its header, which is not lent: machine code keeps there the address
-- of the landing and the frame.
pub record Block : Type 0 where
  pub words : ℕ
  pub kind : BlockKind

abbrev pub is_record : BlockKind → Bool
is_record activation_frame = false
is_record open_record = true
is_record closed_record = true

abbrev pub is_open : BlockKind → Bool
is_open activation_frame = false
is_open open_record = true
is_open closed_record = false

-- how many words a header has
abbrev pub header_words : ℕ
header_words = 2

-- a control record with so many words that are lent
abbrev pub record_of : ℕ → Block
record_of words = record { words = words + header_words; kind = open_record }

-- a block that lends so many words, and that no cut goes to
abbrev pub lent_block : ℕ → Block
lent_block words = record { words = words + header_words; kind = closed_record }

-- The word at an address stands in `memory` at a fourth of the address; it is none as long as nothing was stored there since
-- the words were lent, so what code loads it has stored. The others but `blocks` are addresses: where the words laid beside the code
-- begin and end, and the heap. `blocks` are those of the stack, the innermost first.
pub record Arena : Type 0 where
  pub memory : List (Option ℕ)
  pub laid_from : ℕ
  pub laid_to : ℕ
  pub heap_from : ℕ
  pub heap_to : ℕ
  pub blocks : List Block

-- how many words blocks have
abbrev pub words_of : List Block → ℕ
words_of [] = 0
words_of (b ∷ bs) = b.words + words_of bs

-- the address at which the innermost of these blocks begins, in an arena of so many words; its end where there is none
abbrev pub begin_of : ℕ → List Block → ℕ
begin_of size bs = 4 * (size - words_of bs)

-- the address of the first word that is lent of the innermost of these blocks, a control record
abbrev pub lent_from : ℕ → List Block → ℕ
lent_from size bs = begin_of size bs + 4 * header_words

-- the address at which the stack begins
abbrev pub stack_from : Arena → ℕ
stack_from a = begin_of (length a.memory) a.blocks

-- how many words are left between heap and stack
abbrev pub left : Arena → ℕ
left a = (stack_from a - a.heap_to) / 4

-- whether an address is among those from one on and below another
abbrev pub is_within : ℕ → ℕ → ℕ → Bool
is_within from to address = nat_le from address && nat_lt address to

-- whether an address is among the words of a control record that are lent
abbrev pub is_in_record : ℕ → List Block → ℕ → Bool
is_in_record size [] address = false
is_in_record size (b ∷ bs) address =
    (is_record b.kind && is_within (lent_from size (b ∷ bs)) (begin_of size bs) address) || is_in_record size bs address

-- whether the word at an address is lent to code
abbrev pub is_lent : Arena → ℕ → Bool
is_lent a address =
    (address % 4 == 0)
    && (is_within a.laid_from a.laid_to address
    || is_within a.heap_from a.heap_to address
    || is_in_record (length a.memory) a.blocks address)

-- the word at a place that may have none, and may not be there
abbrev pub word_in : Option (Option ℕ) → Option ℕ
word_in None = None
word_in (Some word) = word

-- the word at an address that is lent
abbrev pub word_at : Arena → ℕ → Option ℕ
word_at a address = if is_lent a address then word_in (slice_get a.memory (address / 4)) else None

abbrev pub with_word : ℕ → ℕ → Arena → Arena
with_word address word a = record a { memory = slice_set a.memory (address / 4) (Some word) }

-- the memory with no words at so many places from one on
abbrev pub emptied : ℕ → ℕ → List (Option ℕ) → List (Option ℕ)
emptied place count [] = []
emptied zero zero (w ∷ ws) = w ∷ ws
emptied zero (suc n) (w ∷ ws) = None ∷ emptied zero n ws
emptied (suc i) n (w ∷ ws) = w ∷ emptied i n ws

-- so many words more in the heap
abbrev pub with_heap : ℕ → Arena → Arena
with_heap words a = record a { heap_to = a.heap_to + 4 * words; memory = emptied (a.heap_to / 4) words a.memory }

abbrev pub with_blocks : List Block → Arena → Arena
with_blocks bs a = record a { blocks = bs }

-- a new innermost block
abbrev pub with_new_block : Block → Arena → Arena
with_new_block b a = record a {
  blocks = b ∷ a.blocks;
  memory = emptied (begin_of (length a.memory) (b ∷ a.blocks) / 4) b.words a.memory;
}

-- the blocks from the innermost open record on whose first word that is lent stands at an address; none where there is none
abbrev pub blocks_from : ℕ → List Block → ℕ → Option (List Block)
blocks_from size [] address = None
blocks_from size (b ∷ bs) address =
    if is_open b.kind && (lent_from size (b ∷ bs) == address) then Some (b ∷ bs) else blocks_from size bs address

-- how many blocks stand outside the innermost one
abbrev pub outside_of : List Block → ℕ
outside_of [] = 0
outside_of (b ∷ bs) = length bs

-- the blocks outside the innermost one, which is a control record with so many outside; none where that is not so
abbrev pub blocks_outside : (outside : ℕ) → List Block → Option (List Block)
blocks_outside outside [] = None
blocks_outside outside (b ∷ bs) = if is_record b.kind && (length bs == outside) then Some bs else None

-- the blocks with the innermost one closed, which is an open record with so many outside; none where that is not so
abbrev pub blocks_closed : (outside : ℕ) → List Block → Option (List Block)
blocks_closed outside [] = None
blocks_closed outside (b ∷ bs) =
    if is_open b.kind && (length bs == outside) then Some (record b { kind = closed_record } ∷ bs) else None
