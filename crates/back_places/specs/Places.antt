-- Where words are, and what is decided about a program of lines before its instructions are: places, control records that stand at a
-- line, positions in the image.
use Rattle.std.specs.Prelude.{ℕ, ◌+◌, ◌*◌, Bool, true, false, nat_le, List, [], ◌∷◌, slice_index, if◌then◌else◌}
use Rattle.mid_code.specs.Arena.{header_words}
use Rattle.back_places.specs.declared.place.Place.{Place}

-- a record that stands at a line, as code knows it: a control record, by the words that it lends and the line of its landing, or a block
-- that is only lent, of any number of words
pub data StaticRecord : Type 0 where
  with_landing : (words landing : ℕ) → StaticRecord
  only_lent : StaticRecord

-- The way to the frame: so many words above the stack pointer; or as many above the stack pointer of before a block was lent, which is kept
-- in that block's header; or there is none.
pub data Way : Type 0 where
  from_stack : (depth : ℕ) → Way
  past_lent : (depth : ℕ) → Way
  no_way : Way

-- What is decided, by the number of a procedure, and by that of a line. Positions are numbers of words from the front of the image; at
-- its front stand the words laid beside the code, then the words in which arguments are passed, then code with its tables.
pub record Located : Type 0 where
  -- where a line reads a register, and where the word goes that it gives
  pub source : (number line register : ℕ) → Place
  pub target : (number line : ℕ) → Place
  -- where the entry puts parameters
  pub parameters : (number : ℕ) → List Place
  -- the records that stand at a line, the innermost first
  pub records : (number line : ℕ) → List StaticRecord
  -- whether register 1 still has the return address there; whether the procedure keeps it in the first word of its frame
  pub linked : (number line : ℕ) → Bool
  pub saves : (number : ℕ) → Bool
  -- whether the jump at a line is near enough for its short form
  pub near : (number line : ℕ) → Bool
  -- where a procedure's code begins, that of a line, and what stands behind the jump of a call
  pub entry_at : (number : ℕ) → ℕ
  pub line_at : (number line : ℕ) → ℕ
  pub back_at : (number line : ℕ) → ℕ
  -- where the table of a switch is
  pub table_at : (number line : ℕ) → ℕ
  -- the words of arguments and their number, the table of procedures, the code that ends a run behind the first procedure, and that which
  -- ends one for want of words
  pub arguments_at : ℕ
  pub argument_words : ℕ
  pub procedures_at : ℕ
  pub end_at : ℕ
  pub full_at : ℕ
  -- from where on, and up to where, code and its tables stand
  pub code_from : ℕ
  pub code_to : ℕ

-- the way past one record more
abbrev pub past_record : (words : ℕ) → Way → Way
past_record words (from_stack depth) = from_stack (words + depth)
past_record words (past_lent depth) = no_way
past_record words no_way = no_way

abbrev pub past_block : Way → Way
past_block (from_stack depth) = past_lent depth
past_block (past_lent depth) = no_way
past_block no_way = no_way

-- the way to the frame past the records that stand
abbrev pub way_of : List StaticRecord → Way
way_of [] = from_stack 0
way_of (with_landing words landing ∷ records) = past_record (words + header_words) (way_of records)
way_of (only_lent ∷ records) = past_block (way_of records)

abbrev pub way_at : Located → (number line : ℕ) → Way
way_at l number line = way_of (l.records number line)

-- how many words of the frame can be reached that way
abbrev pub reachable : Way → (frame : ℕ) → ℕ
reachable (from_stack depth) frame = frame
reachable (past_lent depth) frame = if nat_le (4 * (depth + frame)) 2048 then frame else 0
reachable no_way frame = 0

-- how many words records take
abbrev pub depth_in : Way → ℕ
depth_in (from_stack depth) = depth
depth_in (past_lent depth) = depth
depth_in no_way = 0

-- whether the way is from the stack pointer
abbrev pub is_from_stack : Way → Bool
is_from_stack (from_stack depth) = true
is_from_stack (past_lent depth) = false
is_from_stack no_way = false

-- the registers of values, in the order in which arguments are passed; the first one takes results, and the words of cuts too
abbrev pub value_registers : List ℕ
value_registers = 12 ∷ 13 ∷ 14 ∷ 15 ∷ 16 ∷ 8 ∷ 9 ∷ 18 ∷ 19 ∷ 20 ∷ 21 ∷ 22 ∷ 23 ∷ 24 ∷ []

-- the register in which an argument is passed
abbrev pub argument_register : ℕ → ℕ
argument_register i = slice_index value_registers i
