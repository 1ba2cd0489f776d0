-- The words of an image, and the states of middle code with which its runs begin.
use Rattle.std.specs.Prelude.{◌≡◌, ◌<◌, ◌≤◌, ℕ, ◌+◌, ◌-◌, ◌*◌, ◌%◌, ◌^◌, true, List, [], ◌++◌, length, map, replicate, slice_get, slice_index, Option, Some, None}
use Rattle.rv_encode.specs.declared.instruction.Instr.{Instr}
use Rattle.mid_code.specs.Arena.{is_lent}
use Rattle.mid_code.specs.State.{MidState}
use Rattle.mid_lines.specs.declared.line.LineProgram.{LineProgram}
use Rattle.back_places.specs.Places.{Located}
use Rattle.back_places.specs.Selection.{far_jump_code}
use Rattle.back_places.specs.Relation.{HasProgram, Stands}

-- the jump at a position to the procedure in which a run begins, with the address behind it in register 1
abbrev pub start_code : Located → (at entry : ℕ) → List Instr
start_code l at entry = far_jump_code 1 at (l.entry_at entry)

-- The words of an image have the code of a program with its tables, and at a position the jump to a procedure; behind it stands the code that
-- ends a run.
pub record HasStart (program : LineProgram) (l : Located) (at entry : ℕ) (image : List ℕ) : Type 0 where
  pub code : HasProgram program l image
  pub start : Stands l image at (start_code l at entry)
  pub behind : l.end_at ≡ at + 2
  pub are_words : (i : ℕ) → slice_index image i < 2 ^ 32
  pub whole : l.code_to ≤ length image
  pub arguments : l.arguments_at + l.argument_words ≤ l.code_from

-- A state of middle code with which a run of an image begins, in an arena of so many words, with this input. The words that it has are those of
-- the image, the heap ends behind it, and no block stands.
pub record IsFirst (l : Located) (image : List ℕ) (arena : ℕ) (input : List ℕ) (z : MidState) : Type 0 where
  pub size : length z.arena.memory ≡ arena
  pub small : arena ≤ 2 ^ 24
  pub room : length image ≤ arena
  pub lent : (i w : ℕ) → is_lent z.arena (4 * i) ≡ true → slice_get z.arena.memory i ≡ Some (Some w) → slice_index image i ≡ w
  pub laid_below : z.arena.laid_to ≤ 4 * l.arguments_at
  pub heap_above : 4 * l.code_to ≤ z.arena.heap_from
  pub aligned : z.arena.heap_from % 4 ≡ 0
  pub grown : z.arena.heap_from ≤ z.arena.heap_to
  pub heap : z.arena.heap_to ≡ 4 * length image
  pub no_block : z.arena.blocks ≡ []
  pub printed : z.printed ≡ []
  pub input_is : z.input ≡ input
  pub input_small : (i : ℕ) → slice_index input i < 2 ^ 32

-- the state with these words laid beside the code, at the front of an image of so many words, and with an empty heap
abbrev pub first_state : (laid : List ℕ) (image_words arena : ℕ) (input : List ℕ) → MidState
first_state laid image_words arena input = record {
  arena = record {
    memory = map (λ w. Some w) laid ++ replicate {A = Option ℕ} (arena - length laid) None;
    laid_from = 0;
    laid_to = 4 * length laid;
    heap_from = 4 * image_words;
    heap_to = 4 * image_words;
    blocks = [];
  };
  printed = [];
  input = input;
  cost = 0;
}
