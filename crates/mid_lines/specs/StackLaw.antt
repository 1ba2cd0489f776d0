-- The law of the stack: at each stage of a run, of any program of lines, the blocks of the arena are those of the activations. An
-- activation has a frame and outside it the blocks of its caller, and inside it its control records that stand.
use Rattle.std.specs.Prelude.{◌≡◌, ℕ, ◌+◌, Bool, true, false, List, [], ◌∷◌, length, slice_get, Option, Some, None}
use Rattle.mid_code.specs.Arena.{Block, BlockKind, activation_frame, open_record, closed_record, header_words}
use Rattle.mid_code.specs.State.{MidState}
use Rattle.mid_lines.specs.declared.line.LineProcedure.{LineProcedure}
use Rattle.mid_lines.specs.declared.line.LineProgram.{LineProgram}
use Rattle.mid_lines.specs.LineMeaning.{Standing, Activation, Caller, Stage, running, entering, ended, begin, after}

-- the block of a record that stands
abbrev pub record_kind : (is_open : Bool) → BlockKind
record_kind true = open_record
record_kind false = closed_record

abbrev pub record_block : Standing → Block
record_block s = record { words = s.words + header_words; kind = record_kind s.is_open }

-- the frame of a procedure; it has no words where the procedure is not there
abbrev pub frame_in : Option LineProcedure → Block
frame_in None = record { words = 0; kind = activation_frame }
frame_in (Some p) = record { words = p.frame; kind = activation_frame }

abbrev pub frame_of : LineProgram → (number : ℕ) → Block
frame_of program number = frame_in (slice_get program.procedures number)

-- the blocks from these records of an activation on: those of the records, its frame, and the blocks of its caller
abbrev pub blocks_of : LineProgram → Activation → List Standing → List Block
blocks_of program a [] = frame_of program a.procedure ∷ a.outer
blocks_of program a (s ∷ records) = record_block s ∷ blocks_of program a records

-- each of these records says how many blocks stand outside it
abbrev pub BlocksAreCounted : LineProgram → Activation → List Standing → Type 0
BlocksAreCounted program a [] = Unit {0}
BlocksAreCounted program a (s ∷ records) = (s.outside ≡ length (blocks_of program a records)) × BlocksAreCounted program a records

-- an activation stands on these blocks
pub record StandsOn (program : LineProgram) (a : Activation) (blocks : List Block) : Type 0 where
  pub all : blocks ≡ blocks_of program a a.standing
  pub counted : BlocksAreCounted program a a.standing

-- the callers stand on these blocks, from the innermost on; outside them are the blocks with which the run began
abbrev pub CallersStandOn : LineProgram → (first : List Block) → List Caller → List Block → Type 0
CallersStandOn program first [] blocks = blocks ≡ first
CallersStandOn program first (c ∷ callers) blocks = StandsOn program c.activation blocks × CallersStandOn program first callers c.activation.outer

-- the activations of a stage stand on the blocks of its arena
abbrev pub StageStands : LineProgram → (first : List Block) → Stage → Type 0
StageStands program first (running a line rs callers z) = StandsOn program a z.arena.blocks × CallersStandOn program first callers a.outer
StageStands program first (entering number arguments callers z) = CallersStandOn program first callers z.arena.blocks
StageStands program first (ended e z) = Unit {0}

-- so it is at each stage of a run
abbrev pub LawOfStack : Type 0
LawOfStack =
    (program : LineProgram) (entry : ℕ) (arguments : List ℕ) (z : MidState) (steps : ℕ)
    → StageStands program z.arena.blocks (after program steps (begin entry arguments z))
