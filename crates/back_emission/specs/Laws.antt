-- The laws of code that reads and moves words, wherever they are, and of what it leaves.
use Rattle.std.specs.Prelude.{◌≡◌, ◌<◌, ◌≤◌, ℕ, ◌+◌, ◌-◌, ◌*◌, ◌%◌, ◌^◌, Bool, true, not, nat_lt, List, length, Some, slice_index}
use Rattle.base.specs.Arithmetic.{sum32, less_signed}
use Rattle.rv_encode.specs.declared.instruction.Instr.{Instr}
use Rattle.rv_machine.specs.Arithmetic.{sign_extended, even}
use Rattle.rv_machine.specs.State.{State, register}
use Rattle.rv_machine.specs.Step.{execute, gives, branch}
use Rattle.rv_machine.specs.Run.{Moment}
use Rattle.mid_code.specs.declared.operation.Arithmetic.{Arithmetic}
use Rattle.mid_code.specs.declared.operation.Comparison.{Comparison}
use Rattle.mid_code.specs.Arena.{Arena, Block, is_lent}
use Rattle.mid_code.specs.State.{Registers, MidState, charged}
use Rattle.mid_code.specs.Words.{computed, compares}
use Rattle.mid_lines.specs.declared.line.LineProgram.{LineProgram}
use Rattle.mid_lines.specs.LineMeaning.{Activation, Caller}
use Rattle.mid_lines.specs.StackLaw.{frame_of, StandsOn, CallersStandOn}
use Rattle.back_places.specs.declared.place.Place.{Place}
use Rattle.back_places.specs.Places.{StaticRecord, Located, Way, way_of, reachable}
use Rattle.back_places.specs.Operands.{high_part, low_part, load_into, read_in, read_code, move_code}
use Rattle.back_places.specs.Selection.{arithmetic_of, immediate_of, branch_unless, branch_where, branch_offset, jump_offset, far_offset, WithinBranch, WithinJump}
use Rattle.back_places.specs.Facts.{IsPlace, CanHold}
use Rattle.back_places.specs.Good.{IsGood}
use Rattle.back_places.specs.Relation.{IsAt, Stands, base_of, InForm, IsPrivate, Point}
use Rattle.back_places.specs.StepLaw.{Comes, Known}
use Rattle.back_emission.specs.Arriving.{Given, Arrives}
use Rattle.back_emission.specs.Moments.{AreSmall, Ready, Frame, Prepared}

-- from a moment to a second, and from there to a third
abbrev pub LawOfComing : Type 0
LawOfComing = (a b : ℕ) (m m' m'' : Moment) → Comes a m m' → Comes b m' m'' → Comes (a + b) m m''

-- an operand is read from its place
abbrev pub LawOfReading : Type 0
LawOfReading =
    (words registers : List ℕ) (way : Way) (base frame scratch : ℕ) (p : Place) (w : ℕ) → AreSmall words → Ready registers
    → Frame registers words way base frame → IsPlace (reachable way frame) p → 0 < scratch → scratch < 7 → IsAt registers words base p w
    → Prepared words registers (read_code way scratch p) (read_in scratch p) w scratch

-- a word comes from its place into a register
abbrev pub LawOfLoading : Type 0
LawOfLoading =
    (words registers : List ℕ) (way : Way) (base frame to : ℕ) (p : Place) (w : ℕ) → AreSmall words → Ready registers → w < 2 ^ 32
    → Frame registers words way base frame → IsPlace (reachable way frame) p → 0 < to → to < 32 → (to ≡ 7 → ⊥) → IsAt registers words base p w
    → Prepared words registers (load_into way to p) to w to

-- instructions compute what operations compute
pub record LawOfInstructions : Type 0 where
  pub arithmetic : (o : Arithmetic) (to a b : ℕ) (s : State) → execute (arithmetic_of o to a b) s ≡ gives to (computed o (register s a) (register s b)) s
  pub immediate :
      (o : Arithmetic) (to a w : ℕ) (i : Instr) (s : State) → w < 2 ^ 32 → immediate_of o to a w ≡ Some i
      → execute i s ≡ gives to (computed o (register s a) w) s
  pub unless :
      (c : Comparison) (a b offset : ℕ) (s : State)
      → execute (branch_unless c a b offset) s ≡ branch (not (compares c (register s a) (register s b))) offset s
  pub branches_where :
      (c : Comparison) (a b offset : ℕ) (s : State) → execute (branch_where c a b offset) s ≡ branch (compares c (register s a) (register s b)) offset s
  pub room :
      (sp hp words : ℕ) → hp ≤ sp → sp ≤ 2 ^ 26 → words ≤ 2 ^ 24 + 2
      → less_signed ((sp + (2 ^ 32 - 4 * words)) % 2 ^ 32) hp ≡ nat_lt sp (hp + 4 * words)

-- branches and jumps come where they go
pub record LawOfReach : Type 0 where
  pub branches :
      (from to : ℕ) → from < 2 ^ 24 → to < 2 ^ 24 → WithinBranch from to
      → sum32 (4 * from) (sign_extended 13 (branch_offset from to)) ≡ 4 * to
  pub jumps :
      (from to : ℕ) → from < 2 ^ 24 → to < 2 ^ 24 → WithinJump from to
      → sum32 (4 * from) (sign_extended 21 (jump_offset from to)) ≡ 4 * to
  pub anywhere :
      (from to : ℕ) → from < 2 ^ 24 → to < 2 ^ 24
      → even (sum32 (sum32 (4 * from) (high_part (far_offset from to) * 4096)) (sign_extended 12 (low_part (far_offset from to)))) ≡ 4 * to

-- no word that is lent is private
abbrev pub LawOfLentWords : Type 0
LawOfLentWords = (a : Arena) (i : ℕ) → InForm a → is_lent a (4 * i) ≡ true → IsPrivate (length a.memory) a.blocks i → ⊥

-- The code that moves a word brings the machine from a point of an activation to a line of it, at which what is known is so.
abbrev pub LawOfMoving : Type 0
LawOfMoving =
    (program : LineProgram) (l : Located) (known : (number line register : ℕ) → Place → Bool) (first : List Block) → IsGood program l (Known known)
    → (a : Activation) (at : ℕ) (stand : List StaticRecord) (line' w : ℕ) (from target : Place) (rs' : Registers) (callers : List Caller) (z : MidState) (cost : ℕ) (m : Moment)
    → StandsOn program a z.arena.blocks × CallersStandOn program first callers a.outer → (r : Point program l (Known known) first a at stand callers z m)
    → IsPlace (reachable (way_of stand) (frame_of program a.procedure).words) target → IsPlace (reachable (way_of stand) (frame_of program a.procedure).words) from
    → CanHold target w → IsAt m.state.registers r.words (base_of program (length z.arena.memory) a) from w
    → Stands l r.words at (move_code (way_of stand) from target)
    → l.line_at a.procedure line' ≡ at + length (move_code (way_of stand) from target)
    → Arrives program l (Known known) first a z m.state.registers r.words line' rs' target w
    → (l.linked a.procedure line' ≡ true → slice_index m.state.registers 1 ≡ r.link) → l.records a.procedure line' ≡ stand
    → Given program l (Known known) first a line' rs' callers (charged cost z) m (length (move_code (way_of stand) from target))
