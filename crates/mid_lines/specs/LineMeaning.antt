-- What lines do: a machine with a stack of activations. It goes on line by line, over the states of middle code.
use Rattle.std.specs.Prelude.{ℕ, zero, suc, ◌+◌, Bool, true, false, ◌&&◌, not, ◌==◌, List, [], ◌∷◌, length, slice_get, slice_set, Option, Some, None, if◌then◌else◌}
use Rattle.mid_code.specs.declared.operation.Callee.{Callee}
use Rattle.mid_code.specs.declared.operation.Callee.TheVariants.{Procedure, Word}
use Rattle.mid_code.specs.declared.operation.Operation.{Operation}
use Rattle.mid_code.specs.declared.operation.Operation.TheVariants.{Call}
use Rattle.mid_code.specs.declared.operation.Test.{Test}
use Rattle.mid_code.specs.MidCode.{perform, return_word, cut_to, halt_with, end_unhandled}
use Rattle.mid_code.specs.Words.{compares}
use Rattle.mid_code.specs.Arena.{Block, activation_frame, record_of, lent_block, lent_from, with_blocks}
use Rattle.mid_code.specs.Checked.{is_block_size}
use Rattle.mid_code.specs.Costs.{operation_cost, test_cost, jump_cost, record_cost, entry_cost}
use Rattle.mid_code.specs.State.{Registers, first_registers, MidState, End, falls, returns, cuts, no_room, no_level, no_turn, halts, unhandled, exhausted, stuck, MidOutcome, ends, charged, with_arena, where_true, register}
use Rattle.mid_code.specs.Meaning.{lay, give_back, close, Context, context_of, exec_step}
use Rattle.mid_lines.specs.declared.line.Line.{Line}
use Rattle.mid_lines.specs.declared.line.Line.TheVariants.{Do, Branch, Switch, Jump, Lay, Landed, GiveBack, Lend, GiveBackLent, Return, Cut, Halt, Unhandled}
use Rattle.mid_lines.specs.declared.line.LineProcedure.{LineProcedure}
use Rattle.mid_lines.specs.declared.line.LineProgram.{LineProgram}
use Rattle.mid_lines.specs.Lines.{line_of}

-- A control record, or a block that is only lent, which an activation laid and did not give back: how many blocks stand outside, how many
-- words it lends, the line of its landing, which a block that is only lent has not, and whether a cut may go to it.
pub record Standing : Type 0 where
  pub outside : ℕ
  pub words : ℕ
  pub landing : Option ℕ
  pub is_open : Bool

-- an activation: the number of its procedure, the blocks of its caller, and its records that stand, the innermost first
pub record Activation : Type 0 where
  pub procedure : ℕ
  pub outer : List Block
  pub standing : List Standing

-- an activation with other records that stand
abbrev pub with_standing : List Standing → Activation → Activation
with_standing records a = record a { standing = records }

-- an activation that waits for a call: the line and the registers to go on with, and the register that takes the result
pub record Caller : Type 0 where
  pub activation : Activation
  pub line : ℕ
  pub registers : Registers
  pub result : ℕ

-- A stage of a run: an activation at a line with its registers, or a procedure that is entered with arguments, above the callers,
-- the innermost first; or the end.
pub data Stage : Type 0 where
  running : Activation → (line : ℕ) → Registers → List Caller → MidState → Stage
  entering : (procedure : ℕ) → (arguments : List ℕ) → List Caller → MidState → Stage
  ended : End → MidState → Stage

-- the state of a stage
abbrev pub state_of : Stage → MidState
state_of (running a line rs callers z) = z
state_of (entering number arguments callers z) = z
state_of (ended e z) = z

-- where a run begins: a procedure is entered with arguments, above no caller
abbrev pub begin : (entry : ℕ) → (arguments : List ℕ) → MidState → Stage
begin entry arguments z = entering entry arguments [] z

-- ends of activations

-- a word is returned to the innermost caller; where there is none, the run ends
abbrev pub return_to : List Caller → (word : ℕ) → MidState → Stage
return_to [] word z = ended (returns word) z
return_to (c ∷ callers) word z = running c.activation c.line (slice_set c.registers c.result (Some word)) callers z

-- the records of an activation from the open one on that has so many blocks outside; no records where there is none
abbrev pub standing_from : (outside : ℕ) → List Standing → List Standing
standing_from outside [] = []
standing_from outside (s ∷ records) = if s.is_open && (outside == s.outside) then s ∷ records else standing_from outside records

-- a record that no cut goes to any more
abbrev pub closed : Standing → Standing
closed s = record s { is_open = false }

-- an activation goes on at a line where something fell out; every other end ends the run
abbrev pub arrive_from : End → Activation → (line : ℕ) → Registers → List Caller → MidState → Stage
arrive_from falls a line rs callers z = running a line rs callers z
arrive_from e a line rs callers z = ended e z

abbrev pub arrive : Activation → (line : ℕ) → List Caller → MidOutcome → Stage
arrive a line callers r = arrive_from r.end a line r.registers callers r.state

-- The head of the landing, at a line, of a record with so many blocks outside, with the word of the cut: the record is closed, and the word
-- is in the register.
abbrev pub land_at : Option Line → (landing word outside : ℕ) → Activation → Registers → List Caller → MidState → Stage
land_at (Some (Landed r)) landing word outside a rs callers z =
    arrive a (landing + 1) callers (close outside (λ rs' y. ends falls (slice_set rs' r (Some word)) y) rs z)
land_at line landing word outside a rs callers z = ended stuck z

-- the landing of a record, where it has one
abbrev pub land_in : LineProgram → (landing : Option ℕ) → (word outside : ℕ) → Activation → Registers → List Caller → MidState → Stage
land_in program None word outside a rs callers z = ended stuck z
land_in program (Some landing) word outside a rs callers z = land_at (line_of program a.procedure landing) landing word outside a rs callers z

-- the landing of the first of these records of an activation, and something else where there is none
abbrev pub land : LineProgram → (word : ℕ) → List Standing → Activation → Registers → List Caller → MidState → (otherwise : Stage) → Stage
land program word [] a rs callers z otherwise = otherwise
land program word (s ∷ records) a rs callers z otherwise =
    land_in program s.landing word s.outside (with_standing (closed s ∷ records) a) rs callers z

-- A cut to the block that has so many outside. The record is sought in the callers, from the innermost on; the activations above the one
-- that laid it end.
abbrev pub cut_outwards : LineProgram → (outside word : ℕ) → List Caller → MidState → Stage
cut_outwards program outside word [] z = ended stuck z
cut_outwards program outside word (c ∷ callers) z =
    land program word (standing_from outside c.activation.standing) c.activation c.registers callers z (cut_outwards program outside word callers z)

-- the same, and the record is sought first in an activation above the callers
abbrev pub cut_from : LineProgram → (outside word : ℕ) → Activation → Registers → List Caller → MidState → Stage
cut_from program outside word a rs callers z =
    land program word (standing_from outside a.standing) a rs callers z (cut_outwards program outside word callers z)

-- What comes after an end in an activation: where something fell out it goes on at a line, and where it returned or cut, elsewhere.
abbrev pub proceed_from : LineProgram → End → Activation → (line : ℕ) → Registers → List Caller → MidState → Stage
proceed_from program falls a line rs callers z = running a line rs callers z
proceed_from program (returns w) a line rs callers z = return_to callers w (with_arena (with_blocks a.outer z.arena) z)
proceed_from program (cuts n w) a line rs callers z = cut_from program n w a rs callers z
proceed_from program (no_room asked left) a line rs callers z = ended (no_room asked left) z
proceed_from program no_level a line rs callers z = ended no_level z
proceed_from program no_turn a line rs callers z = ended no_turn z
proceed_from program (halts w) a line rs callers z = ended (halts w) z
proceed_from program (unhandled class site condition) a line rs callers z = ended (unhandled class site condition) z
proceed_from program exhausted a line rs callers z = ended exhausted z
proceed_from program stuck a line rs callers z = ended stuck z

unfoldable pub proceed : LineProgram → Activation → (line : ℕ) → List Caller → MidOutcome → Stage
proceed program a line callers r = proceed_from program r.end a line r.registers callers r.state

-- entries

-- the frame of a procedure is laid, and its first line is next
abbrev pub enter_at : Option LineProcedure → (number : ℕ) → (arguments : List ℕ) → List Caller → MidState → Stage
enter_at None number arguments callers z = ended stuck z
enter_at (Some p) number arguments callers z =
    arrive (record { procedure = number; outer = z.arena.blocks; standing = [] }) 0 callers
    (where_true (length arguments == p.parameters) (lay (record { words = p.frame; kind = activation_frame }) (ends falls))
    (first_registers p.registers arguments) (charged (entry_cost p.parameters) z))

-- lines

-- A line that is also a step of the tree does what the step does, in this context: there is no procedure, and no task below or further.
abbrev pub alone : Context
alone = context_of [] (λ task z. ends stuck [] z) (λ task z. ends stuck [] z)

-- two words compared; none where one of them is none
abbrev pub both : Option ℕ → Option ℕ → (ℕ → ℕ → Bool) → Option Bool
both None second compare = None
both (Some a) None compare = None
both (Some a) (Some b) compare = Some (compare a b)

-- whether a test holds; none where a register was not set
abbrev pub holds : Test → Registers → Option Bool
holds t rs = both (register t.first rs) (register t.second rs) (compares t.comparison)

-- the next line where a test holds, else another one; it is stuck where a register was not set
abbrev pub branch : Option Bool → Activation → (next otherwise : ℕ) → Registers → List Caller → MidState → Stage
branch None a next otherwise rs callers z = ended stuck z
branch (Some true) a next otherwise rs callers z = running a next rs callers z
branch (Some false) a next otherwise rs callers z = running a otherwise rs callers z

-- a word before others; none where one of them is none
abbrev pub words_before : Option ℕ → Option (List ℕ) → Option (List ℕ)
words_before None words = None
words_before (Some w) None = None
words_before (Some w) (Some words) = Some (w ∷ words)

-- the words in registers; none where one was not set
abbrev pub words_in : List ℕ → Registers → Option (List ℕ)
words_in [] rs = Some []
words_in (r ∷ more) rs = words_before (register r rs) (words_in more rs)

-- the number of the procedure that is called; none where the register was not set
abbrev pub callee_in : Callee → Registers → Option ℕ
callee_in (Procedure n) rs = Some n
callee_in (Word r) rs = register r rs

-- a call of the procedure of that number with those arguments, above these callers; it is stuck where they are none
abbrev pub call : Option (List ℕ) → Option ℕ → List Caller → MidState → Stage
call None callee callers z = ended stuck z
call (Some words) None callers z = ended stuck z
call (Some words) (Some number) callers z = entering number words callers z

-- An operation. A call waits, with the next line to go on at; every other one does what the step does.
abbrev pub perform_at : LineProgram → Operation → Activation → (line : ℕ) → Registers → List Caller → MidState → Stage
perform_at program (Call to callee arguments) a line rs callers z =
    call (words_in arguments rs) (callee_in callee rs) (record { activation = a; line = line + 1; registers = rs; result = to } ∷ callers)
    (charged (operation_cost (Call to callee arguments)) z)
perform_at program o a line rs callers z = proceed program a (line + 1) callers (exec_step alone (perform o) rs z)

-- the line of a number in a table of lines; none where the register was not set, and past the last one
abbrev pub target_in : List ℕ → Option ℕ → Option ℕ
target_in targets None = None
target_in targets (Some n) = slice_get targets n

abbrev pub switch_to : Option ℕ → Activation → Registers → List Caller → MidState → Stage
switch_to None a rs callers z = ended stuck z
switch_to (Some line) a rs callers z = running a line rs callers z

-- a block of as many words as a register says is lent, with its address in a register
abbrev pub lend_at : (block : ℕ) → (words : Option ℕ) → Activation → (line : ℕ) → Registers → List Caller → MidState → Stage
lend_at block None a line rs callers z = ended stuck z
lend_at block (Some words) a line rs callers z =
    arrive (with_standing (record { outside = length z.arena.blocks; words = words; landing = None; is_open = false } ∷ a.standing) a) line callers
    (where_true (is_block_size words)
    (lay (lent_block words) (λ rs' y. ends falls (slice_set rs' block (Some (lent_from (length y.arena.memory) y.arena.blocks))) y)) rs z)

abbrev pub has_landing : Option ℕ → Bool
has_landing None = false
has_landing (Some landing) = true

-- whether what stands is a control record that lends so many words, and whether it is only lent
abbrev pub is_record_of : (words : ℕ) → Standing → Bool
is_record_of words s = has_landing s.landing && (words == s.words)

abbrev pub is_only_lent : Standing → Bool
is_only_lent s = not (has_landing s.landing)

-- the innermost record of the activation, which is such a one, is given back
abbrev pub give_back_at : (is_such : Standing → Bool) → List Standing → Activation → (line : ℕ) → Registers → List Caller → MidState → Stage
give_back_at is_such [] a line rs callers z = ended stuck z
give_back_at is_such (s ∷ records) a line rs callers z =
    if is_such s then arrive (with_standing records a) (line + 1) callers (give_back s.outside rs z) else ended stuck z

-- What an activation does at a line. Behind the last line it is stuck, and at the head of a landing too, where only a cut leads.
abbrev pub do_line : LineProgram → Option Line → Activation → (line : ℕ) → Registers → List Caller → MidState → Stage
do_line program None a line rs callers z = ended stuck z
do_line program (Some (Do o)) a line rs callers z = perform_at program o a line rs callers z
do_line program (Some (Branch t otherwise)) a line rs callers z = branch (holds t rs) a (line + 1) otherwise rs callers (charged test_cost z)
do_line program (Some (Switch r targets)) a line rs callers z = switch_to (target_in targets (register r rs)) a rs callers (charged test_cost z)
do_line program (Some (Jump to)) a line rs callers z = running a to rs callers (charged jump_cost z)
do_line program (Some (Lay block words landing)) a line rs callers z =
    arrive (with_standing (record { outside = length z.arena.blocks; words = words; landing = Some landing; is_open = true } ∷ a.standing) a) (line + 1) callers
    (lay (record_of words) (λ rs' y. ends falls (slice_set rs' block (Some (lent_from (length y.arena.memory) y.arena.blocks))) y) rs (charged record_cost z))
do_line program (Some (Landed r)) a line rs callers z = ended stuck z
do_line program (Some (GiveBack words)) a line rs callers z = give_back_at (is_record_of words) a.standing a line rs callers z
do_line program (Some (Lend block words)) a line rs callers z = lend_at block (register words rs) a (line + 1) rs callers (charged record_cost z)
do_line program (Some GiveBackLent) a line rs callers z = give_back_at is_only_lent a.standing a line rs callers z
do_line program (Some (Return r)) a line rs callers z = proceed program a (line + 1) callers (exec_step alone (return_word r) rs z)
do_line program (Some (Cut block word)) a line rs callers z = proceed program a (line + 1) callers (exec_step alone (cut_to block word) rs z)
do_line program (Some (Halt r)) a line rs callers z = proceed program a (line + 1) callers (exec_step alone (halt_with r) rs z)
do_line program (Some (Unhandled class site condition)) a line rs callers z = proceed program a (line + 1) callers (exec_step alone (end_unhandled class site condition) rs z)

-- the stage one step later; an end stays
abbrev pub next : LineProgram → Stage → Stage
next program (running a line rs callers z) = do_line program (line_of program a.procedure line) a line rs callers z
next program (entering number arguments callers z) = enter_at (slice_get program.procedures number) number arguments callers z
next program (ended e z) = ended e z

-- the stage so many steps later
unfoldable pub after : LineProgram → ℕ → Stage → Stage
after program zero s = s
after program (suc n) s = after program n (next program s)
