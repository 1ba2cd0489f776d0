-- The instructions of each kind of line, and of the entry of a procedure.
use Rattle.std.specs.Prelude.{ℕ, ◌+◌, ◌-◌, ◌*◌, ◌^◌, Bool, true, false, ◌&&◌, ◌==◌, nat_lt, List, [], ◌∷◌, ◌++◌, length, map, if◌then◌else◌}
use Rattle.rv_encode.specs.declared.instruction.Instr.{Instr}
use Rattle.rv_encode.specs.declared.instruction.Instr.TheVariants.{Lui, Jalr, Beq, Bge, Bgeu, Lw, Sw, Addi, Add, Sub, Slli, Srli, Ecall}
use Rattle.mid_code.specs.declared.operation.Callee.{Callee}
use Rattle.mid_code.specs.declared.operation.Callee.TheVariants.{Procedure, Word}
use Rattle.mid_code.specs.declared.operation.Operation.{Operation}
use Rattle.mid_code.specs.declared.operation.Operation.TheVariants as operation
use Rattle.mid_code.specs.Arena.{header_words}
use Rattle.mid_lines.specs.declared.line.Line.{Line}
use Rattle.mid_lines.specs.declared.line.Line.TheVariants.{Do, Branch, Switch, Jump, Lay, Landed, GiveBack, Lend, GiveBackLent, Return, Cut, Halt, Unhandled}
use Rattle.back_places.specs.declared.place.Place.{Place}
use Rattle.back_places.specs.declared.place.Place.TheVariants.{InRegister, InSlot, AsConstant}
use Rattle.back_places.specs.Places.{Located, Way, way_at, depth_in}
use Rattle.back_places.specs.Operands.{high_part, low_part, address_code, at_slot, load_into, read_in, read_code, given_in, keep_code, move_code}
use Rattle.back_places.specs.Selection.{compute_code, branch_code, jump_code, low_12}
use Rattle.back_places.specs.Passing.{pass_code, parameters_code}
use Rattle.back_places.specs.Blocks.{raise_code, room_code, full_here_code}

-- Words of the heap: as many as a constant says, or as many as are in register 10. Without room the run ends.
abbrev pub few_requested_code : (way : Way) → (words : ℕ) → (target : Place) → List Instr
few_requested_code way words target =
    Addi 5 3 (4 * words) ∷ Bgeu 2 5 24 ∷ Addi 10 0 words ∷ full_here_code ++ (move_code way (InRegister 3) target ++ Addi 3 5 0 ∷ [])

abbrev pub requested_code : (way : Way) → (target : Place) → List Instr
requested_code way target =
    Sub 11 2 3 ∷ Srli 11 11 2 ∷ Bgeu 11 10 12 ∷ Addi 17 0 4 ∷ Ecall ∷ Addi 5 3 0 ∷ Slli 10 10 2 ∷ Add 3 3 10 ∷ move_code way (InRegister 5) target

abbrev pub request_code : (way : Way) → (words target : Place) → List Instr
request_code way (InRegister r) target = load_into way 10 (InRegister r) ++ requested_code way target
request_code way (InSlot k) target = load_into way 10 (InSlot k) ++ requested_code way target
request_code way (AsConstant w) target =
    if nat_lt w 512 then few_requested_code way w target else load_into way 10 (AsConstant w) ++ requested_code way target

-- the return address from the frame, unless it is in its register
abbrev pub link_code : (way : Way) → (linked : Bool) → List Instr
link_code way true = []
link_code way false = at_slot way 0 (Lw 1)

-- the jump to the procedure whose number is in register 6, by the table of procedures
abbrev pub table_jump_code : (table : ℕ) → List Instr
table_jump_code table = Slli 6 6 2 ∷ Lui 7 (high_part (4 * table)) ∷ Add 6 6 7 ∷ Lw 6 6 (low_part (4 * table)) ∷ Jalr 1 6 0 ∷ []

module _ (l : Located) where
  -- where a line reads registers
  abbrev pub sources : (number line : ℕ) → List ℕ → List Place
  sources number line registers = map (l.source number line) registers

  -- The code of a call up to the jump. The number of a procedure in a register is read before arguments are passed.
  abbrev pub before_call_code : (number line : ℕ) → Callee → (arguments : List ℕ) → List Instr
  before_call_code number line (Procedure n) arguments = pass_code l.arguments_at (way_at l number line) (sources number line arguments)
  before_call_code number line (Word r) arguments =
      load_into (way_at l number line) 6 (l.source number line r)
      ++ pass_code l.arguments_at (way_at l number line) (sources number line arguments)

  abbrev pub call_jump_code : (number line from : ℕ) → Callee → List Instr
  call_jump_code number line from (Procedure n) = jump_code (l.near number line) 1 from (l.entry_at n)
  call_jump_code number line from (Word r) = table_jump_code l.procedures_at

  abbrev pub call_code : (number line : ℕ) → Callee → (arguments : List ℕ) → List Instr
  call_code number line callee arguments =
      before_call_code number line callee arguments
      ++ call_jump_code number line (l.line_at number line + length (before_call_code number line callee arguments)) callee

  -- behind the jump of a call, and at a landing: the word in register 12 comes to its place
  abbrev pub taken_code : (number line : ℕ) → List Instr
  taken_code number line = move_code (way_at l number line) (InRegister 12) (l.target number line)

  -- An operation. A draw where the last serial number was 2^32 - 1, and one more is 0, is a branch to itself: the machine waits for ever.
  abbrev pub operation_code : (number line : ℕ) → Operation → List Instr
  operation_code number line (operation.Move to from) = move_code (way_at l number line) (l.source number line from) (l.target number line)
  operation_code number line (operation.Constant to word) = move_code (way_at l number line) (AsConstant word) (l.target number line)
  operation_code number line (operation.Compute to which first second) =
      compute_code (way_at l number line) (l.source number line first) (l.source number line second) (l.target number line) which
  operation_code number line (operation.Load to base offset) =
      read_code (way_at l number line) 5 (l.source number line base)
      ++ (Lw (given_in (l.target number line)) (read_in 5 (l.source number line base)) (low_12 offset) ∷ keep_code (way_at l number line) (l.target number line))
  operation_code number line (operation.Store from base offset) =
      read_code (way_at l number line) 5 (l.source number line from)
      ++ (read_code (way_at l number line) 6 (l.source number line base)
      ++ (Sw (read_in 5 (l.source number line from)) (read_in 6 (l.source number line base)) (low_12 offset) ∷ []))
  operation_code number line (operation.Request to words) = request_code (way_at l number line) (l.source number line words) (l.target number line)
  operation_code number line (operation.Draw to base offset) =
      read_code (way_at l number line) 6 (l.source number line base)
      ++ (Lw 5 (read_in 6 (l.source number line base)) (low_12 offset) ∷ Addi 5 5 1 ∷ Beq 5 0 0
      ∷ Sw 5 (read_in 6 (l.source number line base)) (low_12 offset) ∷ move_code (way_at l number line) (InRegister 5) (l.target number line))
  operation_code number line (operation.Put from) = load_into (way_at l number line) 10 (l.source number line from) ++ Addi 17 0 1 ∷ Ecall ∷ []
  operation_code number line (operation.Get to) = Addi 17 0 2 ∷ Ecall ∷ move_code (way_at l number line) (InRegister 10) (l.target number line)
  operation_code number line (operation.Call to callee arguments) = call_code number line callee arguments

  -- A jump forward over lines without instructions has none. One backwards always has: a loop without instructions would not end.
  abbrev pub is_silent_jump : (number line to : ℕ) → Bool
  is_silent_jump number line to = nat_lt line to && (l.line_at number to == l.line_at number (line + 1))

  -- both operands of a test
  abbrev pub tested_code : (number line first second : ℕ) → List Instr
  tested_code number line first second =
      read_code (way_at l number line) 5 (l.source number line first) ++ read_code (way_at l number line) 6 (l.source number line second)

  -- the address of the first lent word of the innermost record, which stands from the next line on, to its place
  abbrev pub lent_code : (number line : ℕ) → List Instr
  lent_code number line = Addi (given_in (l.target number line)) 2 (4 * header_words) ∷ keep_code (way_at l number (line + 1)) (l.target number line)

  -- the jump of a switch, by its table; the number is in a register
  abbrev pub switch_code : (number line register : ℕ) → List Instr
  switch_code number line r =
      read_code (way_at l number line) 5 (l.source number line r)
      ++ (Slli 5 (read_in 5 (l.source number line r)) 2 ∷ Lui 7 (high_part (4 * l.table_at number line)) ∷ Add 5 5 7
      ∷ Lw 5 5 (low_part (4 * l.table_at number line)) ∷ Jalr 0 5 0 ∷ [])

  -- A block of as many words as a register says: where there is room, the stack pointer of before goes into the second word of its header.
  abbrev pub lend_code : (number line words : ℕ) → List Instr
  lend_code number line words =
      load_into (way_at l number line) 10 (l.source number line words)
      ++ (Addi 10 10 header_words ∷ Slli 5 10 2 ∷ Sub 5 2 5 ∷ Bge 5 3 20 ∷ full_here_code
      ++ (Sw 2 5 4 ∷ Addi 2 5 0 ∷ lent_code number line))

  -- a control record is laid; the first word of its header is the address of its landing
  abbrev pub lay_code : (number line words landing : ℕ) → List Instr
  lay_code number line words landing =
      room_code l.full_at (l.line_at number line) (words + header_words)
      ++ (address_code 5 (l.line_at number landing)
      ++ (Sw 5 2 0 ∷ lent_code number line))

  -- before the jump of a return, in a frame of so many words
  abbrev pub before_return_code : (number frame line result : ℕ) → List Instr
  before_return_code number frame line result =
      load_into (way_at l number line) 12 (l.source number line result)
      ++ (link_code (way_at l number line) (l.linked number line) ++ raise_code (depth_in (way_at l number line) + frame))

  -- The first lent word of the record is behind its header. The block is read before the word, and both before the stack pointer goes up.
  abbrev pub cut_code : (number line block word : ℕ) → List Instr
  cut_code number line block word =
      load_into (way_at l number line) 5 (l.source number line block)
      ++ (load_into (way_at l number line) 12 (l.source number line word)
      ++ (Addi 2 5 (2 ^ 12 - 4 * header_words) ∷ Lw 5 2 0 ∷ Jalr 0 5 0 ∷ []))

  -- the end with a condition that is not handled: its own word goes into a register of values, so it is the last that is read
  abbrev pub unhandled_code : (number line class site condition : ℕ) → List Instr
  unhandled_code number line class site condition =
      load_into (way_at l number line) 10 (l.source number line class)
      ++ (load_into (way_at l number line) 11 (l.source number line site)
      ++ (load_into (way_at l number line) 12 (l.source number line condition) ++ Addi 17 0 3 ∷ Ecall ∷ []))

  -- a line of a procedure with a frame of so many words
  abbrev pub line_code : (number frame line : ℕ) → Line → List Instr
  line_code number frame line (Do o) = operation_code number line o
  line_code number frame line (Branch t otherwise) =
      tested_code number line t.first t.second
      ++ branch_code (l.near number line) t.comparison (read_in 5 (l.source number line t.first)) (read_in 6 (l.source number line t.second))
      (l.line_at number line + length (tested_code number line t.first t.second)) (l.line_at number otherwise)
  line_code number frame line (Switch r targets) = switch_code number line r
  line_code number frame line (Jump to) =
      if is_silent_jump number line to then [] else jump_code (l.near number line) 0 (l.line_at number line) (l.line_at number to)
  line_code number frame line (Lay block words landing) = lay_code number line words landing
  line_code number frame line (Landed r) = taken_code number line
  line_code number frame line (GiveBack words) = raise_code (words + header_words)
  line_code number frame line (Lend block words) = lend_code number line words
  line_code number frame line GiveBackLent = Lw 2 2 4 ∷ []
  line_code number frame line (Return r) = before_return_code number frame line r ++ Jalr 0 1 0 ∷ []
  line_code number frame line (Cut block word) = cut_code number line block word
  line_code number frame line (Halt r) = load_into (way_at l number line) 10 (l.source number line r) ++ Addi 17 0 0 ∷ Ecall ∷ []
  line_code number frame line (Unhandled class site condition) = unhandled_code number line class site condition

  -- what stands behind the code of a line and before the next one: the rest of a call
  abbrev pub behind_code : (number line : ℕ) → Line → List Instr
  behind_code number line (Do (operation.Call to callee arguments)) = taken_code number line
  behind_code number line x = []

  -- the entry of a procedure with a frame of so many words
  abbrev pub save_code : Bool → List Instr
  save_code true = Sw 1 2 0 ∷ []
  save_code false = []

  abbrev pub entry_code : (number frame : ℕ) → List Instr
  entry_code number frame =
      room_code l.full_at (l.entry_at number) frame ++ (save_code (l.saves number) ++ parameters_code l.arguments_at 0 (l.parameters number))
