-- The code of a line, what stands behind it, and the entry of a procedure are instructions, where places are within reach.
use Rattle.std.proofs.Common.{inl, inr, ◌≡◌, ℕ, suc, ◌+◌, ◌-◌, ◌*◌, ◌^◌, ◌<◌, Bool, true, false, List, [], ◌∷◌, ◌++◌, length, Some, refl, arith, ltb-true}
use Rattle.std.specs.Prelude.{◌⊎◌, nat_lt, slice_get, if◌then◌else◌}
use Rattle.rv_encode.specs.declared.instruction.Instr.TheVariants.{Lui, Jalr, Beq, Bge, Lw, Sw, Addi, Add, Sub, Slli, Ecall}
use Rattle.mid_code.specs.declared.operation.Callee.{Callee}
use Rattle.mid_code.specs.declared.operation.Callee.TheVariants.{Procedure, Word}
use Rattle.mid_code.specs.declared.operation.Operation.{Operation}
use Rattle.mid_code.specs.declared.operation.Operation.TheVariants as operation
use Rattle.mid_code.specs.Arena.{header_words}
use Rattle.mid_lines.specs.declared.line.Line.{Line}
use Rattle.mid_lines.specs.declared.line.Line.TheVariants.{Do, Branch, Switch, Jump, Lay, Landed, GiveBack, Lend, GiveBackLent, Return, Cut, Halt, Unhandled}
use Rattle.mid_lines.specs.declared.line.LineProgram.{LineProgram}
use Rattle.mid_lines.specs.Lines.{line_of}
use Rattle.mid_lines.specs.StackLaw.{frame_of}
use Rattle.back_places.specs.declared.place.Place.{Place}
use Rattle.back_places.specs.declared.place.Place.TheVariants.{InRegister, InSlot, AsConstant}
use Rattle.back_places.specs.Places.{Located, Way, from_stack, past_lent, no_way, way_at, depth_in, reachable, is_from_stack}
use Rattle.back_places.specs.Operands.{high_part, low_part, address_code, load_into, read_in, read_code, given_in, keep_code, move_code}
use Rattle.back_places.specs.Selection.{branch_code, jump_code, low_12}
use Rattle.back_places.specs.Passing.{pass_code, parameters_code}
use Rattle.back_places.specs.Blocks.{raise_code, room_code, full_here_code}
use Rattle.back_places.specs.LineCode.{few_requested_code, requested_code, request_code, link_code, table_jump_code, sources, before_call_code, call_jump_code, operation_code, is_silent_jump, tested_code, lent_code, lend_code, lay_code, before_return_code, line_code, behind_code, save_code, entry_code}
use Rattle.back_places.specs.Facts.{IsPlace, Reads, callee_registers, GoodEntry, GoodLine, GoodOperation}
use Rattle.back_places.specs.Good.{reach_at, LaysOne}
use Rattle.back_trivial.specs.OwnSlots.{IsPlacedWell}
use Rattle.back_layout.proofs.Instructions.{AreInstrs, both_are, either_is, low_small, high_small, Within, place_within, AllWithin, address_is, load_access, slot_is, load_is, read_in_small, read_is, given_small, keep_is, move_is, compute_is, jump_is, branch_is, low_12_small, pass_is, parameters_are, raise_is, room_is, full_here_is}

-- requests

module _ (way : Way) (frame : ℕ) where
  few_is : (words : ℕ) (target : Place) → words < 512 → Within (reachable way frame) target → AreInstrs (few_requested_code way words target)
  few_is words target few h = (
    (omega arith, omega arith, omega (arith, few)),
    (
      (omega arith, omega arith, (omega arith, refl)),
      (
        (omega arith, omega arith, omega (arith, few)),
        both_are full_here_code (move_code way (InRegister 3) target ++ Addi 3 5 0 ∷ []) full_here_is
            (both_are (move_code way (InRegister 3) target) (Addi 3 5 0 ∷ []) (move_is way frame (InRegister 3) target (omega arith) h) ((omega arith, omega arith, omega arith), tt)),
      ),
    ),
  )

  requested_is : (target : Place) → Within (reachable way frame) target → AreInstrs (requested_code way target)
  requested_is target h =
      ((omega arith, omega arith, omega arith), ((omega arith, omega arith, omega arith), ((omega arith, omega arith, (omega arith, refl)), ((omega arith, omega arith, omega arith), (tt, ((omega arith, omega arith, omega arith), ((omega arith, omega arith, omega arith), ((omega arith, omega arith, omega arith), move_is way frame (InRegister 5) target (omega arith) h))))))))

  loaded_request : (words target : Place) → Within (reachable way frame) words → Within (reachable way frame) target → AreInstrs (load_into way 10 words ++ requested_code way target)
  loaded_request words target h k = both_are (load_into way 10 words) (requested_code way target) (load_is way frame 10 words (omega arith) h) (requested_is target k)

  request_is : (words target : Place) → Within (reachable way frame) words → Within (reachable way frame) target → AreInstrs (request_code way words target)
  request_is (InRegister r) target h k = loaded_request (InRegister r) target h k
  request_is (InSlot s) target h k = loaded_request (InSlot s) target h k
  request_is (AsConstant w) target h k =
      either_is (nat_lt w 512) (few_requested_code way w target) (load_into way 10 (AsConstant w) ++ requested_code way target)
      (λ e. few_is w target (ltb-true w 512 e) k) (λ e. loaded_request (AsConstant w) target h k)

  link_is : (linked : Bool) → (linked ≡ true) ⊎ (0 < reachable way frame) → AreInstrs (link_code way linked)
  link_is true h = tt
  link_is false (inl h) = absurd (cc h)
  link_is false (inr h) = slot_is way frame 0 (Lw 1) (load_access 1 (omega arith)) h

  taken_is : (target : Place) → Within (reachable way frame) target → AreInstrs (move_code way (InRegister 12) target)
  taken_is target h = move_is way frame (InRegister 12) target (omega arith) h

  lent_is : (target : Place) → Within (reachable way frame) target → AreInstrs (Addi (given_in target) 2 (4 * header_words) ∷ keep_code way target)
  lent_is target h = ((given_small way frame target h, omega arith, omega arith), keep_is way frame target h)

table_jump_is : (table : ℕ) → AreInstrs (table_jump_code table)
table_jump_is table =
    ((omega arith, omega arith, omega arith), ((omega arith, high_small (4 * table)), ((omega arith, omega arith, omega arith), ((omega arith, omega arith, low_small (4 * table)), ((omega arith, omega arith, omega arith), tt)))))

all_within : (reach : ℕ) (ps : List Place) → ((i : ℕ) (p : Place) → slice_get ps i ≡ Some p → IsPlace reach p) → AllWithin reach ps
all_within reach [] h = tt
all_within reach (p ∷ ps) h = (place_within reach p (h 0 p refl), all_within reach ps (λ i q e. h (suc i) q e))

stack_reach : (way : Way) (frame : ℕ) → is_from_stack way ≡ true → 0 < frame → 0 < reachable way frame
stack_reach (from_stack depth) frame h k = k
stack_reach (past_lent depth) frame h k = absurd (cc h)
stack_reach no_way frame h k = absurd (cc h)

module _
    (program : LineProgram) (l : Located) (Fact : (number line register : ℕ) → Place → Type 0) (placed : IsPlacedWell program l Fact) (number line : ℕ) where
  abbrev W : Place → Type 0
  W p = Within (reach_at program l number line) p

  read : (v : ℕ) → Fact number line v (l.source number line v) → W (l.source number line v)
  read v f = place_within (reach_at program l number line) (l.source number line v) (placed.sources number line v f)

  read_all : (vs : List ℕ) → Reads l Fact number line vs → AllWithin (reach_at program l number line) (sources l number line vs)
  read_all [] h = tt
  read_all (v ∷ vs) h = (read v h.0, read_all vs h.1)

  given : W (l.target number line)
  given = place_within (reach_at program l number line) (l.target number line) (placed.targets number line)

  abbrev way : Way
  way = way_at l number line

  abbrev frame : ℕ
  frame = (frame_of program number).words

  before_call_is :
      (callee : Callee) (arguments : List ℕ) → Reads l Fact number line arguments → Reads l Fact number line (callee_registers callee)
      → AreInstrs (before_call_code l number line callee arguments)
  before_call_is (Procedure n) arguments h k = pass_is l.arguments_at way frame (sources l number line arguments) (read_all arguments h)
  before_call_is (Word r) arguments h k =
      both_are (load_into way 6 (l.source number line r)) (pass_code l.arguments_at way (sources l number line arguments))
      (load_is way frame 6 (l.source number line r) (omega arith) (read r k.0)) (pass_is l.arguments_at way frame (sources l number line arguments) (read_all arguments h))

  call_jump_is : (from : ℕ) (callee : Callee) → AreInstrs (call_jump_code l number line from callee)
  call_jump_is from (Procedure n) = jump_is (l.near number line) 1 from (l.entry_at n) (omega arith)
  call_jump_is from (Word r) = table_jump_is l.procedures_at

  operation_is : (o : Operation) → GoodOperation l Fact number line o → AreInstrs (operation_code l number line o)
  operation_is (operation.Move to from) h = move_is way frame (l.source number line from) (l.target number line) (read from h.gives.reads.0) given
  operation_is (operation.Constant to word) h = move_is way frame (AsConstant word) (l.target number line) tt given
  operation_is (operation.Compute to which first second) h =
      compute_is way frame (l.source number line first) (l.source number line second) (l.target number line) which (read first h.gives.reads.0) (read second h.gives.reads.1.0) given
  operation_is (operation.Load to base offset) h =
      let b = read base h.gives.reads.0 in
      both_are (read_code way 5 (l.source number line base))
      (Lw (given_in (l.target number line)) (read_in 5 (l.source number line base)) (low_12 offset) ∷ keep_code way (l.target number line))
      (read_is way frame 5 (l.source number line base) (omega arith) b) (
        (given_small way frame (l.target number line) given, read_in_small way frame 5 (l.source number line base) (omega arith) b, low_12_small offset),
        keep_is way frame (l.target number line) given,
      )
  operation_is (operation.Store from base offset) h =
      let a = read from h.reads.0 in
      let b = read base h.reads.1.0 in
      both_are (read_code way 5 (l.source number line from))
      (read_code way 6 (l.source number line base) ++ (Sw (read_in 5 (l.source number line from)) (read_in 6 (l.source number line base)) (low_12 offset) ∷ []))
      (read_is way frame 5 (l.source number line from) (omega arith) a)
      (both_are (read_code way 6 (l.source number line base)) (Sw (read_in 5 (l.source number line from)) (read_in 6 (l.source number line base)) (low_12 offset) ∷ [])
      (read_is way frame 6 (l.source number line base) (omega arith) b)
      ((read_in_small way frame 5 (l.source number line from) (omega arith) a, read_in_small way frame 6 (l.source number line base) (omega arith) b, low_12_small offset), tt))
  operation_is (operation.Request to words) h = request_is way frame (l.source number line words) (l.target number line) (read words h.gives.reads.0) given
  operation_is (operation.Draw to base offset) h =
      let b = read base h.gives.reads.0 in
      let s = read_in_small way frame 6 (l.source number line base) (omega arith) b in
      both_are (read_code way 6 (l.source number line base))
      (Lw 5 (read_in 6 (l.source number line base)) (low_12 offset) ∷ Addi 5 5 1 ∷ Beq 5 0 0 ∷ Sw 5 (read_in 6 (l.source number line base)) (low_12 offset)
      ∷ move_code way (InRegister 5) (l.target number line))
      (read_is way frame 6 (l.source number line base) (omega arith) b)
      ((omega arith, s, low_12_small offset), ((omega arith, omega arith, omega arith), ((omega arith, omega arith, (omega arith, refl)), ((omega arith, s, low_12_small offset), move_is way frame (InRegister 5) (l.target number line) (omega arith) given))))
  operation_is (operation.Put from) h =
      both_are (load_into way 10 (l.source number line from)) (Addi 17 0 1 ∷ Ecall ∷ []) (load_is way frame 10 (l.source number line from) (omega arith) (read from h.reads.0))
      ((omega arith, omega arith, omega arith), (tt, tt))
  operation_is (operation.Get to) h = ((omega arith, omega arith, omega arith), (tt, move_is way frame (InRegister 10) (l.target number line) (omega arith) given))
  operation_is (operation.Call to callee arguments) h =
      let from = l.line_at number line + length (before_call_code l number line callee arguments) in
      both_are (before_call_code l number line callee arguments) (call_jump_code l number line from callee)
      (before_call_is callee arguments h.reads h.reads_callee) (call_jump_is from callee)

  -- the record that a line lays stands from the next line on
  lent_code_is : (x : Line) → line_of program number line ≡ Some x → LaysOne x → AreInstrs (lent_code l number line)
  lent_code_is x e lays =
      lent_is (way_at l number (line + 1)) frame (l.target number line)
      (place_within (reach_at program l number (line + 1)) (l.target number line) (placed.behind number line x e lays))

  lay_is : (words landing : ℕ) → AreInstrs (lent_code l number line) → AreInstrs (lay_code l number line words landing)
  lay_is words landing h =
      both_are (room_code l.full_at (l.line_at number line) (words + header_words)) (address_code 5 (l.line_at number landing) ++ (Sw 5 2 0 ∷ lent_code l number line))
      (room_is l.full_at (l.line_at number line) (words + header_words))
      (both_are (address_code 5 (l.line_at number landing)) (Sw 5 2 0 ∷ lent_code l number line) (address_is 5 (l.line_at number landing) (omega arith))
      ((omega arith, omega arith, omega arith), h))

  lend_is : (words : ℕ) → W (l.source number line words) → AreInstrs (lent_code l number line) → AreInstrs (lend_code l number line words)
  lend_is words k h =
      both_are (load_into way 10 (l.source number line words))
      (Addi 10 10 header_words ∷ Slli 5 10 2 ∷ Sub 5 2 5 ∷ Bge 5 3 20 ∷ full_here_code ++ (Sw 2 5 4 ∷ Addi 2 5 0 ∷ lent_code l number line))
      (load_is way frame 10 (l.source number line words) (omega arith) k)
      ((omega arith, omega arith, omega arith), ((omega arith, omega arith, omega arith), ((omega arith, omega arith, omega arith), ((omega arith, omega arith, (omega arith, refl)), both_are full_here_code (Sw 2 5 4 ∷ Addi 2 5 0 ∷ lent_code l number line) full_here_is ((omega arith, omega arith, omega arith), ((omega arith, omega arith, omega arith), h))))))

  silent_is : (silent : Bool) (to : ℕ) → AreInstrs (if silent then [] else jump_code (l.near number line) 0 (l.line_at number line) (l.line_at number to))
  silent_is silent to =
      either_is silent [] (jump_code (l.near number line) 0 (l.line_at number line) (l.line_at number to)) (λ e. tt)
      (λ e. jump_is (l.near number line) 0 (l.line_at number line) (l.line_at number to) (omega arith))

  tested_is : (first second : ℕ) → W (l.source number line first) → W (l.source number line second) → AreInstrs (tested_code l number line first second)
  tested_is first second h k =
      both_are (read_code way 5 (l.source number line first)) (read_code way 6 (l.source number line second)) (read_is way frame 5 (l.source number line first) (omega arith) h)
      (read_is way frame 6 (l.source number line second) (omega arith) k)

  framed : (l.linked number line ≡ true) ⊎ (l.saves number ≡ true) → is_from_stack way ≡ true → (l.linked number line ≡ true) ⊎ (0 < reachable way frame)
  framed (inl h) k = inl h
  framed (inr h) k = inr (stack_reach way frame k (placed.frames number h))

  pub line_is : (x : Line) → line_of program number line ≡ Some x → GoodLine l Fact number line x → AreInstrs (line_code l number frame line x)
  line_is (Do o) e h = operation_is o h
  line_is (Branch test otherwise) e h =
      let a = read test.first h.0.reads.0 in
      let b = read test.second h.0.reads.1.0 in
      let from = l.line_at number line + length (tested_code l number line test.first test.second) in
      both_are (tested_code l number line test.first test.second)
      (branch_code (l.near number line) test.comparison (read_in 5 (l.source number line test.first)) (read_in 6 (l.source number line test.second)) from (l.line_at number otherwise))
      (tested_is test.first test.second a b)
      (branch_is (l.near number line) test.comparison (read_in 5 (l.source number line test.first)) (read_in 6 (l.source number line test.second)) from (l.line_at number otherwise)
      (read_in_small way frame 5 (l.source number line test.first) (omega arith) a) (read_in_small way frame 6 (l.source number line test.second) (omega arith) b))
  line_is (Switch r targets) e h =
      let a = read r h.0.0 in
      both_are (read_code way 5 (l.source number line r))
      (Slli 5 (read_in 5 (l.source number line r)) 2 ∷ Lui 7 (high_part (4 * l.table_at number line)) ∷ Add 5 5 7 ∷ Lw 5 5 (low_part (4 * l.table_at number line)) ∷ Jalr 0 5 0 ∷ [])
      (read_is way frame 5 (l.source number line r) (omega arith) a)
      ((omega arith, read_in_small way frame 5 (l.source number line r) (omega arith) a, omega arith), ((omega arith, high_small (4 * l.table_at number line)), ((omega arith, omega arith, omega arith), ((omega arith, omega arith, low_small (4 * l.table_at number line)), ((omega arith, omega arith, omega arith), tt)))))
  line_is (Jump to) e h = silent_is (is_silent_jump l number line to) to
  line_is (Lay block words landing) e h = lay_is words landing (lent_code_is (Lay block words landing) e tt)
  line_is (Landed r) e h = taken_is way frame (l.target number line) given
  line_is (GiveBack words) e h = raise_is (words + header_words)
  line_is (Lend block words) e h = lend_is words (read words h.reads.0) (lent_code_is (Lend block words) e tt)
  line_is GiveBackLent e h = ((omega arith, omega arith, omega arith), tt)
  line_is (Return r) e h =
      both_are (before_return_code l number frame line r) (Jalr 0 1 0 ∷ [])
      (both_are (load_into way 12 (l.source number line r)) (link_code way (l.linked number line) ++ raise_code (depth_in way + frame))
      (load_is way frame 12 (l.source number line r) (omega arith) (read r h.reads.0))
      (both_are (link_code way (l.linked number line)) (raise_code (depth_in way + frame)) (link_is way frame (l.linked number line) (framed h.link h.way)) (raise_is (depth_in way + frame))))
      ((omega arith, omega arith, omega arith), tt)
  line_is (Cut block word) e h =
      both_are (load_into way 5 (l.source number line block))
      (load_into way 12 (l.source number line word) ++ (Addi 2 5 (2 ^ 12 - 4 * header_words) ∷ Lw 5 2 0 ∷ Jalr 0 5 0 ∷ []))
      (load_is way frame 5 (l.source number line block) (omega arith) (read block h.reads.0))
      (both_are (load_into way 12 (l.source number line word)) (Addi 2 5 (2 ^ 12 - 4 * header_words) ∷ Lw 5 2 0 ∷ Jalr 0 5 0 ∷ [])
      (load_is way frame 12 (l.source number line word) (omega arith) (read word h.reads.1.0))
      ((omega arith, omega arith, omega arith), ((omega arith, omega arith, omega arith), ((omega arith, omega arith, omega arith), tt))))
  line_is (Halt r) e h =
      both_are (load_into way 10 (l.source number line r)) (Addi 17 0 0 ∷ Ecall ∷ []) (load_is way frame 10 (l.source number line r) (omega arith) (read r h.0))
      ((omega arith, omega arith, omega arith), (tt, tt))
  line_is (Unhandled class site condition) e h =
      both_are (load_into way 10 (l.source number line class))
      (load_into way 11 (l.source number line site) ++ (load_into way 12 (l.source number line condition) ++ Addi 17 0 3 ∷ Ecall ∷ []))
      (load_is way frame 10 (l.source number line class) (omega arith) (read class h.0))
      (both_are (load_into way 11 (l.source number line site)) (load_into way 12 (l.source number line condition) ++ Addi 17 0 3 ∷ Ecall ∷ [])
      (load_is way frame 11 (l.source number line site) (omega arith) (read site h.1.0))
      (both_are (load_into way 12 (l.source number line condition)) (Addi 17 0 3 ∷ Ecall ∷ []) (load_is way frame 12 (l.source number line condition) (omega arith) (read condition h.1.1.0))
      ((omega arith, omega arith, omega arith), (tt, tt))))

  behind_operation_is : (o : Operation) → AreInstrs (behind_code l number line (Do o))
  behind_operation_is (operation.Call to callee arguments) = taken_is way frame (l.target number line) given
  behind_operation_is o = tt

  pub behind_is : (x : Line) → AreInstrs (behind_code l number line x)
  behind_is (Do o) = behind_operation_is o
  behind_is x = tt

save_is : (l : Located) (saves : Bool) → AreInstrs (save_code l saves)
save_is l true = ((omega arith, omega arith, omega arith), tt)
save_is l false = tt

pub entry_is :
    (l : Located) (Fact : (number line register : ℕ) → Place → Type 0) (number frame parameters : ℕ) → GoodEntry l Fact number frame parameters
    → AreInstrs (entry_code l number frame)
entry_is l Fact number frame parameters h =
    both_are (room_code l.full_at (l.entry_at number) frame) (save_code l (l.saves number) ++ parameters_code l.arguments_at 0 (l.parameters number))
    (room_is l.full_at (l.entry_at number) frame)
    (both_are (save_code l (l.saves number)) (parameters_code l.arguments_at 0 (l.parameters number)) (save_is l (l.saves number))
    (parameters_are l.arguments_at frame 0 (l.parameters number) (all_within frame (l.parameters number) h.in_frame)))
