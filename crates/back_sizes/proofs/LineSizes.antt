-- How many words the code of each kind of line has at most, and that of an entry.
use Rattle.std.proofs.Common.{◌≡◌, ℕ, ◌+◌, ◌-◌, ◌*◌, ◌^◌, ◌≤◌, Bool, true, false, List, [], ◌∷◌, ◌++◌, length, arith, length-append}
use Rattle.std.specs.Prelude.{◌==◌, nat_lt}
use Rattle.std.proofs.lemmas.List.{length-map}
use Rattle.rv_encode.specs.declared.instruction.Instr.TheVariants.{Lui, Jalr, Beq, Bge, Lw, Sw, Addi, Add, Sub, Slli, Ecall}
use Rattle.mid_code.specs.declared.operation.Callee.{Callee}
use Rattle.mid_code.specs.declared.operation.Callee.TheVariants.{Procedure, Word}
use Rattle.mid_code.specs.declared.operation.Comparison.{Comparison}
use Rattle.mid_code.specs.declared.operation.Operation.{Operation}
use Rattle.mid_code.specs.declared.operation.Operation.TheVariants as operation
use Rattle.mid_code.specs.Arena.{header_words}
use Rattle.mid_code.specs.Costs.{operation_cost, test_cost, jump_cost, record_cost, give_back_cost, return_cost, cut_cost, halt_cost, unhandled_cost}
use Rattle.mid_lines.specs.declared.line.Line.{Line}
use Rattle.mid_lines.specs.declared.line.Line.TheVariants.{Do, Branch, Switch, Jump, Lay, Landed, GiveBack, Lend, GiveBackLent, Return, Cut, Halt, Unhandled}
use Rattle.back_places.specs.declared.place.Place.{Place}
use Rattle.back_places.specs.declared.place.Place.TheVariants.{InRegister, InSlot, AsConstant}
use Rattle.back_places.specs.Places.{Way, Located, way_at, depth_in}
use Rattle.back_places.specs.Operands.{high_part, low_part, address_code, load_into, read_in, read_code, given_in, keep_code, move_code}
use Rattle.back_places.specs.Selection.{branch_code, jump_code, low_12}
use Rattle.back_places.specs.Passing.{pass_code, parameters_code}
use Rattle.back_places.specs.Blocks.{stack_code, raise_code, room_test_code, room_code, full_here_code}
use Rattle.back_places.specs.LineCode.{few_requested_code, requested_code, request_code, link_code, sources, before_call_code, call_jump_code, call_code, operation_code, is_silent_jump, tested_code, lent_code, lay_code, lend_code, before_return_code, line_code, behind_code, save_code, entry_code}
use Rattle.back_emission.proofs.Lengths.{either_length, slot_length, load_length, read_length, keep_length, move_length, move_from_register, compute_length, stack_length, raise_length}
use Rattle.back_emission.proofs.CallSteps.{pass_length}
use Rattle.back_steps.proofs.Parameters.{parameters_length, save_length}
use Rattle.back_layout.specs.Sizes.{unplaced, jump_size, goes_over_nothing, line_size, switch_targets}

-- what a line costs as code; that of a record pays for the head of its landing
abbrev pub line_cost : Line → ℕ
line_cost (Do o) = operation_cost o
line_cost (Branch t otherwise) = test_cost
line_cost (Switch r targets) = test_cost + length targets
line_cost (Jump to) = jump_cost
line_cost (Lay block words landing) = record_cost - 3
line_cost (Landed r) = 3
line_cost (GiveBack words) = give_back_cost
line_cost (Lend block words) = record_cost
line_cost GiveBackLent = give_back_cost
line_cost (Return r) = return_cost
line_cost (Cut block word) = cut_cost
line_cost (Halt r) = halt_cost
line_cost (Unhandled class site condition) = unhandled_cost

-- pieces

room_length : (full at words : ℕ) → length (room_code full at words) ≤ 8
room_length full at words =
    let down = stack_code (2 ^ 32 - 4 * words) in
    let h = stack_length (2 ^ 32 - 4 * words) in
    either_length 8 (words == 0) [] (down ++ room_test_code full (at + length down) words) (omega arith)
    (omega (arith, h, length-append down (room_test_code full (at + length down) words)))

branch_length : (near : Bool) (c : Comparison) (a b from to : ℕ) → length (branch_code near c a b from to) ≤ 3
branch_length true c a b from to = omega arith
branch_length false c a b from to = omega arith

jump_length : (near : Bool) (link from to : ℕ) → length (jump_code near link from to) ≤ 2
jump_length true link from to = omega arith
jump_length false link from to = omega arith

link_length : (way : Way) (t : Bool) → length (link_code way t) ≤ 3
link_length way true = omega arith
link_length way false = slot_length way 0 (Lw 1)

requested_length : (way : Way) (target : Place) → length (requested_code way target) ≤ 11
requested_length way target = let h = move_from_register way 5 target in omega (arith, h)

few_requested_length : (way : Way) (words : ℕ) (target : Place) → length (few_requested_code way words target) ≤ 11
few_requested_length way words target =
    let M = move_code way (InRegister 3) target in
    let h = move_from_register way 3 target in
    omega (arith, h, length-append full_here_code (M ++ Addi 3 5 0 ∷ []), length-append M (Addi 3 5 0 ∷ []))

request_length : (way : Way) (words target : Place) → length (request_code way words target) ≤ 14
request_length way (InRegister r) target =
    omega (arith, load_length way 10 (InRegister r), requested_length way target, length-append (load_into way 10 (InRegister r)) (requested_code way target))
request_length way (InSlot k) target =
    omega (arith, load_length way 10 (InSlot k), requested_length way target, length-append (load_into way 10 (InSlot k)) (requested_code way target))
request_length way (AsConstant w) target =
    let a = few_requested_length way w target in
    let b = load_length way 10 (AsConstant w) in
    let c = requested_length way target in
    either_length 14 (nat_lt w 512) (few_requested_code way w target) (load_into way 10 (AsConstant w) ++ requested_code way target) (omega (arith, a))
    (omega (arith, b, c, length-append (load_into way 10 (AsConstant w)) (requested_code way target)))

module _ (l : Located) (number line : ℕ) where
  abbrev way : Way
  way = way_at l number line

  sources_long : (arguments : List ℕ) → length (sources l number line arguments) ≡ length arguments
  sources_long arguments = length-map arguments (l.source number line)

  passed_length : (arguments : List ℕ) → length (pass_code l.arguments_at way (sources l number line arguments)) ≤ 5 * length arguments + 28
  passed_length arguments = omega (arith, pass_length l.arguments_at way (sources l number line arguments), sources_long arguments)

  before_length : (callee : Callee) (arguments : List ℕ) → length (before_call_code l number line callee arguments) ≤ 5 * length arguments + 31
  before_length (Procedure n) arguments = let h = passed_length arguments in omega (arith, h)
  before_length (Word r) arguments =
      omega (
        arith,
        passed_length arguments,
        load_length way 6 (l.source number line r),
        length-append (load_into way 6 (l.source number line r)) (pass_code l.arguments_at way (sources l number line arguments)),
      )

  call_jump_length : (from : ℕ) (callee : Callee) → length (call_jump_code l number line from callee) ≤ 5
  call_jump_length from (Procedure n) = let h = jump_length (l.near number line) 1 from (l.entry_at n) in omega (arith, h)
  call_jump_length from (Word r) = omega arith

  call_length : (callee : Callee) (arguments : List ℕ) → length (call_code l number line callee arguments) ≤ 5 * length arguments + 36
  call_length callee arguments =
      let B = before_call_code l number line callee arguments in
      omega (
        arith,
        before_length callee arguments,
        call_jump_length (l.line_at number line + length B) callee,
        length-append B (call_jump_code l number line (l.line_at number line + length B) callee),
      )

  operation_length : (o : Operation) → length (operation_code l number line o) + length (behind_code l number line (Do o)) ≤ operation_cost o
  operation_length (operation.Move to from) = let h = move_length way (l.source number line from) (l.target number line) in omega (arith, h)
  operation_length (operation.Constant to word) = let h = move_length way (AsConstant word) (l.target number line) in omega (arith, h)
  operation_length (operation.Compute to which first second) =
      let h = compute_length way (l.source number line first) (l.source number line second) (l.target number line) which in omega (arith, h)
  operation_length (operation.Load to base offset) =
      let p = l.source number line base in
      let t = l.target number line in
      omega (arith, read_length way 5 p, keep_length way t, length-append (read_code way 5 p) (Lw (given_in t) (read_in 5 p) (low_12 offset) ∷ keep_code way t))
  operation_length (operation.Store from base offset) =
      let p = l.source number line from in
      let q = l.source number line base in
      let S = Sw (read_in 5 p) (read_in 6 q) (low_12 offset) ∷ [] in
      omega (arith, read_length way 5 p, read_length way 6 q, length-append (read_code way 5 p) (read_code way 6 q ++ S), length-append (read_code way 6 q) S)
  operation_length (operation.Request to words) = let h = request_length way (l.source number line words) (l.target number line) in omega (arith, h)
  operation_length (operation.Draw to base offset) =
      let p = l.source number line base in
      let M = move_code way (InRegister 5) (l.target number line) in
      omega (
        arith,
        read_length way 6 p,
        move_from_register way 5 (l.target number line),
        length-append (read_code way 6 p) (Lw 5 (read_in 6 p) (low_12 offset) ∷ Addi 5 5 1 ∷ Beq 5 0 0 ∷ Sw 5 (read_in 6 p) (low_12 offset) ∷ M),
      )
  operation_length (operation.Put from) =
      let A = load_into way 10 (l.source number line from) in
      omega (arith, load_length way 10 (l.source number line from), length-append A (Addi 17 0 1 ∷ Ecall ∷ []))
  operation_length (operation.Get to) = let h = move_from_register way 10 (l.target number line) in omega (arith, h)
  operation_length (operation.Call to callee arguments) =
      let h = call_length callee arguments in
      let k = move_from_register way 12 (l.target number line) in
      omega (arith, h, k)

  tested_length : (first second : ℕ) → length (tested_code l number line first second) ≤ 6
  tested_length first second =
      let p = l.source number line first in
      let q = l.source number line second in
      omega (arith, read_length way 5 p, read_length way 6 q, length-append (read_code way 5 p) (read_code way 6 q))

  lent_length : length (lent_code l number line) ≤ 4
  lent_length = let h = keep_length (way_at l number (line + 1)) (l.target number line) in omega (arith, h)

  lay_length : (words landing : ℕ) → length (lay_code l number line words landing) ≤ 15
  lay_length words landing =
      let R = room_code l.full_at (l.line_at number line) (words + header_words) in
      let A = address_code 5 (l.line_at number landing) in
      let S = Sw 5 2 0 ∷ lent_code l number line in
      omega (arith, room_length l.full_at (l.line_at number line) (words + header_words), lent_length, length-append R (A ++ S), length-append A S)

  lend_length : (words : ℕ) → length (lend_code l number line words) ≤ 17
  lend_length words =
      let A = load_into way 10 (l.source number line words) in
      let E = Sw 2 5 4 ∷ Addi 2 5 0 ∷ lent_code l number line in
      omega (
        arith,
        load_length way 10 (l.source number line words),
        lent_length,
        length-append A (Addi 10 10 header_words ∷ Slli 5 10 2 ∷ Sub 5 2 5 ∷ Bge 5 3 20 ∷ full_here_code ++ E),
        length-append full_here_code E,
      )

  return_length : (frame r : ℕ) → length (before_return_code l number frame line r) ≤ 9
  return_length frame r =
      let A = load_into way 12 (l.source number line r) in
      let B = link_code way (l.linked number line) in
      let C = raise_code (depth_in way + frame) in
      omega (arith, load_length way 12 (l.source number line r), link_length way (l.linked number line), raise_length (depth_in way + frame), length-append A (B ++ C), length-append B C)

  -- a line that is no jump
  own_length : (frame : ℕ) (x : Line) → length (line_code l number frame line x) + length (behind_code l number line x) + length (switch_targets x) ≤ line_cost x
  own_length frame (Do o) = let h = operation_length o in omega (arith, h)
  own_length frame (Branch t otherwise) =
      let T = tested_code l number line t.first t.second in
      let p = read_in 5 (l.source number line t.first) in
      let q = read_in 6 (l.source number line t.second) in
      let J = branch_code (l.near number line) t.comparison p q (l.line_at number line + length T) (l.line_at number otherwise) in
      omega (arith, tested_length t.first t.second, branch_length (l.near number line) t.comparison p q (l.line_at number line + length T) (l.line_at number otherwise), length-append T J)
  own_length frame (Switch r targets) =
      let p = l.source number line r in
      let n = length-append (read_code way 5 p) (Slli 5 (read_in 5 p) 2 ∷ Lui 7 (high_part (4 * l.table_at number line)) ∷ Add 5 5 7 ∷ Lw 5 5 (low_part (4 * l.table_at number line)) ∷ Jalr 0 5 0 ∷ []) in
      omega (arith, read_length way 5 p, n)
  own_length frame (Jump to) =
      let h = either_length 2 (is_silent_jump l number line to) [] (jump_code (l.near number line) 0 (l.line_at number line) (l.line_at number to)) (omega arith)
      (jump_length (l.near number line) 0 (l.line_at number line) (l.line_at number to)) in
      omega (arith, h)
  own_length frame (Lay block words landing) = let h = lay_length words landing in omega (arith, h)
  own_length frame (Landed r) = let h = move_from_register way 12 (l.target number line) in omega (arith, h)
  own_length frame (GiveBack words) = let h = raise_length (words + header_words) in omega (arith, h)
  own_length frame (Lend block words) = let h = lend_length words in omega (arith, h)
  own_length frame GiveBackLent = omega arith
  own_length frame (Return r) = omega (arith, return_length frame r, length-append (before_return_code l number frame line r) (Jalr 0 1 0 ∷ []))
  own_length frame (Cut block word) =
      let A = load_into way 5 (l.source number line block) in
      let B = load_into way 12 (l.source number line word) in
      let E = Addi 2 5 (2 ^ 12 - 4 * header_words) ∷ Lw 5 2 0 ∷ Jalr 0 5 0 ∷ [] in
      omega (arith, load_length way 5 (l.source number line block), load_length way 12 (l.source number line word), length-append A (B ++ E), length-append B E)
  own_length frame (Halt r) =
      omega (arith, load_length way 10 (l.source number line r), length-append (load_into way 10 (l.source number line r)) (Addi 17 0 0 ∷ Ecall ∷ []))
  own_length frame (Unhandled class site condition) =
      let A = load_into way 10 (l.source number line class) in
      let B = load_into way 11 (l.source number line site) in
      let C = load_into way 12 (l.source number line condition) in
      let E = Addi 17 0 3 ∷ Ecall ∷ [] in
      omega (
        arith,
        load_length way 10 (l.source number line class),
        load_length way 11 (l.source number line site),
        load_length way 12 (l.source number line condition),
        length-append A (B ++ (C ++ E)),
        length-append B (C ++ E),
        length-append C E,
      )

jump_words : (silent near : Bool) → jump_size silent near ≤ 2
jump_words true near = omega arith
jump_words false true = omega arith
jump_words false false = omega arith

-- each line, with its table
pub size_length : (l : Located) (number frame line : ℕ) (x : Line) (rests : List ℕ) → line_size l number frame line x rests + length (switch_targets x) ≤ line_cost x
size_length l number frame line (Jump to) rests = let h = jump_words (goes_over_nothing line to rests) (l.near number line) in omega (arith, h)
size_length l number frame line (Do o) rests = own_length (unplaced l) number line frame (Do o)
size_length l number frame line (Branch t otherwise) rests = own_length (unplaced l) number line frame (Branch t otherwise)
size_length l number frame line (Switch r targets) rests = own_length (unplaced l) number line frame (Switch r targets)
size_length l number frame line (Lay block words landing) rests = own_length (unplaced l) number line frame (Lay block words landing)
size_length l number frame line (Landed r) rests = own_length (unplaced l) number line frame (Landed r)
size_length l number frame line (GiveBack words) rests = own_length (unplaced l) number line frame (GiveBack words)
size_length l number frame line (Lend block words) rests = own_length (unplaced l) number line frame (Lend block words)
size_length l number frame line GiveBackLent rests = own_length (unplaced l) number line frame GiveBackLent
size_length l number frame line (Return r) rests = own_length (unplaced l) number line frame (Return r)
size_length l number frame line (Cut block word) rests = own_length (unplaced l) number line frame (Cut block word)
size_length l number frame line (Halt r) rests = own_length (unplaced l) number line frame (Halt r)
size_length l number frame line (Unhandled class site condition) rests = own_length (unplaced l) number line frame (Unhandled class site condition)

-- an entry
pub entry_length : (l : Located) (number frame : ℕ) → length (entry_code l number frame) ≤ 9 + 5 * length (l.parameters number)
entry_length l number frame =
    let R = room_code l.full_at (l.entry_at number) frame in
    let S = save_code l (l.saves number) in
    let P = parameters_code l.arguments_at 0 (l.parameters number) in
    omega (arith, room_length l.full_at (l.entry_at number) frame, save_length l (l.saves number), parameters_length l.arguments_at 0 (l.parameters number), length-append R (S ++ P), length-append S P)
