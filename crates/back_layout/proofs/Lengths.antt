-- The code of a line is as long at every position, and with near jumps it is no longer than with far ones.
use Rattle.std.proofs.Common.{◌≡◌, ℕ, ◌+◌, ◌-◌, ◌*◌, ◌^◌, ◌≤◌, Bool, true, false, List, [], ◌∷◌, ◌++◌, length, refl, sym, ap, ◌∙◌, arith, length-append}
use Rattle.std.specs.Prelude.{if◌then◌else◌, ◌==◌}
use Rattle.rv_encode.specs.declared.instruction.Instr.{Instr}
use Rattle.rv_encode.specs.declared.instruction.Instr.TheVariants.{Lui, Jalr, Lw, Add, Slli}
use Rattle.mid_code.specs.declared.operation.Callee.{Callee}
use Rattle.mid_code.specs.declared.operation.Callee.TheVariants.{Procedure, Word}
use Rattle.mid_code.specs.declared.operation.Comparison.{Comparison}
use Rattle.mid_code.specs.declared.operation.Operation.{Operation}
use Rattle.mid_code.specs.declared.operation.Operation.TheVariants as operation
use Rattle.mid_code.specs.Arena.{header_words}
use Rattle.mid_lines.specs.declared.line.Line.{Line}
use Rattle.mid_lines.specs.declared.line.Line.TheVariants.{Do, Branch, Switch, Jump, Lay, Landed, GiveBack, Lend, GiveBackLent, Return, Cut, Halt, Unhandled}
use Rattle.back_places.specs.Places.{Located, way_at}
use Rattle.back_places.specs.Operands.{high_part, low_part, read_in, read_code}
use Rattle.back_places.specs.Selection.{jump_code, branch_code}
use Rattle.back_places.specs.Passing.{parameters_code}
use Rattle.back_places.specs.Blocks.{stack_code, room_test_code, room_code}
use Rattle.back_places.specs.LineCode.{before_call_code, tested_code, is_silent_jump, save_code, operation_code, line_code, behind_code, entry_code}
use Rattle.back_layout.specs.Sizes.{at_positions, unplaced, jump_size}
use Rattle.back_layout.specs.Layout.{all_far}

-- lists of equal lengths

append_same : (a b c : List Instr) → length b ≡ length c → length (a ++ b) ≡ length (a ++ c)
append_same a b c h = length-append a b ∙ ap (λ n. length a + n) h ∙ sym (length-append a c)

both_same : (a a' b b' : List Instr) → length a ≡ length a' → length b ≡ length b' → length (a ++ b) ≡ length (a' ++ b')
both_same a a' b b' h k = length-append a b ∙ ap (λ n. n + length b) h ∙ ap (λ n. length a' + n) k ∙ sym (length-append a' b')

either_same : (t : Bool) (a b c : List Instr) → length b ≡ length c → length (if t then a else b) ≡ length (if t then a else c)
either_same true a b c h = refl
either_same false a b c h = h

append_no_longer : (a b c : List Instr) → length b ≤ length c → length (a ++ b) ≤ length (a ++ c)
append_no_longer a b c h = omega (arith, h, length-append a b, length-append a c)

same_no_longer : (a : List Instr) → length a ≤ length a
same_no_longer a = omega arith

-- jumps and branches

pub jump_length : (near : Bool) (link from to : ℕ) → length (jump_code near link from to) ≡ jump_size false near
jump_length true link from to = refl
jump_length false link from to = refl

branch_same : (near : Bool) (c : Comparison) (a b from to from' to' : ℕ) → length (branch_code near c a b from to) ≡ length (branch_code near c a b from' to')
branch_same true c a b from to from' to' = refl
branch_same false c a b from to from' to' = refl

jump_no_longer : (near : Bool) (link from to from' to' : ℕ) → length (jump_code near link from to) ≤ length (jump_code false link from' to')
jump_no_longer true link from to from' to' = omega arith
jump_no_longer false link from to from' to' = omega arith

branch_no_longer : (near : Bool) (c : Comparison) (a b from to from' to' : ℕ) → length (branch_code near c a b from to) ≤ length (branch_code false c a b from' to')
branch_no_longer true c a b from to from' to' = omega arith
branch_no_longer false c a b from to from' to' = omega arith

-- the stack pointer goes down
abbrev down_code : ℕ → List Instr
down_code words = stack_code (2 ^ 32 - 4 * words)

room_same : (full at at' words : ℕ) → length (room_code full at words) ≡ length (room_code full at' words)
room_same full at at' words =
    either_same (words == 0) [] (down_code words ++ room_test_code full (at + length (down_code words)) words) (down_code words ++ room_test_code full (at' + length (down_code words)) words)
    (append_same (down_code words) (room_test_code full (at + length (down_code words)) words) (room_test_code full (at' + length (down_code words)) words) refl)

-- the jump by a table, with the number in a register
abbrev by_table : (number at : ℕ) → List Instr
by_table r at = Slli 5 r 2 ∷ Lui 7 (high_part (4 * at)) ∷ Add 5 5 7 ∷ Lw 5 5 (low_part (4 * at)) ∷ Jalr 0 5 0 ∷ []

-- a line that is no jump
abbrev pub IsNoJump : Line → Type 0
IsNoJump (Jump to) = ⊥
IsNoJump x = Unit {0}

module _ (l : Located) (e : ℕ → ℕ) (g b t : ℕ → ℕ → ℕ) (c : ℕ) where
  call_same :
      (number line : ℕ) (callee : Callee) (arguments : List ℕ)
      → length (operation_code (at_positions e g b t c l) number line (operation.Call 0 callee arguments))
      ≡ length (operation_code (unplaced l) number line (operation.Call 0 callee arguments))
  call_same number line (Procedure n) arguments =
      append_same (before_call_code l number line (Procedure n) arguments) (jump_code (l.near number line) 1 _ (e n)) (jump_code (l.near number line) 1 _ 0)
      (jump_length (l.near number line) 1 _ (e n) ∙ sym (jump_length (l.near number line) 1 _ 0))
  call_same number line (Word r) arguments = refl

  operation_same :
      (number line : ℕ) (o : Operation)
      → length (operation_code (at_positions e g b t c l) number line o) ≡ length (operation_code (unplaced l) number line o)
  operation_same number line (operation.Move to from) = refl
  operation_same number line (operation.Constant to word) = refl
  operation_same number line (operation.Compute to which first second) = refl
  operation_same number line (operation.Load to base offset) = refl
  operation_same number line (operation.Store from base offset) = refl
  operation_same number line (operation.Request to words) = refl
  operation_same number line (operation.Draw to base offset) = refl
  operation_same number line (operation.Put from) = refl
  operation_same number line (operation.Get to) = refl
  operation_same number line (operation.Call to callee arguments) = call_same number line callee arguments

  pub line_same :
      (number frame line : ℕ) (x : Line) → IsNoJump x
      → length (line_code (at_positions e g b t c l) number frame line x) ≡ length (line_code (unplaced l) number frame line x)
  line_same number frame line (Do o) h = operation_same number line o
  line_same number frame line (Branch test otherwise) h =
      append_same (tested_code l number line test.first test.second)
      (branch_code (l.near number line) test.comparison (read_in 5 (l.source number line test.first)) (read_in 6 (l.source number line test.second)) _ (g number otherwise))
      (branch_code (l.near number line) test.comparison (read_in 5 (l.source number line test.first)) (read_in 6 (l.source number line test.second)) _ 0)
      (branch_same (l.near number line) test.comparison _ _ _ (g number otherwise) _ 0)
  line_same number frame line (Switch r targets) h =
      append_same (read_code (way_at l number line) 5 (l.source number line r)) (by_table (read_in 5 (l.source number line r)) (t number line))
      (by_table (read_in 5 (l.source number line r)) 0) refl
  line_same number frame line (Jump to) h = absurd h
  line_same number frame line (Lay block words landing) h =
      both_same (room_code l.full_at (g number line) (words + header_words)) (room_code l.full_at 0 (words + header_words)) _ _
      (room_same l.full_at (g number line) 0 (words + header_words)) refl
  line_same number frame line (Landed r) h = refl
  line_same number frame line (GiveBack words) h = refl
  line_same number frame line (Lend block words) h = refl
  line_same number frame line GiveBackLent h = refl
  line_same number frame line (Return r) h = refl
  line_same number frame line (Cut block word) h = refl
  line_same number frame line (Halt r) h = refl
  line_same number frame line (Unhandled class site condition) h = refl

  behind_operation_same :
      (number line : ℕ) (o : Operation) → behind_code (at_positions e g b t c l) number line (Do o) ≡ behind_code (unplaced l) number line (Do o)
  behind_operation_same number line (operation.Move to from) = refl
  behind_operation_same number line (operation.Constant to word) = refl
  behind_operation_same number line (operation.Compute to which first second) = refl
  behind_operation_same number line (operation.Load to base offset) = refl
  behind_operation_same number line (operation.Store from base offset) = refl
  behind_operation_same number line (operation.Request to words) = refl
  behind_operation_same number line (operation.Draw to base offset) = refl
  behind_operation_same number line (operation.Put from) = refl
  behind_operation_same number line (operation.Get to) = refl
  behind_operation_same number line (operation.Call to callee arguments) = refl

  pub behind_same :
      (number line : ℕ) (x : Line) → behind_code (at_positions e g b t c l) number line x ≡ behind_code (unplaced l) number line x
  behind_same number line (Do o) = behind_operation_same number line o
  behind_same number line (Branch test otherwise) = refl
  behind_same number line (Switch r targets) = refl
  behind_same number line (Jump to) = refl
  behind_same number line (Lay block words landing) = refl
  behind_same number line (Landed r) = refl
  behind_same number line (GiveBack words) = refl
  behind_same number line (Lend block words) = refl
  behind_same number line GiveBackLent = refl
  behind_same number line (Return r) = refl
  behind_same number line (Cut block word) = refl
  behind_same number line (Halt r) = refl
  behind_same number line (Unhandled class site condition) = refl

  pub entry_same : (number frame : ℕ) → length (entry_code (at_positions e g b t c l) number frame) ≡ length (entry_code (unplaced l) number frame)
  entry_same number frame =
      both_same (room_code l.full_at (e number) frame) (room_code l.full_at 0 frame) (save_code l (l.saves number) ++ parameters_code l.arguments_at 0 (l.parameters number)) _
      (room_same l.full_at (e number) 0 frame) refl

  jump_line : (silent near : Bool) (from to : ℕ) → length (if silent then [] else jump_code near 0 from to) ≡ jump_size silent near
  jump_line true near from to = refl
  jump_line false near from to = jump_length near 0 from to

  pub jump_same :
      (number frame line to : ℕ)
      → length (line_code (at_positions e g b t c l) number frame line (Jump to))
      ≡ jump_size (is_silent_jump (at_positions e g b t c l) number line to) (l.near number line)
  jump_same number frame line to = jump_line (is_silent_jump (at_positions e g b t c l) number line to) (l.near number line) (g number line) (g number to)

-- with other jumps near

abbrev pub with_jumps : Located → (near : ℕ → ℕ → Bool) → Located
with_jumps l near = record l { near = near }

module _ (l : Located) (near : ℕ → ℕ → Bool) where
  call_no_longer :
      (number line : ℕ) (callee : Callee) (arguments : List ℕ)
      → length (operation_code (unplaced (with_jumps l near)) number line (operation.Call 0 callee arguments))
      ≤ length (operation_code (unplaced (all_far l)) number line (operation.Call 0 callee arguments))
  call_no_longer number line (Procedure n) arguments =
      let from = 0 + length (before_call_code l number line (Procedure n) arguments) in
      append_no_longer (before_call_code l number line (Procedure n) arguments) (jump_code (near number line) 1 from 0) (jump_code false 1 from 0)
      (jump_no_longer (near number line) 1 from 0 from 0)
  call_no_longer number line (Word r) arguments = omega arith

  operation_no_longer :
      (number line : ℕ) (o : Operation)
      → length (operation_code (unplaced (with_jumps l near)) number line o) ≤ length (operation_code (unplaced (all_far l)) number line o)
  operation_no_longer number line (operation.Move to from) = same_no_longer (operation_code (unplaced l) number line (operation.Move to from))
  operation_no_longer number line (operation.Constant to word) = same_no_longer (operation_code (unplaced l) number line (operation.Constant to word))
  operation_no_longer number line (operation.Compute to which first second) =
      same_no_longer (operation_code (unplaced l) number line (operation.Compute to which first second))
  operation_no_longer number line (operation.Load to base offset) = same_no_longer (operation_code (unplaced l) number line (operation.Load to base offset))
  operation_no_longer number line (operation.Store from base offset) = same_no_longer (operation_code (unplaced l) number line (operation.Store from base offset))
  operation_no_longer number line (operation.Request to words) = same_no_longer (operation_code (unplaced l) number line (operation.Request to words))
  operation_no_longer number line (operation.Draw to base offset) = same_no_longer (operation_code (unplaced l) number line (operation.Draw to base offset))
  operation_no_longer number line (operation.Put from) = same_no_longer (operation_code (unplaced l) number line (operation.Put from))
  operation_no_longer number line (operation.Get to) = same_no_longer (operation_code (unplaced l) number line (operation.Get to))
  operation_no_longer number line (operation.Call to callee arguments) = call_no_longer number line callee arguments

  pub line_no_longer :
      (number frame line : ℕ) (x : Line) → IsNoJump x
      → length (line_code (unplaced (with_jumps l near)) number frame line x) ≤ length (line_code (unplaced (all_far l)) number frame line x)
  line_no_longer number frame line (Do o) h = operation_no_longer number line o
  line_no_longer number frame line (Branch test otherwise) h =
      let from = 0 + length (tested_code l number line test.first test.second) in
      append_no_longer (tested_code l number line test.first test.second)
      (branch_code (near number line) test.comparison (read_in 5 (l.source number line test.first)) (read_in 6 (l.source number line test.second)) from 0)
      (branch_code false test.comparison (read_in 5 (l.source number line test.first)) (read_in 6 (l.source number line test.second)) from 0)
      (branch_no_longer (near number line) test.comparison (read_in 5 (l.source number line test.first)) (read_in 6 (l.source number line test.second)) from 0 from 0)
  line_no_longer number frame line (Switch r targets) h = same_no_longer (line_code (unplaced l) number frame line (Switch r targets))
  line_no_longer number frame line (Jump to) h = absurd h
  line_no_longer number frame line (Lay block words landing) h = same_no_longer (line_code (unplaced l) number frame line (Lay block words landing))
  line_no_longer number frame line (Landed r) h = same_no_longer (line_code (unplaced l) number frame line (Landed r))
  line_no_longer number frame line (GiveBack words) h = same_no_longer (line_code (unplaced l) number frame line (GiveBack words))
  line_no_longer number frame line (Lend block words) h = same_no_longer (line_code (unplaced l) number frame line (Lend block words))
  line_no_longer number frame line GiveBackLent h = same_no_longer (line_code (unplaced l) number frame line GiveBackLent)
  line_no_longer number frame line (Return r) h = same_no_longer (line_code (unplaced l) number frame line (Return r))
  line_no_longer number frame line (Cut block word) h = same_no_longer (line_code (unplaced l) number frame line (Cut block word))
  line_no_longer number frame line (Halt r) h = same_no_longer (line_code (unplaced l) number frame line (Halt r))
  line_no_longer number frame line (Unhandled class site condition) h =
      same_no_longer (line_code (unplaced l) number frame line (Unhandled class site condition))

  pub behind_kept :
      (number line : ℕ) (x : Line) → behind_code (unplaced (with_jumps l near)) number line x ≡ behind_code (unplaced (all_far l)) number line x
  behind_kept number line (Do o) = by o
    where
      by : (o : Operation) → behind_code (unplaced (with_jumps l near)) number line (Do o) ≡ behind_code (unplaced (all_far l)) number line (Do o)
      by (operation.Move to from) = refl
      by (operation.Constant to word) = refl
      by (operation.Compute to which first second) = refl
      by (operation.Load to base offset) = refl
      by (operation.Store from base offset) = refl
      by (operation.Request to words) = refl
      by (operation.Draw to base offset) = refl
      by (operation.Put from) = refl
      by (operation.Get to) = refl
      by (operation.Call to callee arguments) = refl
  behind_kept number line (Branch test otherwise) = refl
  behind_kept number line (Switch r targets) = refl
  behind_kept number line (Jump to) = refl
  behind_kept number line (Lay block words landing) = refl
  behind_kept number line (Landed r) = refl
  behind_kept number line (GiveBack words) = refl
  behind_kept number line (Lend block words) = refl
  behind_kept number line GiveBackLent = refl
  behind_kept number line (Return r) = refl
  behind_kept number line (Cut block word) = refl
  behind_kept number line (Halt r) = refl
  behind_kept number line (Unhandled class site condition) = refl
