-- Jumps that are near with all jumps far are near in the end: nothing is further apart then.
use Rattle.std.proofs.Common.{inl, inr, ◌≡◌, ℕ, suc, ◌+◌, ◌-◌, ◌^◌, ◌<◌, ◌≤◌, Bool, true, false, List, ◌++◌, length, take, Option, Some, None, refl, sym, ap, subst, ◌∙◌, arith, length-append, ltb-true, leb-true}
use Rattle.std.specs.Prelude.{◌⊎◌, nat_lt, nat_le, slice_get, slice_index}
use Rattle.std.proofs.lemmas.Bool.Decides.{nat_tests}
use Rattle.mid_code.specs.declared.operation.Callee.TheVariants.{Procedure, Word}
use Rattle.mid_code.specs.declared.operation.Operation.{Operation}
use Rattle.mid_code.specs.declared.operation.Operation.TheVariants as operation
use Rattle.mid_lines.specs.declared.line.Line.{Line}
use Rattle.mid_lines.specs.declared.line.Line.TheVariants.{Do, Branch, Jump}
use Rattle.mid_lines.specs.declared.line.LineProcedure.{LineProcedure}
use Rattle.mid_lines.specs.declared.line.LineProgram.{LineProgram}
use Rattle.mid_lines.specs.Lines.{lines_in, line_of}
use Rattle.mid_lines.specs.StackLaw.{frame_of}
use Rattle.mid_lines.proofs.Conjunctions.{front_true, back_true}
use Rattle.back_places.specs.Places.{Located}
use Rattle.back_places.specs.Operands.{read_in}
use Rattle.back_places.specs.Selection.{WithinBranch, WithinJump, jump_code, branch_code}
use Rattle.back_places.specs.LineCode.{before_call_code, tested_code, line_code}
use Rattle.back_places.specs.Good.{Reaches}
use Rattle.back_layout.specs.Sizes.{procedure_rests, entry_size, procedure_size, code_size, all_targets, lines_there}
use Rattle.back_layout.specs.Layout.{first_at, entry_place, body_place, line_place, placed, all_far, is_near_branch, is_near_jump, line_is_near}
use Rattle.back_layout.proofs.Lengths.{with_jumps}
use Rattle.back_layout.proofs.Closer.{Closer, and_then, moved_on, closer_at, less_at}
use Rattle.back_layout.proofs.Rests.{rests_below, procedure_shrunk, codes_closer}
use Rattle.back_layout.proofs.Positions.{next_procedure, line_after}

-- numbers alone

rests_closer :
    (body body' first here there first' here' there' : ℕ) → Closer there here there' here' → here ≤ first → here' ≤ first'
    → Closer (body + (first - here)) (body + (first - there)) (body' + (first' - here')) (body' + (first' - there'))
rests_closer body body' first here there first' here' there' h k k' = record {
  before = omega (arith, h.before, k);
  before' = omega (arith, h.before', k');
  closer = omega (arith, h.before, h.before', h.closer, k, k');
}

from_entry :
    (at at' size first here first' here' : ℕ) → Closer here first here' first' → Closer at (at + size + (first - here)) at' (at' + size + (first' - here'))
from_entry at at' size first here first' here' h = record {
  before = omega arith;
  before' = omega arith;
  closer = omega (arith, h.before, h.before', h.closer);
}

to_end :
    (at at' size first here first' here' tables : ℕ) → here ≤ first → here' ≤ first' → here' ≤ here
    → Closer (at + size + (first - here)) (at + (size + first + tables)) (at' + size + (first' - here')) (at' + (size + first' + tables))
to_end at at' size first here first' here' tables h h' k = record {
  before = omega (arith, h);
  before' = omega (arith, h');
  closer = omega (arith, h, h', k);
}

-- from within a line on, and up to there
from_within : (a b a' b' t : ℕ) → Closer a b a' b' → a + t ≤ b → a' + t ≤ b' → Closer (a + t) b (a' + t) b'
from_within a b a' b' t h k k' = record { before = k; before' = k'; closer = omega (arith, h.closer) }

up_to_within : (a b a' b' t : ℕ) → Closer a b a' b' → Closer a (b + t) a' (b' + t)
up_to_within a b a' b' t h = record { before = omega (arith, h.before); before' = omega (arith, h.before'); closer = omega (arith, h.closer) }

-- the same both ways
abbrev AreCloser : (from to from' to' : ℕ) → Type 0
AreCloser from to from' to' = Closer from to from' to' ⊎ Closer to from to' from'

jump_within : (from to from' to' : ℕ) → AreCloser from to from' to' → WithinJump from to → WithinJump from' to'
jump_within from to from' to' (inl h) w = record {
  behind = omega (arith, h.before, h.before', h.closer, w.behind);
  before = omega (arith, h.before');
}
jump_within from to from' to' (inr h) w = record {
  behind = omega (arith, h.before');
  before = omega (arith, h.before, h.before', h.closer, w.before);
}

branch_within : (from to from' to' : ℕ) → AreCloser from to from' to' → WithinBranch from to → WithinBranch from' to'
branch_within from to from' to' (inl h) w = record {
  behind = omega (arith, h.before, h.before', h.closer, w.behind);
  before = omega (arith, h.before');
}
branch_within from to from' to' (inr h) w = record {
  behind = omega (arith, h.before');
  before = omega (arith, h.before, h.before', h.closer, w.before);
}

tested_jump : (from to : ℕ) → is_near_jump from to ≡ true → WithinJump from to
tested_jump from to h = record {
  behind = ltb-true to (from + 2 ^ 18) (front_true (nat_lt to (from + 2 ^ 18)) (nat_le from (to + 2 ^ 18)) h);
  before = leb-true from (to + 2 ^ 18) (back_true (nat_lt to (from + 2 ^ 18)) (nat_le from (to + 2 ^ 18)) h);
}

tested_branch : (from to : ℕ) → is_near_branch from to ≡ true → WithinBranch from to
tested_branch from to h = record {
  behind = ltb-true to (from + 2 ^ 10) (front_true (nat_lt to (from + 2 ^ 10)) (nat_le from (to + 2 ^ 10)) h);
  before = leb-true from (to + 2 ^ 10) (back_true (nat_lt to (from + 2 ^ 10)) (nat_le from (to + 2 ^ 10)) h);
}

order : (i j : ℕ) → (i ≤ j) ⊎ (j < i)
order i j = by (nat_le i j) refl
  where
    by : (t : Bool) → nat_le i j ≡ t → (i ≤ j) ⊎ (j < i)
    by true e = inl (leb-true i j e)
    by false e = inr (grind (arith, nat_tests, e))

pub procedure_there :
    (program : LineProgram) (number line : ℕ) (x : Line) → line_of program number line ≡ Some x → (p : LineProcedure) × (slice_get program.procedures number ≡ Some p)
procedure_there program number line x e = by (slice_get program.procedures number) refl
  where
    by : (o : Option LineProcedure) → slice_get program.procedures number ≡ o → (p : LineProcedure) × (slice_get program.procedures number ≡ Some p)
    by None h = absurd (cc (sym (ap (λ u. slice_get (lines_in u) line) h) ∙ e))
    by (Some p) h = (p, h)

module _ (program : LineProgram) (l : Located) (near : ℕ → ℕ → Bool) where
  entry_kept : (number : ℕ) (o : Option LineProcedure) → entry_size (with_jumps l near) number o ≡ entry_size (all_far l) number o
  entry_kept number None = refl
  entry_kept number (Some p) = refl

  abbrev first_line : (number line : ℕ) → ℕ
  first_line number line = line_place program (all_far l) number line

  abbrev last_line : (number line : ℕ) → ℕ
  last_line number line = line_place program (with_jumps l near) number line

  abbrev first_entry : (number : ℕ) → ℕ
  first_entry number = entry_place program (all_far l) number

  abbrev last_entry : (number : ℕ) → ℕ
  last_entry number = entry_place program (with_jumps l near) number

  lines_closer : (number i j : ℕ) → i ≤ j → Closer (first_line number i) (first_line number j) (last_line number i) (last_line number j)
  lines_closer number i j h =
      let o = slice_get program.procedures number in
      let left = procedure_rests (all_far l) number o in
      let left' = procedure_rests (with_jumps l near) number o in
      rests_closer (body_place program (all_far l) number) (body_place program (with_jumps l near) number)
      (slice_index left 0) (slice_index left i) (slice_index left j) (slice_index left' 0) (slice_index left' i) (slice_index left' j)
      (closer_at left left' i j (procedure_shrunk l near number o) h) (rests_below (all_far l) number i o) (rests_below (with_jumps l near) number i o)

  entry_closer : (number line : ℕ) → Closer (first_entry number) (first_line number line) (last_entry number) (last_line number line)
  entry_closer number line =
      let o = slice_get program.procedures number in
      let left = procedure_rests (all_far l) number o in
      let left' = procedure_rests (with_jumps l near) number o in
      subst (λ n. Closer (first_entry number) (first_line number line) (last_entry number) (last_entry number + n + (slice_index left' 0 - slice_index left' line)))
      (sym (entry_kept number o))
      (from_entry (first_entry number) (last_entry number) (entry_size (all_far l) number o) (slice_index left 0) (slice_index left line) (slice_index left' 0) (slice_index left' line)
      (closer_at left left' 0 line (procedure_shrunk l near number o) (omega arith)))

  -- the position of the next procedure
  next_entry : (l : Located) (number : ℕ) (p : LineProcedure) → slice_get program.procedures number ≡ Some p
      → entry_place program l (suc number)
      ≡ entry_place program l number
      + (entry_size l number (slice_get program.procedures number) + slice_index (procedure_rests l number (slice_get program.procedures number)) 0
      + length (all_targets (lines_there (slice_get program.procedures number))))
  next_entry l number p h =
      let a = next_procedure l 0 number number program.procedures p (omega arith) h in
      let b = ap (λ o. entry_size l number o + slice_index (procedure_rests l number o) 0 + length (all_targets (lines_there o))) h in
      by (first_at program l) (code_size l 0 (take (suc number) program.procedures)) (code_size l 0 (take number program.procedures)) (procedure_size l number p) _ a b
    where
      by : (first all before size size' : ℕ) → all ≡ before + size → size' ≡ size → first + all ≡ first + before + size'
      by first all before size size' a b = omega (arith, a, b)

  end_closer :
      (number line : ℕ) (p : LineProcedure) → slice_get program.procedures number ≡ Some p
      → Closer (first_line number line) (first_entry (suc number)) (last_line number line) (last_entry (suc number))
  end_closer number line p h =
      let o = slice_get program.procedures number in
      let left = procedure_rests (all_far l) number o in
      let left' = procedure_rests (with_jumps l near) number o in
      by (first_entry number) (last_entry number) (entry_size (all_far l) number o) (entry_size (with_jumps l near) number o) (slice_index left 0) (slice_index left line)
      (slice_index left' 0) (slice_index left' line) (length (all_targets (lines_there o))) (first_entry (suc number)) (last_entry (suc number))
      (entry_kept number o) (next_entry (all_far l) number p h) (next_entry (with_jumps l near) number p h)
      (rests_below (all_far l) number line o) (rests_below (with_jumps l near) number line o) (less_at left left' line (procedure_shrunk l near number o))
    where
      by : (at at' size size' first here first' here' tables next next' : ℕ) → size' ≡ size → next ≡ at + (size + first + tables) → next' ≡ at' + (size' + first' + tables)
          → here ≤ first → here' ≤ first' → here' ≤ here
          → Closer (at + size + (first - here)) next (at' + size' + (first' - here')) next'
      by at at' size size' first here first' here' tables next next' same n n' h h' k = record {
        before = omega (arith, n, h);
        before' = omega (arith, n', h');
        closer = omega (arith, same, n, n', h, h', k);
      }

  entries_closer : (n m : ℕ) → n ≤ m → Closer (first_entry n) (first_entry m) (last_entry n) (last_entry m)
  entries_closer n m h =
      moved_on (first_at program l) (first_at program l) (code_size (all_far l) 0 (take n program.procedures)) (code_size (all_far l) 0 (take m program.procedures))
      (code_size (with_jumps l near) 0 (take n program.procedures)) (code_size (with_jumps l near) 0 (take m program.procedures)) (codes_closer l near 0 program.procedures n m h)

  -- from a line, some words on, to a line of the same procedure, and to a procedure
  module _ (number line t : ℕ) (within : first_line number line + t ≤ first_line number (suc line)) (within' : last_line number line + t ≤ last_line number (suc line)) where
    to_line : (to : ℕ) → AreCloser (first_line number line + t) (first_line number to) (last_line number line + t) (last_line number to)
    to_line to = by (order to line)
      where
        by : (to ≤ line) ⊎ (line < to) → AreCloser (first_line number line + t) (first_line number to) (last_line number line + t) (last_line number to)
        by (inl h) = inr (up_to_within (first_line number to) (first_line number line) (last_line number to) (last_line number line) t (lines_closer number to line h))
        by (inr h) =
            let next = lines_closer number (suc line) to h in
            inl (from_within (first_line number line) (first_line number to) (last_line number line) (last_line number to) t (lines_closer number line to (omega (arith, h)))
            (omega (arith, within, next.before)) (omega (arith, within', next.before')))

    to_entry : (p : LineProcedure) → slice_get program.procedures number ≡ Some p → (n : ℕ)
        → AreCloser (first_line number line + t) (first_entry n) (last_line number line + t) (last_entry n)
    to_entry p there n = by (order n number)
      where
        by : (n ≤ number) ⊎ (number < n) → AreCloser (first_line number line + t) (first_entry n) (last_line number line + t) (last_entry n)
        by (inl h) =
            inr (up_to_within (first_entry n) (first_line number line) (last_entry n) (last_line number line) t
            (and_then (first_entry n) (first_entry number) (first_line number line) (last_entry n) (last_entry number) (last_line number line) (entries_closer n number h) (entry_closer number line)))
        by (inr h) =
            let next = end_closer number (suc line) p there in
            let after = entries_closer (suc number) n h in
            inl (from_within (first_line number line) (first_entry n) (last_line number line) (last_entry n) t
            (and_then (first_line number line) (first_entry (suc number)) (first_entry n) (last_line number line) (last_entry (suc number)) (last_entry n) (end_closer number line p there) after)
            (omega (arith, within, next.before, after.before)) (omega (arith, within', next.before', after.before')))

  -- what stands in front of a jump is within its line
  jump_behind : (l : Located) (number line t : ℕ) (x : Line) → line_of program number line ≡ Some x
      → t ≤ length (line_code (placed program l) number (frame_of program number).words line x)
      → line_place program l number line + t ≤ line_place program l number (suc line)
  jump_behind l number line t x e h =
      let a = line_after program l number line x e in
      let one_more : line + 1 ≡ suc line = omega arith in
      let b = ap (line_place program l number) one_more in
      by (line_place program l number line) t (line_place program l number (line + 1)) (line_place program l number (suc line)) _ _ a b h
    where
      by : (at t next next' code behind : ℕ) → next ≡ at + (code + behind) → next ≡ next' → t ≤ code → at + t ≤ next'
      by at t next next' code behind a b h = omega (arith, a, b, h)

  front_within : {X : Type 0} (xs ys : List X) → length xs ≤ length (xs ++ ys)
  front_within xs ys = omega (arith, length-append xs ys)

  operation_reaches :
      (number line : ℕ) (o : Operation) → line_of program number line ≡ Some (Do o) → line_is_near (placed program (all_far l)) number line (Do o) ≡ true
      → Reaches (placed program (with_jumps l near)) number line (Do o)
  operation_reaches number line (operation.Call to (Procedure n) arguments) e h =
      let t = length (before_call_code l number line (Procedure n) arguments) in
      let there = procedure_there program number line (Do (operation.Call to (Procedure n) arguments)) e in
      jump_within (first_line number line + t) (first_entry n) (last_line number line + t) (last_entry n)
      (to_entry number line t
      (jump_behind (all_far l) number line t (Do (operation.Call to (Procedure n) arguments)) e (front_within (before_call_code l number line (Procedure n) arguments) (jump_code false 1 (first_line number line + t) (first_entry n))))
      (jump_behind (with_jumps l near) number line t (Do (operation.Call to (Procedure n) arguments)) e (front_within (before_call_code l number line (Procedure n) arguments) (jump_code (near number line) 1 (last_line number line + t) (last_entry n))))
      there.0 there.1 n)
      (tested_jump (first_line number line + t) (first_entry n) h)
  operation_reaches number line (operation.Call to (Word r) arguments) e h = tt
  operation_reaches number line o e h = tt

  pub reaches :
      (number line : ℕ) (x : Line) → line_of program number line ≡ Some x → line_is_near (placed program (all_far l)) number line x ≡ true
      → Reaches (placed program (with_jumps l near)) number line x
  reaches number line (Do o) e h = operation_reaches number line o e h
  reaches number line (Branch test otherwise) e h =
      let t = length (tested_code l number line test.first test.second) in
      branch_within (first_line number line + t) (first_line number otherwise) (last_line number line + t) (last_line number otherwise)
      (to_line number line t
      (jump_behind (all_far l) number line t (Branch test otherwise) e
      (front_within (tested_code l number line test.first test.second)
      (branch_code false test.comparison (read_in 5 (l.source number line test.first)) (read_in 6 (l.source number line test.second)) (first_line number line + t) (first_line number otherwise))))
      (jump_behind (with_jumps l near) number line t (Branch test otherwise) e
      (front_within (tested_code l number line test.first test.second)
      (branch_code (near number line) test.comparison (read_in 5 (l.source number line test.first)) (read_in 6 (l.source number line test.second)) (last_line number line + t) (last_line number otherwise))))
      otherwise)
      (tested_branch (first_line number line + t) (first_line number otherwise) h)
  reaches number line (Jump to) e h =
      jump_within (first_line number line) (first_line number to) (last_line number line) (last_line number to) (either (order to line))
      (tested_jump (first_line number line) (first_line number to) h)
    where
      either : (to ≤ line) ⊎ (line < to) → AreCloser (first_line number line) (first_line number to) (last_line number line) (last_line number to)
      either (inl k) = inr (lines_closer number to line k)
      either (inr k) = inl (lines_closer number line to (omega (arith, k)))
  reaches number line x e h = tt
