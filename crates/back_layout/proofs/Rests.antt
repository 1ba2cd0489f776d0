-- What is left from each line on: it falls by the words of a line, and with more jumps near it falls by no more.
use Rattle.std.proofs.Common.{◌≡◌, ℕ, zero, suc, ◌+◌, ◌-◌, ◌≤◌, Bool, List, [], ◌∷◌, length, take, Option, Some, None, sym, ap, ◌∙◌, arith}
use Rattle.std.specs.Prelude.{nat_lt, slice_get, slice_index}
use Rattle.mid_lines.specs.declared.line.Line.{Line}
use Rattle.mid_lines.specs.declared.line.Line.TheVariants.{Do, Branch, Switch, Jump, Lay, Landed, GiveBack, Lend, GiveBackLent, Return, Cut, Halt, Unhandled}
use Rattle.mid_lines.specs.declared.line.LineProcedure.{LineProcedure}
use Rattle.mid_lines.specs.Lines.{lines_in}
use Rattle.mid_lines.specs.StackLaw.{frame_in}
use Rattle.back_places.specs.Places.{Located}
use Rattle.back_layout.specs.Sizes.{own_size, line_size, rests, procedure_rests, procedure_size, code_size}
use Rattle.back_layout.specs.Layout.{all_far}
use Rattle.back_layout.proofs.Closer.{Closer, Shrunk, closer_at, less_at, same_place, moved_on, jump_shrunk}
use Rattle.back_layout.proofs.Lengths.{IsNoJump, with_jumps, line_no_longer, behind_kept}

-- what is left from a line on: the words of that line, and what is left from the next one on
pub record LineStep (l : Located) (left : List ℕ) (number frame line : ℕ) (x : Line) : Type 0 where
  pub later : List ℕ
  pub falls : slice_index left line ≡ slice_index later 0 + line_size l number frame line x later
  pub later_are : (k m : ℕ) → m ≡ line + k → slice_index later k ≡ slice_index left (suc m)

module _ (l : Located) (number frame : ℕ) where
  pub below_first : (line i : ℕ) (xs : List Line) → slice_index (rests l number frame line xs) i ≤ slice_index (rests l number frame line xs) 0
  below_first line zero xs = omega arith
  below_first line (suc i) [] = omega arith
  below_first line (suc i) (x ∷ xs) =
      let h = below_first (line + 1) i xs in
      omega (arith, h)

  -- the same in lines that begin at a number, for the line of another
  record StepAt (left : List ℕ) (line i : ℕ) (x : Line) : Type 0 where
    pub later : List ℕ
    pub falls : slice_index left i ≡ slice_index later 0 + line_size l number frame line x later
    pub later_are : (k m : ℕ) → m ≡ i + k → slice_index later k ≡ slice_index left (suc m)

  step_at : (from i line : ℕ) (xs : List Line) (x : Line) → line ≡ from + i → slice_get xs i ≡ Some x → StepAt (rests l number frame from xs) line i x
  step_at from i line [] x e h = absurd (cc h)
  step_at from zero line (y ∷ ys) x e h =
      let same : y ≡ x = cc h in
      let there : line ≡ from = omega (arith, e) in
      record {
        later = rests l number frame (from + 1) ys;
        falls =
            ap (λ z. slice_index (rests l number frame (from + 1) ys) 0 + line_size l number frame from z (rests l number frame (from + 1) ys)) same
            ∙ ap (λ n. slice_index (rests l number frame (from + 1) ys) 0 + line_size l number frame n x (rests l number frame (from + 1) ys)) (sym there);
        later_are = λ k m is. let n : k ≡ m = omega (arith, is) in ap (λ j. slice_index (rests l number frame (from + 1) ys) j) n;
      }
  step_at from (suc i) line (y ∷ ys) x e h =
      let s = step_at (from + 1) i line ys x (omega (arith, e)) h in
      record { later = s.later; falls = s.falls; later_are = λ k m is. by s k m is }
    where
      by : (s : StepAt (rests l number frame (from + 1) ys) line i x) (k m : ℕ) → m ≡ suc i + k → slice_index s.later k ≡ slice_index (rests l number frame (from + 1) ys) m
      by s k zero is = absurd (omega (arith, is))
      by s k (suc m) is = s.later_are k m (omega (arith, is))

pub line_step :
    (l : Located) (number line : ℕ) (o : Option LineProcedure) (x : Line) → slice_get (lines_in o) line ≡ Some x
    → LineStep l (procedure_rests l number o) number (frame_in o).words line x
line_step l number line None x h = absurd (cc h)
line_step l number line (Some p) x h =
    let s = step_at l number p.frame 0 line line p.lines x (omega arith) h in
    record { later = s.later; falls = s.falls; later_are = s.later_are }

pub rests_below :
    (l : Located) (number line : ℕ) (o : Option LineProcedure)
    → slice_index (procedure_rests l number o) line ≤ slice_index (procedure_rests l number o) 0
rests_below l number zero None = omega arith
rests_below l number (suc line) None = omega arith
rests_below l number line (Some p) = below_first l number p.frame 0 line p.lines

-- with other jumps near

module _ (l : Located) (near : ℕ → ℕ → Bool) where
  own_smaller : (number frame line : ℕ) (x : Line) → IsNoJump x → own_size (with_jumps l near) number frame line x ≤ own_size (all_far l) number frame line x
  own_smaller number frame line x h =
      let a = line_no_longer l near number frame line x h in
      let b = ap length (behind_kept l near number line x) in
      omega (arith, a, b)

  line_smaller :
      (number frame line : ℕ) (x : Line) (us vs : List ℕ) → Shrunk us vs
      → line_size (with_jumps l near) number frame line x vs ≤ line_size (all_far l) number frame line x us
  line_smaller number frame line (Jump to) us vs h =
      jump_shrunk (nat_lt line to) (near number line) (slice_index us (to - (line + 1))) (slice_index us 0) (slice_index vs (to - (line + 1))) (slice_index vs 0)
      (closer_at us vs 0 (to - (line + 1)) h (omega arith))
  line_smaller number frame line (Do o) us vs h = own_smaller number frame line (Do o) tt
  line_smaller number frame line (Branch test otherwise) us vs h = own_smaller number frame line (Branch test otherwise) tt
  line_smaller number frame line (Switch r targets) us vs h = own_smaller number frame line (Switch r targets) tt
  line_smaller number frame line (Lay block words landing) us vs h = own_smaller number frame line (Lay block words landing) tt
  line_smaller number frame line (Landed r) us vs h = own_smaller number frame line (Landed r) tt
  line_smaller number frame line (GiveBack words) us vs h = own_smaller number frame line (GiveBack words) tt
  line_smaller number frame line (Lend block words) us vs h = own_smaller number frame line (Lend block words) tt
  line_smaller number frame line GiveBackLent us vs h = own_smaller number frame line GiveBackLent tt
  line_smaller number frame line (Return r) us vs h = own_smaller number frame line (Return r) tt
  line_smaller number frame line (Cut block word) us vs h = own_smaller number frame line (Cut block word) tt
  line_smaller number frame line (Halt r) us vs h = own_smaller number frame line (Halt r) tt
  line_smaller number frame line (Unhandled class site condition) us vs h = own_smaller number frame line (Unhandled class site condition) tt

  with_line_shrunk : (a b s s' : ℕ) → s' ≤ s → Closer a (a + s) b (b + s')
  with_line_shrunk a b s s' h = record { before = omega arith; before' = omega arith; closer = omega (arith, h) }

  rests_shrunk : (number frame line : ℕ) (xs : List Line) → Shrunk (rests (all_far l) number frame line xs) (rests (with_jumps l near) number frame line xs)
  rests_shrunk number frame line [] = (same_place 0 0, tt)
  rests_shrunk number frame line (x ∷ xs) =
      let h = rests_shrunk number frame (line + 1) xs in
      let us = rests (all_far l) number frame (line + 1) xs in
      let vs = rests (with_jumps l near) number frame (line + 1) xs in (
        with_line_shrunk (slice_index us 0) (slice_index vs 0) (line_size (all_far l) number frame line x us) (line_size (with_jumps l near) number frame line x vs)
            (line_smaller number frame line x us vs h),
        h,
      )

  pub procedure_shrunk : (number : ℕ) (o : Option LineProcedure) → Shrunk (procedure_rests (all_far l) number o) (procedure_rests (with_jumps l near) number o)
  procedure_shrunk number None = (same_place 0 0, tt)
  procedure_shrunk number (Some p) = rests_shrunk number p.frame 0 p.lines

  size_smaller : (number : ℕ) (p : LineProcedure) → procedure_size (with_jumps l near) number p ≤ procedure_size (all_far l) number p
  size_smaller number p =
      let h = less_at (procedure_rests (all_far l) number (Some p)) (procedure_rests (with_jumps l near) number (Some p)) 0 (procedure_shrunk number (Some p)) in
      omega (arith, h)

  pub code_smaller : (number : ℕ) (ps : List LineProcedure) → code_size (with_jumps l near) number ps ≤ code_size (all_far l) number ps
  code_smaller number [] = omega arith
  code_smaller number (p ∷ ps) =
      let h = code_smaller (number + 1) ps in
      let k = size_smaller number p in
      omega (arith, h, k)

  added_closer : (a u a' u' : ℕ) → Closer 0 u 0 u' → a' ≤ a → Closer 0 (a + u) 0 (a' + u')
  added_closer a u a' u' h k = record { before = omega arith; before' = omega arith; closer = omega (arith, h.closer, k) }

  pub codes_closer :
      (number : ℕ) (ps : List LineProcedure) (n m : ℕ) → n ≤ m
      → Closer (code_size (all_far l) number (take n ps)) (code_size (all_far l) number (take m ps))
      (code_size (with_jumps l near) number (take n ps)) (code_size (with_jumps l near) number (take m ps))
  codes_closer number ps zero m h = let k = code_smaller number (take m ps) in record { before = omega arith; before' = omega arith; closer = omega (arith, k) }
  codes_closer number ps (suc n) zero h = absurd (omega (arith, h))
  codes_closer number [] (suc n) (suc m) h = same_place 0 0
  codes_closer number (p ∷ ps) (suc n) (suc m) h =
      moved_on (procedure_size (all_far l) number p) (procedure_size (with_jumps l near) number p)
      (code_size (all_far l) (number + 1) (take n ps)) (code_size (all_far l) (number + 1) (take m ps))
      (code_size (with_jumps l near) (number + 1) (take n ps)) (code_size (with_jumps l near) (number + 1) (take m ps))
      (codes_closer (number + 1) ps n m (omega (arith, h)))
