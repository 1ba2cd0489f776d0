-- Positions follow each other: each is behind the one before by the length of the code there.
use Rattle.std.proofs.Common.{◌≡◌, ℕ, zero, suc, ◌+◌, ◌-◌, ◌*◌, ◌^◌, ◌<◌, ◌≤◌, Bool, true, false, List, [], ◌∷◌, length, take, Some, refl, sym, ap, ◌∙◌, arith, ltb-true}
use Rattle.std.specs.Prelude.{◌&&◌, ◌==◌, nat_lt, slice_get, slice_index}
use Rattle.mid_lines.specs.declared.line.Line.{Line}
use Rattle.mid_lines.specs.declared.line.Line.TheVariants.{Jump}
use Rattle.mid_lines.specs.declared.line.LineProcedure.{LineProcedure}
use Rattle.mid_lines.specs.declared.line.LineProgram.{LineProgram}
use Rattle.mid_lines.specs.Lines.{line_of}
use Rattle.mid_lines.specs.StackLaw.{frame_of}
use Rattle.back_places.specs.Places.{Located}
use Rattle.back_places.specs.LineCode.{line_code, behind_code, entry_code}
use Rattle.back_layout.specs.Sizes.{unplaced, jump_size, line_size, procedure_rests, entry_size, procedure_size, code_size, all_targets, lines_there}
use Rattle.back_layout.specs.Layout.{first_at, entry_place, body_place, line_place, table_place, behind_size, back_place, placed}
use Rattle.back_layout.specs.Laws.{ArePositions}
use Rattle.back_layout.proofs.Lengths.{IsNoJump, line_same, behind_same, entry_same, jump_same}
use Rattle.back_layout.proofs.Closer.{same_tests}
use Rattle.back_layout.proofs.Rests.{LineStep, line_step, rests_below}

-- the words of procedures before one, and its own, are within those of all
pub procedure_within :
    (l : Located) (from n number : ℕ) (ps : List LineProcedure) → number ≡ from + n
    → code_size l from (take n ps)
    + (entry_size l number (slice_get ps n) + slice_index (procedure_rests l number (slice_get ps n)) 0 + length (all_targets (lines_there (slice_get ps n))))
    ≤ code_size l from ps
procedure_within l from zero number [] e = omega arith
procedure_within l from (suc n) number [] e = omega arith
procedure_within l from zero number (p ∷ ps) e =
    let same : number ≡ from = omega (arith, e) in
    let sizes = ap (λ k. procedure_size l k p) same in
    omega (arith, sizes)
procedure_within l from (suc n) number (p ∷ ps) e =
    let h = procedure_within l (from + 1) n number ps (omega (arith, e)) in
    omega (arith, h)

pub next_procedure :
    (l : Located) (from n number : ℕ) (ps : List LineProcedure) (p : LineProcedure) → number ≡ from + n → slice_get ps n ≡ Some p
    → code_size l from (take (suc n) ps) ≡ code_size l from (take n ps) + procedure_size l number p
next_procedure l from n number [] p e h = absurd (cc h)
next_procedure l from zero number (q ∷ qs) p e h =
    let same : q ≡ p = cc h in
    let there : number ≡ from = omega (arith, e) in
    let sizes = ap (λ z. procedure_size l from z) same ∙ ap (λ k. procedure_size l k p) (sym there) in
    omega (arith, sizes)
next_procedure l from (suc n) number (q ∷ qs) p e h =
    let k = next_procedure l (from + 1) n number qs p (omega (arith, e)) h in
    omega (arith, k)

-- numbers alone

after_line :
    (body first here next later size code behind : ℕ) → here ≡ later + size → later ≡ next → size ≡ code + behind → here ≤ first
    → body + (first - next) ≡ body + (first - here) + (code + behind)
after_line body first here next later size code behind falls same is below = omega (arith, falls, same, is, below)

before_behind : (at next code behind behind' : ℕ) → next ≡ at + (code + behind) → behind' ≡ behind → next - behind' ≡ at + code
before_behind at next code behind behind' e same = omega (arith, e, same)

same_left : (body first a b : ℕ) → a ≤ first → b ≤ first → (body + (first - a) == body + (first - b)) ≡ (a == b)
same_left body first a b h k =
    same_tests (body + (first - a)) (body + (first - b)) a b (λ e. omega (arith, e, h, k)) (λ e. ap (λ n. body + (first - n)) e)

module _ (program : LineProgram) (l : Located) where
  -- a jump is silent at these positions where what is left says so

  silent_at :
      (number line to : ℕ) (s : LineStep l (procedure_rests l number (slice_get program.procedures number)) number (frame_of program number).words line (Jump to))
      → (t : Bool) → nat_lt line to ≡ t
      → (t && (line_place program l number to == line_place program l number (line + 1)))
      ≡ (t && (slice_index s.later (to - (line + 1)) == slice_index s.later 0))
  silent_at number line to s false e = refl
  silent_at number line to s true e =
      let left = procedure_rests l number (slice_get program.procedures number) in
      let forward = ltb-true line to e in
      let there = rests_below l number to (slice_get program.procedures number) in
      let here = rests_below l number (line + 1) (slice_get program.procedures number) in
      let one_more : suc line ≡ line + 1 = omega arith in
      let reached : suc (line + (to - (line + 1))) ≡ to = omega (arith, forward) in
      let a = s.later_are (to - (line + 1)) (line + (to - (line + 1))) refl ∙ ap (λ k. slice_index left k) reached in
      let b = s.later_are 0 line (omega arith) ∙ ap (λ k. slice_index left k) one_more in
      same_left (body_place program l number) (slice_index left 0) (slice_index left to) (slice_index left (line + 1)) there here
      ∙ sym (ap (λ k. k == slice_index s.later 0) a ∙ ap (λ k. slice_index left to == k) b)

  no_jump :
      (number frame line : ℕ) (x : Line) → IsNoJump x
      → length (line_code (unplaced l) number frame line x) + length (behind_code (unplaced l) number line x)
      ≡ length (line_code (placed program l) number frame line x) + length (behind_code (unplaced l) number line x)
  no_jump number frame line x h =
      ap (λ n. n + length (behind_code (unplaced l) number line x))
      (sym (line_same l (entry_place program l) (line_place program l) (back_place program l) (table_place program l) (first_at program l + code_size l 0 program.procedures) number frame line x h))

  size_is :
      (number line : ℕ) (x : Line) (s : LineStep l (procedure_rests l number (slice_get program.procedures number)) number (frame_of program number).words line x)
      → line_size l number (frame_of program number).words line x s.later
      ≡ length (line_code (placed program l) number (frame_of program number).words line x) + length (behind_code (unplaced l) number line x)
  size_is number line (Jump to) s =
      let a = jump_same l (entry_place program l) (line_place program l) (back_place program l) (table_place program l) (first_at program l + code_size l 0 program.procedures) number (frame_of program number).words line to in
      let b = ap (λ t. jump_size t (l.near number line)) (silent_at number line to s (nat_lt line to) refl) in
      omega (arith, a, b)
  size_is number line x s = no_jump number (frame_of program number).words line x tt

  pub line_after :
      (number line : ℕ) (x : Line) → line_of program number line ≡ Some x
      → line_place program l number (line + 1)
      ≡ line_place program l number line
      + (length (line_code (placed program l) number (frame_of program number).words line x) + length (behind_code (unplaced l) number line x))
  line_after number line x e =
      let left = procedure_rests l number (slice_get program.procedures number) in
      let s = line_step l number line (slice_get program.procedures number) x e in
      let one_more : suc line ≡ line + 1 = omega arith in
      after_line (body_place program l number) (slice_index left 0) (slice_index left line) (slice_index left (line + 1)) (slice_index s.later 0)
      (line_size l number (frame_of program number).words line x s.later)
      (length (line_code (placed program l) number (frame_of program number).words line x)) (length (behind_code (unplaced l) number line x))
      s.falls (s.later_are 0 line (omega arith) ∙ ap (λ k. slice_index left k) one_more) (size_is number line x s)
      (rests_below l number line (slice_get program.procedures number))

  pub back_is :
      (number line : ℕ) (x : Line) → line_of program number line ≡ Some x
      → back_place program l number line
      ≡ line_place program l number line + length (line_code (placed program l) number (frame_of program number).words line x)
  back_is number line x e =
      before_behind (line_place program l number line) (line_place program l number (line + 1))
      (length (line_code (placed program l) number (frame_of program number).words line x)) (length (behind_code (unplaced l) number line x))
      (behind_size l number line (line_of program number line)) (line_after number line x e) (ap (behind_size l number line) e)

  pub behind_is :
      (number line : ℕ) (x : Line) → line_of program number line ≡ Some x
      → line_place program l number (line + 1) ≡ back_place program l number line + length (behind_code (placed program l) number line x)
  behind_is number line x e =
      let a = line_after number line x e in
      let b = back_is number line x e in
      let c = ap length (behind_same l (entry_place program l) (line_place program l) (back_place program l) (table_place program l) (first_at program l + code_size l 0 program.procedures) number line x) in
      by (line_place program l number (line + 1)) (line_place program l number line) (back_place program l number line)
      (length (line_code (placed program l) number (frame_of program number).words line x)) (length (behind_code (unplaced l) number line x))
      (length (behind_code (placed program l) number line x)) a b c
    where
      by : (next at back code behind behind' : ℕ) → next ≡ at + (code + behind) → back ≡ at + code → behind' ≡ behind → next ≡ back + behind'
      by next at back code behind behind' a b c = omega (arith, a, b, c)

  pub entry_is :
      (number : ℕ) (p : LineProcedure) → slice_get program.procedures number ≡ Some p
      → line_place program l number 0 ≡ entry_place program l number + length (entry_code (placed program l) number p.frame)
  entry_is number p h =
      let left = procedure_rests l number (slice_get program.procedures number) in
      let a = ap (entry_size l number) h in
      let b = entry_same l (entry_place program l) (line_place program l) (back_place program l) (table_place program l) (first_at program l + code_size l 0 program.procedures) number p.frame in
      by (entry_place program l number) (entry_size l number (slice_get program.procedures number)) (slice_index left 0)
      (length (entry_code (unplaced l) number p.frame)) (length (entry_code (placed program l) number p.frame)) a b
    where
      by : (at size first u v : ℕ) → size ≡ u → v ≡ u → at + size + (first - first) ≡ at + v
      by at size first u v a b = omega (arith, a, b)

  -- what a procedure has stands before the end of all code
  pub tables_within :
      (number : ℕ)
      → body_place program l number + slice_index (procedure_rests l number (slice_get program.procedures number)) 0
      + length (all_targets (lines_there (slice_get program.procedures number)))
      ≤ first_at program l + code_size l 0 program.procedures
  tables_within number =
      let h = procedure_within l 0 number number program.procedures (omega arith) in
      by (first_at program l) (code_size l 0 (take number program.procedures)) (entry_size l number (slice_get program.procedures number)) _ _ _ h
    where
      by : (first before entry left tables all : ℕ) → before + (entry + left + tables) ≤ all → first + before + entry + left + tables ≤ first + all
      by first before entry left tables all h = omega (arith, h)

  pub line_within : (number line : ℕ) → line_place program l number line ≤ first_at program l + code_size l 0 program.procedures
  line_within number line =
      by (body_place program l number) _ _ (slice_index (procedure_rests l number (slice_get program.procedures number)) line) _ (tables_within number)
    where
      by : (body first tables here all : ℕ) → body + first + tables ≤ all → body + (first - here) ≤ all
      by body first tables here all h = omega (arith, h)

  address_small : (at end : ℕ) → at ≤ end → end < 2 ^ 24 → 4 * at < 2 ^ 32
  address_small at end h k = omega (arith, h, k)

  pub positions_are : ArePositions program (placed program l)
  positions_are = record {
    entries = entry_is;
    lines = back_is;
    behind = behind_is;
    within = line_within;
    words = λ low number line.
        address_small (line_place program l number line) (first_at program l + code_size l 0 program.procedures) (line_within number line) low;
  }
