-- Lines appended, with jumps that are written again.
use Rattle.std.proofs.Common.{◌≡◌, ℕ, zero, suc, refl, ◌+◌, ◌<◌, ◌≤◌, List, [], ◌∷◌, ◌++◌, length, drop, get_or, sym, ap, ◌∙◌, arith, append_assoc, length-append, drop-cons, add-one}
use Rattle.std.specs.Prelude.{slice_set}
use Rattle.std.proofs.Math.Seq.{set-append_seam}
use Rattle.std.proofs.lemmas.List.{length-set}
use Rattle.mid_code.specs.declared.operation.Counted.{Counted}
use Rattle.mid_code.specs.declared.operation.Test.{Test}
use Rattle.mid_code.specs.MidCode.{MidStep, choose, switch, repeat, with_block, MidCode, step_and, MidCodes, no_code, code_and, code_size, code_of}
use Rattle.mid_code.specs.model.View.{codes_of}
use Rattle.mid_code.specs.declared.code.SwitchCase.{SwitchCase}
use Rattle.mid_lines.specs.declared.line.Line.{Line}
use Rattle.mid_lines.specs.declared.line.Line.TheVariants.{Branch, Switch, Jump, Lay, Landed, GiveBack}
use Rattle.mid_lines.specs.Flattened.{step_line_count, line_count, codes_line_count, code_targets, code_jumps, jumps_written, step_lines, code_lines, codes_lines}
use Rattle.mid_lines.proofs.Lying.{step_length, code_length, codes_length}

-- a size is never nothing
pub code_size_above : (ss : List MidStep) → 0 < code_size (code_of ss)
code_size_above [] = omega arith
code_size_above (s ∷ ss) = omega arith

-- lines that were appended, and one line more
pub grown : (ss : List MidStep) (old new : List Line) → new ≡ old ++ code_lines (length old) (code_of ss) → length old ≤ length new
grown ss old new e = omega (arith, ap length e, length-append old (code_lines (length old) (code_of ss)))

pub one_more : (old new : List Line) (x : Line) → new ≡ old ++ x ∷ [] → length new ≡ length old + 1
one_more old new x e = omega (arith, ap length e, length-append old (x ∷ []))

-- lines of which one was written again
pub as_long : (old new : List Line) (at : ℕ) (x : Line) → new ≡ slice_set old at x → length new ≡ length old
as_long old new at x e = ap length e ∙ length-set old at x

-- the lines of one more step
step_more : (old : List Line) (s : MidStep) (c : MidCode) (new : List Line) → new ≡ old ++ step_lines (length old) s → new ++ code_lines (length new) c ≡ old ++ code_lines (length old) (step_and s c)
step_more old s c new e =
    let n : length new ≡ length old + step_line_count s = omega (arith, ap length e, length-append old (step_lines (length old) s), step_length s (length old)) in
    ap (λ k. new ++ code_lines k c) n ∙ ap (λ l. l ++ code_lines (length old + step_line_count s) c) e ∙ append_assoc old (step_lines (length old) s) _

-- what is left of a list, from a place where something stands
rest_at : {X : Type 0} (list items : List X) (i : ℕ) (x : X) → items ≡ list → i < length items → x ≡ get_or items i x → drop i list ≡ x ∷ drop (i + 1) list
rest_at list items i x same lt e =
    ap (drop i) (sym same) ∙ drop-cons items i x lt ∙ ap (λ y. y ∷ drop (suc i) items) (sym e) ∙ ap (λ l. x ∷ drop (suc i) l) same ∙ ap (λ k. x ∷ drop k list) (sym (add-one i))

pub appended_more :
    (lines new all : List Line) (code items : List MidStep) (i : ℕ) (s : MidStep) → items ≡ code → i < length items → s ≡ get_or items i s
    → new ≡ lines ++ step_lines (length lines) s → lines ++ code_lines (length lines) (code_of (drop i code)) ≡ all
    → new ++ code_lines (length new) (code_of (drop (i + 1) code)) ≡ all
appended_more lines new all code items i s same lt e m h =
    let here = rest_at code items i s same lt e in
    step_more lines s (code_of (drop (i + 1) code)) new m ∙ ap (λ l. lines ++ code_lines (length lines) (code_of l)) (sym here) ∙ h

-- writing again

two_writes :
    (c a b : List Line) (x y i j : Line)
    → slice_set (slice_set (c ++ x ∷ (a ++ y ∷ b)) (length c) i) (length (c ++ i ∷ a)) j ≡ c ++ i ∷ (a ++ j ∷ b)
two_writes c a b x y i j =
    ap (λ l. slice_set l (length (c ++ i ∷ a)) j) (set-append_seam c x (a ++ y ∷ b) i ∙ sym (append_assoc c (i ∷ a) (y ∷ b)))
    ∙ set-append_seam (c ++ i ∷ a) y b j
    ∙ append_assoc c (i ∷ a) (j ∷ b)

three_writes :
    (c a b d : List Line) (x y z i j k : Line)
    → slice_set (slice_set (slice_set (c ++ x ∷ (a ++ y ∷ (b ++ z ∷ d))) (length c) i) (length (c ++ i ∷ a)) j) (length (c ++ i ∷ (a ++ j ∷ b))) k
    ≡ c ++ i ∷ (a ++ j ∷ (b ++ k ∷ d))
three_writes c a b d x y z i j k =
    let regroup : (w : Line) → (c ++ i ∷ (a ++ j ∷ b)) ++ w ∷ d ≡ c ++ i ∷ (a ++ j ∷ (b ++ w ∷ d)) = λ w. simp append_assoc in
    ap (λ l. slice_set l (length (c ++ i ∷ (a ++ j ∷ b))) k) (two_writes c a (b ++ z ∷ d) x y i j ∙ sym (regroup z))
    ∙ set-append_seam (c ++ i ∷ (a ++ j ∷ b)) z d k
    ∙ regroup k

pub loop_written :
    (counted : Counted) (head body : MidCode) (t : Test) (old l1 l2 l3 l4 l5 : List Line) (x : Line) (start branch_at otherwise : ℕ)
    → start ≡ length old → l1 ≡ old ++ code_lines (length old) head → branch_at ≡ length l1 → l2 ≡ l1 ++ x ∷ [] → l3 ≡ l2 ++ code_lines (length l2) body
    → l4 ≡ l3 ++ Jump start ∷ [] → otherwise ≡ length l4 → l5 ≡ slice_set l4 branch_at (Branch t otherwise)
    → l5 ≡ old ++ step_lines (length old) (repeat counted head t body)
loop_written counted head body t old l1 l2 l3 l4 l5 x start branch_at otherwise m0 e1 m1 e2 e3 e4 m4 e5 =
    let at = length old in
    let a = code_lines at head in
    let b = code_lines (length l2) body in
    let n1 : length l1 ≡ at + line_count head = omega (arith, ap length e1, length-append old a, code_length head at) in
    let n2 : length l2 ≡ at + line_count head + 1 = omega (arith, n1, ap length e2, length-append l1 (x ∷ [])) in
    let n3 : length l3 ≡ at + line_count head + 1 + line_count body = omega (arith, n2, ap length e3, length-append l2 b, code_length body (length l2)) in
    let n4 : otherwise ≡ at + (line_count head + 1 + line_count body + 1) = omega (arith, m4, n3, ap length e4, length-append l3 (Jump start ∷ [])) in
    let all : l4 ≡ ((l1 ++ x ∷ []) ++ b) ++ Jump start ∷ [] = cc in
    let flat : ((l1 ++ x ∷ []) ++ b) ++ Jump start ∷ [] ≡ l1 ++ x ∷ (b ++ Jump start ∷ []) = simp append_assoc in
    e5
    ∙ ap (λ l. slice_set l branch_at (Branch t otherwise)) (all ∙ flat)
    ∙ ap (λ n. slice_set (l1 ++ x ∷ (b ++ Jump start ∷ [])) n (Branch t otherwise)) m1
    ∙ set-append_seam l1 x (b ++ Jump start ∷ []) (Branch t otherwise)
    ∙ ap (λ l. l ++ Branch t otherwise ∷ (b ++ Jump start ∷ [])) e1
    ∙ append_assoc old a (Branch t otherwise ∷ (b ++ Jump start ∷ []))
    ∙ ap (λ n. old ++ (a ++ Branch t n ∷ (b ++ Jump start ∷ []))) n4
    ∙ ap (λ n. old ++ (a ++ Branch t (at + (line_count head + 1 + line_count body + 1)) ∷ (code_lines n body ++ Jump start ∷ []))) n2
    ∙ ap (λ n. old ++ (a ++ Branch t (at + (line_count head + 1 + line_count body + 1)) ∷ (code_lines (at + line_count head + 1) body ++ Jump n ∷ []))) m0

pub choice_written :
    (first second : MidCode) (t : Test) (old l1 l2 l3 l4 l5 l6 l7 l8 : List Line) (x y z : Line) (branch_at jump_at otherwise last_at end : ℕ)
    → branch_at ≡ length old → l1 ≡ old ++ x ∷ [] → l2 ≡ l1 ++ code_lines (length l1) first → jump_at ≡ length l2 → l3 ≡ l2 ++ y ∷ [] → otherwise ≡ length l3
    → l4 ≡ l3 ++ code_lines (length l3) second → last_at ≡ length l4 → l5 ≡ l4 ++ z ∷ [] → end ≡ length l5
    → l6 ≡ slice_set l5 branch_at (Branch t otherwise) → l7 ≡ slice_set l6 jump_at (Jump end) → l8 ≡ slice_set l7 last_at (Jump end)
    → l8 ≡ old ++ step_lines (length old) (choose t first second)
choice_written first second t old l1 l2 l3 l4 l5 l6 l7 l8 x y z branch_at jump_at otherwise last_at end m0 e1 e2 m2 e3 m3 e4 m4 e5 m5 e6 e7 e8 =
    let at = length old in
    let a = code_lines (length l1) first in
    let b = code_lines (length l3) second in
    let i = Branch t otherwise in
    let j = Jump end in
    let last = Jump (at + step_line_count (choose t first second)) in
    let n1 : length l1 ≡ at + 1 = omega (arith, ap length e1, length-append old (x ∷ [])) in
    let n2 : length l2 ≡ at + 1 + line_count first = omega (arith, n1, ap length e2, length-append l1 a, code_length first (length l1)) in
    let n3 : length l3 ≡ at + 1 + line_count first + 1 = omega (arith, n2, ap length e3, length-append l2 (y ∷ [])) in
    let n4 : length l4 ≡ at + 1 + line_count first + 1 + line_count second = omega (arith, n3, ap length e4, length-append l3 b, code_length second (length l3)) in
    let n5 : end ≡ at + (1 + line_count first + 1 + line_count second + 1) = omega (arith, n4, m5, ap length e5, length-append l4 (z ∷ [])) in
    let o3 : otherwise ≡ at + 1 + line_count first + 1 = m3 ∙ n3 in
    let p2 : jump_at ≡ length (old ++ i ∷ a) = omega (arith, m2, n2, length-append old (i ∷ a), code_length first (length l1)) in
    let q : length (a ++ j ∷ b) ≡ line_count first + 1 + line_count second = omega (arith, length-append a (j ∷ b), code_length first (length l1), code_length second (length l3)) in
    let p4 : last_at ≡ length (old ++ i ∷ (a ++ j ∷ b)) = omega (arith, m4, n4, q, length-append old (i ∷ (a ++ j ∷ b))) in
    let all : l5 ≡ ((((old ++ x ∷ []) ++ a) ++ y ∷ []) ++ b) ++ z ∷ [] = cc in
    let flat : ((((old ++ x ∷ []) ++ a) ++ y ∷ []) ++ b) ++ z ∷ [] ≡ old ++ x ∷ (a ++ y ∷ (b ++ z ∷ [])) = simp append_assoc in
    let sets : l8 ≡ slice_set (slice_set (slice_set l5 branch_at i) jump_at j) last_at j = cc in
    sets
    ∙ ap (λ l. slice_set (slice_set (slice_set l branch_at i) jump_at j) last_at j) (all ∙ flat)
    ∙ ap (λ n. slice_set (slice_set (slice_set (old ++ x ∷ (a ++ y ∷ (b ++ z ∷ []))) n i) jump_at j) last_at j) m0
    ∙ ap (λ n. slice_set (slice_set (slice_set (old ++ x ∷ (a ++ y ∷ (b ++ z ∷ []))) at i) n j) last_at j) p2
    ∙ ap (λ n. slice_set (slice_set (slice_set (old ++ x ∷ (a ++ y ∷ (b ++ z ∷ []))) at i) (length (old ++ i ∷ a)) j) n j) p4
    ∙ three_writes old a b [] x y z i j j
    ∙ ap (λ n. old ++ Branch t n ∷ (a ++ j ∷ (b ++ j ∷ []))) o3
    ∙ ap (λ n. old ++ Branch t (at + 1 + line_count first + 1) ∷ (a ++ Jump n ∷ (b ++ Jump n ∷ []))) n5
    ∙ ap (λ n. old ++ Branch t (at + 1 + line_count first + 1) ∷ (code_lines n first ++ last ∷ (b ++ last ∷ []))) n1
    ∙ ap (λ n. old ++ Branch t (at + 1 + line_count first + 1) ∷ (code_lines (at + 1) first ++ last ∷ (code_lines n second ++ last ∷ []))) n3

pub record_written :
    (block words word : ℕ) (inside landing : MidCode) (old l1 l2 l3 l4 l5 l6 l7 l8 l9 : List Line) (x y : Line) (lay_at jump_at landing_at end : ℕ)
    → lay_at ≡ length old → l1 ≡ old ++ x ∷ [] → l2 ≡ l1 ++ code_lines (length l1) inside → l3 ≡ l2 ++ GiveBack words ∷ [] → jump_at ≡ length l3
    → l4 ≡ l3 ++ y ∷ [] → landing_at ≡ length l4 → l5 ≡ l4 ++ Landed word ∷ [] → l6 ≡ l5 ++ code_lines (length l5) landing
    → l7 ≡ l6 ++ GiveBack words ∷ [] → end ≡ length l7
    → l8 ≡ slice_set l7 lay_at (Lay block words landing_at) → l9 ≡ slice_set l8 jump_at (Jump end)
    → l9 ≡ old ++ step_lines (length old) (with_block block words word inside landing)
record_written block words word inside landing old l1 l2 l3 l4 l5 l6 l7 l8 l9 x y lay_at jump_at landing_at end m0 e1 e2 e3 m3 e4 m4 e5 e6 e7 m7 e8 e9 =
    let at = length old in
    let a = code_lines (length l1) inside in
    let b = code_lines (length l5) landing in
    let g = GiveBack words in
    let i = Lay block words landing_at in
    let j = Jump end in
    let lay = Lay block words (at + 1 + line_count inside + 2) in
    let over = Jump (at + step_line_count (with_block block words word inside landing)) in
    let n1 : length l1 ≡ at + 1 = omega (arith, ap length e1, length-append old (x ∷ [])) in
    let n2 : length l2 ≡ at + 1 + line_count inside = omega (arith, n1, ap length e2, length-append l1 a, code_length inside (length l1)) in
    let n3 : length l3 ≡ at + 1 + line_count inside + 1 = omega (arith, n2, ap length e3, length-append l2 (g ∷ [])) in
    let n4 : length l4 ≡ at + 1 + line_count inside + 2 = omega (arith, n3, ap length e4, length-append l3 (y ∷ [])) in
    let n5 : length l5 ≡ at + 1 + line_count inside + 3 = omega (arith, n4, ap length e5, length-append l4 (Landed word ∷ [])) in
    let n6 : length l6 ≡ at + 1 + line_count inside + 3 + line_count landing = omega (arith, n5, ap length e6, length-append l5 b, code_length landing (length l5)) in
    let n7 : end ≡ at + (1 + line_count inside + 3 + line_count landing + 1) = omega (arith, n6, m7, ap length e7, length-append l6 (g ∷ [])) in
    let o4 : landing_at ≡ at + 1 + line_count inside + 2 = m4 ∙ n4 in
    let q : length (a ++ g ∷ []) ≡ line_count inside + 1 = omega (arith, length-append a (g ∷ []), code_length inside (length l1)) in
    let p3 : jump_at ≡ length (old ++ i ∷ (a ++ g ∷ [])) = omega (arith, m3, n3, q, length-append old (i ∷ (a ++ g ∷ []))) in
    let all : l7 ≡ ((((((old ++ x ∷ []) ++ a) ++ g ∷ []) ++ y ∷ []) ++ Landed word ∷ []) ++ b) ++ g ∷ [] = cc in
    let flat :
    ((((((old ++ x ∷ []) ++ a) ++ g ∷ []) ++ y ∷ []) ++ Landed word ∷ []) ++ b) ++ g ∷ [] ≡ old ++ x ∷ ((a ++ g ∷ []) ++ y ∷ (Landed word ∷ (b ++ g ∷ []))) = simp append_assoc in
    let regroup : (v w : Line) → old ++ v ∷ ((a ++ g ∷ []) ++ w ∷ (Landed word ∷ (b ++ g ∷ []))) ≡ old ++ v ∷ (a ++ g ∷ w ∷ Landed word ∷ (b ++ g ∷ [])) = λ v w. simp append_assoc in
    let sets : l9 ≡ slice_set (slice_set l7 lay_at i) jump_at j = cc in
    sets
    ∙ ap (λ l. slice_set (slice_set l lay_at i) jump_at j) (all ∙ flat)
    ∙ ap (λ n. slice_set (slice_set (old ++ x ∷ ((a ++ g ∷ []) ++ y ∷ (Landed word ∷ (b ++ g ∷ [])))) n i) jump_at j) m0
    ∙ ap (λ n. slice_set (slice_set (old ++ x ∷ ((a ++ g ∷ []) ++ y ∷ (Landed word ∷ (b ++ g ∷ [])))) at i) n j) p3
    ∙ two_writes old (a ++ g ∷ []) (Landed word ∷ (b ++ g ∷ [])) x y i j
    ∙ regroup i j
    ∙ ap (λ n. old ++ Lay block words n ∷ (a ++ g ∷ j ∷ Landed word ∷ (b ++ g ∷ []))) o4
    ∙ ap (λ n. old ++ Lay block words (at + 1 + line_count inside + 2) ∷ (a ++ g ∷ Jump n ∷ Landed word ∷ (b ++ g ∷ []))) n7
    ∙ ap (λ n. old ++ lay ∷ (code_lines n inside ++ g ∷ over ∷ Landed word ∷ (b ++ g ∷ []))) n1
    ∙ ap (λ n. old ++ lay ∷ (code_lines (at + 1) inside ++ g ∷ over ∷ Landed word ∷ (code_lines n landing ++ g ∷ []))) n5

-- switches

-- one more code of a switch, with the jump behind it
module _ (lines l1 l2 : List Line) (c : MidCode) (rest : MidCodes) (e1 : l1 ≡ lines ++ code_lines (length lines) c) (e2 : l2 ≡ l1 ++ Jump 0 ∷ []) where
  behind_code : length l1 ≡ length lines + line_count c
  behind_code = omega (arith, ap length e1, length-append lines (code_lines (length lines) c), code_length c (length lines))

  behind_jump : length l2 ≡ length lines + line_count c + 1
  behind_jump = omega (arith, behind_code, ap length e2, length-append l1 (Jump 0 ∷ []))

  codes_more : l2 ++ codes_lines (length l2) 0 rest ≡ lines ++ codes_lines (length lines) 0 (code_and c rest)
  codes_more =
      let a = code_lines (length lines) c in
      let r = codes_lines (length lines + line_count c + 1) 0 rest in
      ap (λ k. l2 ++ codes_lines k 0 rest) behind_jump
      ∙ ap (λ l. l ++ r) (e2 ∙ ap (λ l. l ++ Jump 0 ∷ []) e1)
      ∙ append_assoc (lines ++ a) (Jump 0 ∷ []) r
      ∙ append_assoc lines a (Jump 0 ∷ r)

  targets_more :
      (targets more : List ℕ) → more ≡ targets ++ length lines ∷ []
      → more ++ code_targets (length l2) rest ≡ targets ++ code_targets (length lines) (code_and c rest)
  targets_more targets more e =
      let r = code_targets (length lines + line_count c + 1) rest in
      ap (λ k. more ++ code_targets k rest) behind_jump ∙ ap (λ l. l ++ r) e ∙ append_assoc targets (length lines ∷ []) r

  jumps_more :
      (jumps more : List ℕ) → more ≡ jumps ++ length l1 ∷ []
      → more ++ code_jumps (length l2) rest ≡ jumps ++ code_jumps (length lines) (code_and c rest)
  jumps_more jumps more e =
      let r = code_jumps (length lines + line_count c + 1) rest in
      ap (λ k. more ++ code_jumps k rest) behind_jump ∙ ap (λ l. l ++ r) e ∙ append_assoc jumps (length l1 ∷ []) r
      ∙ ap (λ k. jumps ++ k ∷ r) behind_code

-- what a loop over the codes of a switch leaves to do: lines, targets and jumps to append
abbrev pub CodesLeft : (lines all : List Line) → (targets all_targets jumps all_jumps : List ℕ) → MidCodes → Type 0
CodesLeft lines all targets all_targets jumps all_jumps codes =
    (lines ++ codes_lines (length lines) 0 codes ≡ all)
    × (targets ++ code_targets (length lines) codes ≡ all_targets)
    × (jumps ++ code_jumps (length lines) codes ≡ all_jumps)

pub code_appended :
    (lines l1 l2 all : List Line) (targets more_targets all_targets jumps more_jumps all_jumps : List ℕ) (codes items : List SwitchCase) (i : ℕ) (c : SwitchCase) (n m : ℕ)
    → items ≡ codes → i < length items → c ≡ get_or items i c
    → n ≡ length lines → more_targets ≡ targets ++ n ∷ [] → l1 ≡ lines ++ code_lines (length lines) (code_of c.code)
    → m ≡ length l1 → more_jumps ≡ jumps ++ m ∷ [] → l2 ≡ l1 ++ Jump 0 ∷ []
    → CodesLeft lines all targets all_targets jumps all_jumps (codes_of (drop i codes))
    → CodesLeft l2 all more_targets all_targets more_jumps all_jumps (codes_of (drop (i + 1) codes))
code_appended lines l1 l2 all targets more_targets all_targets jumps more_jumps all_jumps codes items i c n m same lt e en t e1 em j e2 h =
    let here : codes_of (drop i codes) ≡ code_and (code_of c.code) (codes_of (drop (i + 1) codes)) = ap codes_of (rest_at codes items i c same lt e) in
    let rest = codes_of (drop (i + 1) codes) in
    let begun = targets_more lines l1 l2 (code_of c.code) rest e1 e2 targets more_targets (t ∙ ap (λ k. targets ++ k ∷ []) en) in
    let behind = jumps_more lines l1 l2 (code_of c.code) rest e1 e2 jumps more_jumps (j ∙ ap (λ k. jumps ++ k ∷ []) em) in (
      codes_more lines l1 l2 (code_of c.code) rest e1 e2 ∙ ap (λ k. lines ++ codes_lines (length lines) 0 k) (sym here) ∙ h.0,
      begun ∙ ap (λ k. targets ++ code_targets (length lines) k) (sym here) ∙ h.1,
      behind ∙ ap (λ k. jumps ++ code_jumps (length lines) k) (sym here) ∙ h.2,
    )

-- the jumps of a switch that are written again
codes_written :
    (codes : MidCodes) (end : ℕ) (before : List Line) (n : ℕ) → length before ≡ n
    → jumps_written (code_jumps n codes) end (before ++ codes_lines n 0 codes) ≡ before ++ codes_lines n end codes
codes_written no_code end before n e = refl
codes_written (code_and c codes) end before n e =
    let a = code_lines n c in
    let rest = codes_lines (n + line_count c + 1) 0 codes in
    let last = codes_lines (n + line_count c + 1) end codes in
    let js = code_jumps (n + line_count c + 1) codes in
    let m : length (before ++ a) ≡ n + line_count c = omega (arith, e, length-append before a, code_length c n) in
    let longer : length ((before ++ a) ++ Jump end ∷ []) ≡ n + line_count c + 1 = omega (arith, m, length-append (before ++ a) (Jump end ∷ [])) in
    ap (λ l. jumps_written js end (slice_set l (n + line_count c) (Jump end))) (sym (append_assoc before a (Jump 0 ∷ rest)))
    ∙ ap (λ k. jumps_written js end (slice_set ((before ++ a) ++ Jump 0 ∷ rest) k (Jump end))) (sym m)
    ∙ ap (jumps_written js end) (set-append_seam (before ++ a) (Jump 0) rest (Jump end) ∙ sym (append_assoc (before ++ a) (Jump end ∷ []) rest))
    ∙ codes_written codes end ((before ++ a) ++ Jump end ∷ []) (n + line_count c + 1) longer
    ∙ append_assoc (before ++ a) (Jump end ∷ []) last
    ∙ append_assoc before a (Jump end ∷ last)

-- they stand among the lines of the codes
jump_within : (codes : MidCodes) (at k : ℕ) → k < length (code_jumps at codes) → get_or (code_jumps at codes) k 0 < at + codes_line_count codes
jump_within no_code at k lt = absurd (omega arith)
jump_within (code_and c codes) at zero lt = omega arith
jump_within (code_and c codes) at (suc k) lt = omega (arith, jump_within codes (at + line_count c + 1) k (omega (arith, lt)))

pub jumps_within :
    (codes : MidCodes) (l1 l2 : List Line) (empty jumps : List ℕ) → empty ≡ [] → l2 ≡ l1 ++ codes_lines (length l1) 0 codes
    → jumps ≡ empty ++ code_jumps (length l1) codes → (k : ℕ) → k < length jumps → get_or jumps k 0 < length l2
jumps_within codes l1 l2 empty jumps none e2 j k lt =
    let same : jumps ≡ code_jumps (length l1) codes = j ∙ ap (λ l. l ++ code_jumps (length l1) codes) none in
    let n : length l2 ≡ length l1 + codes_line_count codes =
    omega (arith, ap length e2, length-append l1 (codes_lines (length l1) 0 codes), codes_length codes (length l1) 0) in
    omega (arith, n, ap (λ l. get_or l k 0) same, jump_within codes (length l1) k (omega (arith, lt, ap length same)))

as_long_written : (jumps : List ℕ) (end : ℕ) (lines : List Line) → length (jumps_written jumps end lines) ≡ length lines
as_long_written [] end lines = refl
as_long_written (j ∷ jumps) end lines = as_long_written jumps end (slice_set lines j (Jump end)) ∙ length-set lines j (Jump end)

pub written_as_long : (jumps : List ℕ) (end : ℕ) (old new : List Line) → new ≡ jumps_written jumps end old → length new ≡ length old
written_as_long jumps end old new e = ap length e ∙ as_long_written jumps end old

pub codes_grown : (codes : MidCodes) (old new : List Line) → new ≡ old ++ codes_lines (length old) 0 codes → length old ≤ length new
codes_grown codes old new e = omega (arith, ap length e, length-append old (codes_lines (length old) 0 codes))

pub switch_written :
    (register : ℕ) (codes : MidCodes) (old l1 l2 l3 l4 : List Line) (x : Line) (none_yet targets none jumps : List ℕ) (switch_at end : ℕ)
    → switch_at ≡ length old → l1 ≡ old ++ x ∷ [] → none_yet ≡ [] → none ≡ []
    → l2 ≡ l1 ++ codes_lines (length l1) 0 codes → targets ≡ none_yet ++ code_targets (length l1) codes → jumps ≡ none ++ code_jumps (length l1) codes
    → end ≡ length l2 → l3 ≡ jumps_written jumps end l2 → l4 ≡ slice_set l3 switch_at (Switch register targets)
    → l4 ≡ old ++ step_lines (length old) (switch register codes)
switch_written register codes old l1 l2 l3 l4 x none_yet targets none jumps switch_at end m0 e1 n1 n2 e2 t j m2 e3 e4 =
    let at = length old in
    let first : length l1 ≡ at + 1 = omega (arith, ap length e1, length-append old (x ∷ [])) in
    let size : length l2 ≡ length l1 + codes_line_count codes =
    omega (arith, ap length e2, length-append l1 (codes_lines (length l1) 0 codes), codes_length codes (length l1) 0) in
    let last : end ≡ at + (1 + codes_line_count codes) = omega (arith, m2, size, first) in
    let all_targets : targets ≡ code_targets (at + 1) codes = t ∙ ap (λ l. l ++ code_targets (length l1) codes) n1 ∙ ap (λ n. code_targets n codes) first in
    let all_jumps : jumps ≡ code_jumps (length l1) codes = j ∙ ap (λ l. l ++ code_jumps (length l1) codes) n2 in
    let written : l3 ≡ l1 ++ codes_lines (length l1) end codes =
    e3 ∙ ap (λ js. jumps_written js end l2) all_jumps ∙ ap (jumps_written (code_jumps (length l1) codes) end) e2 ∙ codes_written codes end l1 (length l1) refl in
    e4
    ∙ ap (λ l. slice_set l switch_at (Switch register targets)) (written ∙ ap (λ l. l ++ codes_lines (length l1) end codes) e1 ∙ append_assoc old (x ∷ []) (codes_lines (length l1) end codes))
    ∙ ap (λ n. slice_set (old ++ x ∷ codes_lines (length l1) end codes) n (Switch register targets)) m0
    ∙ set-append_seam old x (codes_lines (length l1) end codes) (Switch register targets)
    ∙ ap (λ n. old ++ Switch register targets ∷ codes_lines n end codes) first
    ∙ ap (λ n. old ++ Switch register targets ∷ codes_lines (at + 1) n codes) last
    ∙ ap (λ ts. old ++ Switch register ts ∷ codes_lines (at + 1) (at + (1 + codes_line_count codes)) codes) all_targets
