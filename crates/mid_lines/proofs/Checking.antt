-- The lines of a program in form are in form.
use Rattle.std.proofs.Common.{◌≡◌, ℕ, ◌+◌, ◌≤◌, Bool, true, ◌&&◌, List, [], ◌∷◌, ◌++◌, length, map, Option, Some, None, option_map, refl, ap, ◌∙◌, arith, le-leb}
use Rattle.std.specs.Prelude.{nat_le, slice_get}
use Rattle.std.specs.List.{list_all}
use Rattle.std.proofs.lemmas.List.Folds.{list_all-append}
use Rattle.std.proofs.lemmas.Option.{slice_get-map}
use Rattle.mid_code.specs.declared.operation.Callee.{Callee}
use Rattle.mid_code.specs.declared.operation.Callee.TheVariants.{Procedure, Word}
use Rattle.mid_code.specs.declared.operation.Operation.{Operation}
use Rattle.mid_code.specs.declared.operation.Operation.TheVariants.{Call}
use Rattle.mid_code.specs.declared.program.MidProcedure.{MidProcedure}
use Rattle.mid_code.specs.MidCode.{MidStep, perform, choose, switch, repeat, with_block, lend, return_word, cut_to, halt_with, end_unhandled, MidCode, no_step, step_and, MidCodes, no_code, code_and, code_of}
use Rattle.mid_code.specs.Checked as tree
use Rattle.mid_lines.proofs.Conjunctions.{front_true, back_true, both_true}
use Rattle.mid_lines.specs.declared.line.Line.{Line}
use Rattle.mid_lines.specs.declared.line.Line.TheVariants.{Do, Jump, Return, Cut, Halt, Unhandled}
use Rattle.mid_lines.specs.declared.line.LineProcedure.{LineProcedure}
use Rattle.mid_lines.specs.Flattened.{step_line_count, line_count, codes_line_count, code_targets, step_lines, code_lines, codes_lines, procedure_lines}
use Rattle.mid_lines.specs.LinesChecked.{is_target, line_fits, takes, call_fits, operation_calls, line_calls, is_sound_in, LawOfForm}
use Rattle.mid_lines.proofs.Lying.{code_length}

-- lines of which each passes

record AllPass (p : Line → Bool) (xs : List Line) : Type 0 where
  all : list_all p xs ≡ true

none : (p : Line → Bool) → AllPass p []
none p = record { all = refl }

one_more : (p : Line → Bool) (x : Line) (xs : List Line) → p x ≡ true → AllPass p xs → AllPass p (x ∷ xs)
one_more p x xs h k = record { all = both_true (p x) (list_all p xs) h k.all }

appended : (p : Line → Bool) (xs ys : List Line) → AllPass p xs → AllPass p ys → AllPass p (xs ++ ys)
appended p xs ys h k = record { all = list_all-append p xs ys ∙ both_true (list_all p xs) (list_all p ys) h.all k.all }

one_line : (p : Line → Bool) (x : Line) → p x ≡ true → AllPass p (x ∷ [])
one_line p x h = one_more p x [] h (none p)

-- lines that fit

module _ (registers lines : ℕ) where
  abbrev fits : Line → Bool
  fits = line_fits registers lines

  target : (to : ℕ) → to ≤ lines → nat_le to lines ≡ true
  target to h = le-leb to lines h

  targets_fit : (codes : MidCodes) (at : ℕ) → at + codes_line_count codes ≤ lines → list_all (is_target lines) (code_targets at codes) ≡ true
  targets_fit no_code at le = refl
  targets_fit (code_and c codes) at le =
      both_true (nat_le at lines) (list_all (is_target lines) (code_targets (at + line_count c + 1) codes)) (target at (omega (arith, le)))
      (targets_fit codes (at + line_count c + 1) (omega (arith, le)))

  mutual
    step_fit : (s : MidStep) (at : ℕ) → tree.step_fits registers s ≡ true → at + step_line_count s ≤ lines → AllPass fits (step_lines at s)
    step_fit (perform o) at h le = one_line fits (Do o) h
    step_fit (choose t first second) at h le =
        let tests_first = front_true (tree.test_fits registers t && tree.code_fits registers first) (tree.code_fits registers second) h in
        let tests = front_true (tree.test_fits registers t) (tree.code_fits registers first) tests_first in
        let one = back_true (tree.test_fits registers t) (tree.code_fits registers first) tests_first in
        let other = back_true (tree.test_fits registers t && tree.code_fits registers first) (tree.code_fits registers second) h in
        one_more fits _ _ (both_true (tree.test_fits registers t) (nat_le (at + 1 + line_count first + 1) lines) tests (target (at + 1 + line_count first + 1) (omega (arith, le))))
        (appended fits (code_lines (at + 1) first) _ (code_fit first (at + 1) one (omega (arith, le)))
        (one_more fits _ _ (target _ le)
        (appended fits (code_lines (at + 1 + line_count first + 1) second) _ (code_fit second (at + 1 + line_count first + 1) other (omega (arith, le)))
        (one_line fits _ (target _ le)))))
    step_fit (switch r codes) at h le =
        let one = front_true (tree.is_register registers r) (tree.codes_fit registers codes) h in
        let other = back_true (tree.is_register registers r) (tree.codes_fit registers codes) h in
        one_more fits _ _
        (both_true (tree.is_register registers r) (list_all (is_target lines) (code_targets (at + 1) codes)) one (targets_fit codes (at + 1) (omega (arith, le))))
        (codes_fit codes (at + 1) (at + (1 + codes_line_count codes)) other (omega (arith, le)) le)
    step_fit (repeat counted head t body) at h le =
        let head_tests = front_true (tree.code_fits registers head && tree.test_fits registers t) (tree.code_fits registers body) h in
        let one = front_true (tree.code_fits registers head) (tree.test_fits registers t) head_tests in
        let tests = back_true (tree.code_fits registers head) (tree.test_fits registers t) head_tests in
        let other = back_true (tree.code_fits registers head && tree.test_fits registers t) (tree.code_fits registers body) h in
        appended fits (code_lines at head) _ (code_fit head at one (omega (arith, le)))
        (one_more fits _ _ (both_true (tree.test_fits registers t) (nat_le (at + (line_count head + 1 + line_count body + 1)) lines) tests (target _ le))
        (appended fits (code_lines (at + line_count head + 1) body) _ (code_fit body (at + line_count head + 1) other (omega (arith, le)))
        (one_line fits _ (target at (omega (arith, le))))))
    step_fit (with_block block words word inside landing) at h le =
        let b = tree.is_register registers block in
        let w = tree.is_block_size words in
        let r = tree.is_register registers word in
        let i = tree.code_fits registers inside in
        let l = tree.code_fits registers landing in
        let h4 = front_true (b && w && r && i) l h in
        let h3 = front_true (b && w && r) i h4 in
        let h2 = front_true (b && w) r h3 in
        let size = back_true b w h2 in
        one_more fits _ _
        (both_true b (w && nat_le (at + 1 + line_count inside + 2) lines) (front_true b w h2)
        (both_true w (nat_le (at + 1 + line_count inside + 2) lines) size (target (at + 1 + line_count inside + 2) (omega (arith, le)))))
        (appended fits (code_lines (at + 1) inside) _ (code_fit inside (at + 1) (back_true (b && w && r) i h4) (omega (arith, le)))
        (one_more fits _ _ size
        (one_more fits _ _ (target _ le)
        (one_more fits _ _ (back_true (b && w) r h3)
        (appended fits (code_lines (at + 1 + line_count inside + 3) landing) _ (code_fit landing (at + 1 + line_count inside + 3) (back_true (b && w && r && i) l h) (omega (arith, le)))
        (one_line fits _ size))))))
    step_fit (lend block words inside) at h le =
        let b = tree.is_register registers block in
        let w = tree.is_register registers words in
        let i = tree.code_fits registers inside in
        one_more fits _ _ (front_true (b && w) i h)
        (appended fits (code_lines (at + 1) inside) _ (code_fit inside (at + 1) (back_true (b && w) i h) (omega (arith, le)))
        (one_line fits _ refl))
    step_fit (return_word r) at h le = one_line fits (Return r) h
    step_fit (cut_to block word) at h le = one_line fits (Cut block word) h
    step_fit (halt_with r) at h le = one_line fits (Halt r) h
    step_fit (end_unhandled class site condition) at h le =
        let k = tree.is_register registers class in
        let s = tree.is_register registers site in
        let w = tree.is_register registers condition in
        let two = front_true (k && s) w h in
        one_line fits (Unhandled class site condition)
        (both_true k (s && w) (front_true k s two) (both_true s w (back_true k s two) (back_true (k && s) w h)))

    code_fit : (c : MidCode) (at : ℕ) → tree.code_fits registers c ≡ true → at + line_count c ≤ lines → AllPass fits (code_lines at c)
    code_fit no_step at h le = none fits
    code_fit (step_and s c) at h le =
        appended fits (step_lines at s) (code_lines (at + step_line_count s) c)
        (step_fit s at (front_true (tree.step_fits registers s) (tree.code_fits registers c) h) (omega (arith, le)))
        (code_fit c (at + step_line_count s) (back_true (tree.step_fits registers s) (tree.code_fits registers c) h) (omega (arith, le)))

    codes_fit :
        (codes : MidCodes) (at end : ℕ) → tree.codes_fit registers codes ≡ true → at + codes_line_count codes ≤ lines → end ≤ lines
        → AllPass fits (codes_lines at end codes)
    codes_fit no_code at end h le last = none fits
    codes_fit (code_and c codes) at end h le last =
        appended fits (code_lines at c) _
        (code_fit c at (front_true (tree.code_fits registers c) (tree.codes_fit registers codes) h) (omega (arith, le)))
        (one_more fits (Jump end) _ (target end last)
        (codes_fit codes (at + line_count c + 1) end (back_true (tree.code_fits registers c) (tree.codes_fit registers codes) h) (omega (arith, le)) last))

-- calls of procedures that are there

takes_same : (o : Option MidProcedure) (count : ℕ) → tree.takes o count ≡ true → takes (option_map procedure_lines o) count ≡ true
takes_same None count h = h
takes_same (Some p) count h = h

module _ (procedures : List MidProcedure) where
  abbrev flat : List LineProcedure
  flat = map procedure_lines procedures

  abbrev calls : Line → Bool
  calls = line_calls flat

  call_same : (callee : Callee) (count : ℕ) → tree.call_fits procedures callee count ≡ true → call_fits flat callee count ≡ true
  call_same (Procedure n) count h =
      ap (λ o. takes o count) (slice_get-map procedure_lines procedures n) ∙ takes_same (slice_get procedures n) count h
  call_same (Word r) count h = refl

  operation_same : (o : Operation) → tree.operation_calls procedures o ≡ true → operation_calls flat o ≡ true
  operation_same (Call to callee arguments) h = call_same callee (length arguments) h
  operation_same w h = refl

  mutual
    step_call : (s : MidStep) (at : ℕ) → tree.step_calls procedures s ≡ true → AllPass calls (step_lines at s)
    step_call (perform o) at h = one_line calls (Do o) (operation_same o h)
    step_call (choose t first second) at h =
        let one = front_true (tree.code_calls procedures first) (tree.code_calls procedures second) h in
        let other = back_true (tree.code_calls procedures first) (tree.code_calls procedures second) h in
        one_more calls _ _ refl
        (appended calls (code_lines (at + 1) first) _ (code_call first (at + 1) one)
        (one_more calls _ _ refl
        (appended calls (code_lines (at + 1 + line_count first + 1) second) _ (code_call second (at + 1 + line_count first + 1) other)
        (one_line calls _ refl))))
    step_call (switch r codes) at h = one_more calls _ _ refl (codes_call codes (at + 1) (at + (1 + codes_line_count codes)) h)
    step_call (repeat counted head t body) at h =
        let one = front_true (tree.code_calls procedures head) (tree.code_calls procedures body) h in
        let other = back_true (tree.code_calls procedures head) (tree.code_calls procedures body) h in
        appended calls (code_lines at head) _ (code_call head at one)
        (one_more calls _ _ refl
        (appended calls (code_lines (at + line_count head + 1) body) _ (code_call body (at + line_count head + 1) other)
        (one_line calls _ refl)))
    step_call (with_block block words word inside landing) at h =
        let one = front_true (tree.code_calls procedures inside) (tree.code_calls procedures landing) h in
        let other = back_true (tree.code_calls procedures inside) (tree.code_calls procedures landing) h in
        one_more calls _ _ refl
        (appended calls (code_lines (at + 1) inside) _ (code_call inside (at + 1) one)
        (one_more calls _ _ refl (one_more calls _ _ refl (one_more calls _ _ refl
        (appended calls (code_lines (at + 1 + line_count inside + 3) landing) _ (code_call landing (at + 1 + line_count inside + 3) other)
        (one_line calls _ refl))))))
    step_call (lend block words inside) at h =
        one_more calls _ _ refl (appended calls (code_lines (at + 1) inside) _ (code_call inside (at + 1) h) (one_line calls _ refl))
    step_call (return_word r) at h = one_line calls (Return r) refl
    step_call (cut_to block word) at h = one_line calls (Cut block word) refl
    step_call (halt_with r) at h = one_line calls (Halt r) refl
    step_call (end_unhandled class site condition) at h = one_line calls (Unhandled class site condition) refl

    code_call : (c : MidCode) (at : ℕ) → tree.code_calls procedures c ≡ true → AllPass calls (code_lines at c)
    code_call no_step at h = none calls
    code_call (step_and s c) at h =
        appended calls (step_lines at s) (code_lines (at + step_line_count s) c)
        (step_call s at (front_true (tree.step_calls procedures s) (tree.code_calls procedures c) h))
        (code_call c (at + step_line_count s) (back_true (tree.step_calls procedures s) (tree.code_calls procedures c) h))

    codes_call : (codes : MidCodes) (at end : ℕ) → tree.codes_call procedures codes ≡ true → AllPass calls (codes_lines at end codes)
    codes_call no_code at end h = none calls
    codes_call (code_and c codes) at end h =
        appended calls (code_lines at c) _ (code_call c at (front_true (tree.code_calls procedures c) (tree.codes_call procedures codes) h))
        (one_more calls (Jump end) _ refl
        (codes_call codes (at + line_count c + 1) end (back_true (tree.code_calls procedures c) (tree.codes_call procedures codes) h)))

  -- a procedure of the program
  sound : (p : MidProcedure) → tree.is_sound_in procedures p ≡ true → is_sound_in flat (procedure_lines p) ≡ true
  sound p h =
      let parameters = nat_le p.parameters p.registers in
      let frame = tree.is_block_size p.frame in
      let body = tree.code_fits p.registers (code_of p.body) in
      let checked = front_true (tree.is_checked p) (tree.code_calls procedures (code_of p.body)) h in
      let before = front_true (parameters && frame) body checked in
      let all : 0 + line_count (code_of p.body) ≤ length (code_lines 0 (code_of p.body)) = omega (arith, code_length (code_of p.body) 0) in
      both_true parameters _ (front_true parameters frame before)
      (both_true frame _ (back_true parameters frame before)
      (both_true _ _
      ((code_fit p.registers (length (code_lines 0 (code_of p.body))) (code_of p.body) 0 (back_true (parameters && frame) body checked) all).all)
      ((code_call (code_of p.body) 0 (back_true (tree.is_checked p) (tree.code_calls procedures (code_of p.body)) h)).all)))

  all_sound : (ps : List MidProcedure) → list_all (tree.is_sound_in procedures) ps ≡ true → list_all (is_sound_in flat) (map procedure_lines ps) ≡ true
  all_sound [] h = refl
  all_sound (p ∷ ps) h =
      both_true (is_sound_in flat (procedure_lines p)) (list_all (is_sound_in flat) (map procedure_lines ps))
      (sound p (front_true (tree.is_sound_in procedures p) (list_all (tree.is_sound_in procedures) ps) h))
      (all_sound ps (back_true (tree.is_sound_in procedures p) (list_all (tree.is_sound_in procedures) ps) h))

pub law_of_form : LawOfForm
law_of_form program h = all_sound program.procedures program.procedures h
