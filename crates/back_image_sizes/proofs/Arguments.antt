-- The words of arguments: the longest call passes no more than all calls together.
use Rattle.std.proofs.Common.{◌≡◌, ℕ, ◌+◌, ◌≤◌, List, [], ◌∷◌, ◌++◌, map, arith}
use Rattle.mid_code.specs.declared.operation.Operation.TheVariants.{Call}
use Rattle.mid_code.specs.declared.program.MidProcedure.{MidProcedure}
use Rattle.mid_code.specs.MidCode.{MidStep, perform, choose, switch, repeat, with_block, lend, return_word, cut_to, halt_with, end_unhandled, MidCode, no_step, step_and, MidCodes, no_code, code_and, code_of}
use Rattle.mid_lines.specs.declared.line.Line.{Line}
use Rattle.mid_lines.specs.declared.line.Line.TheVariants.{Branch, Jump, Landed, GiveBack, GiveBackLent}
use Rattle.mid_lines.specs.Flattened.{step_line_count, line_count, codes_line_count, step_lines, code_lines, codes_lines, procedure_lines}
use Rattle.back_layout.specs.ChosenPlaces.{arguments_passed, most_in_lines, most_arguments}
use Rattle.back_code_sizes.specs.Passed.{step_passes, code_passes, codes_pass, procedures_pass}

abbrev lines_pass : List Line → ℕ
lines_pass [] = 0
lines_pass (x ∷ xs) = arguments_passed x + lines_pass xs

both_pass : (a b : List Line) → lines_pass (a ++ b) ≡ lines_pass a + lines_pass b
both_pass [] b = omega arith
both_pass (x ∷ a) b = let h = both_pass a b in omega (arith, h)

mutual
  steps_pass : (at : ℕ) (s : MidStep) → lines_pass (step_lines at s) ≤ step_passes s
  steps_pass at (perform (Call to callee arguments)) = omega arith
  steps_pass at (perform o) = omega arith
  steps_pass at (choose t first second) =
      let end = at + (1 + line_count first + 1 + line_count second + 1) in
      let A = code_lines (at + 1) first in
      let B = code_lines (at + 1 + line_count first + 1) second in
      omega (
        arith,
        all_pass (at + 1) first,
        all_pass (at + 1 + line_count first + 1) second,
        both_pass A (Jump end ∷ (B ++ Jump end ∷ [])),
        both_pass B (Jump end ∷ []),
      )
  steps_pass at (switch r codes) = let h = each_passes (at + 1) (at + (1 + codes_line_count codes)) codes in omega (arith, h)
  steps_pass at (repeat counted head t body) =
      let A = code_lines at head in
      let B = code_lines (at + line_count head + 1) body in
      omega (
        arith,
        all_pass at head,
        all_pass (at + line_count head + 1) body,
        both_pass A (Branch t (at + (line_count head + 1 + line_count body + 1)) ∷ (B ++ Jump at ∷ [])),
        both_pass B (Jump at ∷ []),
      )
  steps_pass at (with_block block words word inside landing) =
      let end = at + (1 + line_count inside + 3 + line_count landing + 1) in
      let A = code_lines (at + 1) inside in
      let B = code_lines (at + 1 + line_count inside + 3) landing in
      omega (
        arith,
        all_pass (at + 1) inside,
        all_pass (at + 1 + line_count inside + 3) landing,
        both_pass A (GiveBack words ∷ Jump end ∷ Landed word ∷ (B ++ GiveBack words ∷ [])),
        both_pass B (GiveBack words ∷ []),
      )
  steps_pass at (lend block words inside) =
      omega (arith, all_pass (at + 1) inside, both_pass (code_lines (at + 1) inside) (GiveBackLent ∷ []))
  steps_pass at (return_word r) = omega arith
  steps_pass at (cut_to block word) = omega arith
  steps_pass at (halt_with r) = omega arith
  steps_pass at (end_unhandled class site condition) = omega arith

  all_pass : (at : ℕ) (c : MidCode) → lines_pass (code_lines at c) ≤ code_passes c
  all_pass at no_step = omega arith
  all_pass at (step_and s c) =
      omega (arith, steps_pass at s, all_pass (at + step_line_count s) c, both_pass (step_lines at s) (code_lines (at + step_line_count s) c))

  each_passes : (at end : ℕ) (codes : MidCodes) → lines_pass (codes_lines at end codes) ≤ codes_pass codes
  each_passes at end no_code = omega arith
  each_passes at end (code_and c codes) =
      omega (
        arith,
        all_pass at c,
        each_passes (at + line_count c + 1) end codes,
        both_pass (code_lines at c) (Jump end ∷ codes_lines (at + line_count c + 1) end codes),
      )

most_within : (xs : List Line) → most_in_lines xs ≤ lines_pass xs
most_within [] = omega arith
most_within (x ∷ xs) = let h = most_within xs in omega (arith, h)

-- the most that procedures pass or take
pub arguments_within : (ps : List MidProcedure) → most_arguments (map procedure_lines ps) ≤ procedures_pass ps
arguments_within [] = omega arith
arguments_within (p ∷ ps) =
    omega (arith, arguments_within ps, most_within (code_lines 0 (code_of p.body)), all_pass 0 (code_of p.body))
