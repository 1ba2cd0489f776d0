-- The lines of a tree cost what the tree costs.
use Rattle.std.proofs.Common.{◌≡◌, ℕ, ◌+◌, ◌≤◌, List, [], ◌∷◌, ◌++◌, length, arith}
use Rattle.mid_code.specs.MidCode.{MidStep, perform, choose, switch, repeat, with_block, lend, return_word, cut_to, halt_with, end_unhandled, MidCode, no_step, step_and, MidCodes, no_code, code_and}
use Rattle.mid_arena.specs.CodeCosts.{step_cost, code_cost, codes_cost}
use Rattle.mid_lines.specs.declared.line.Line.{Line}
use Rattle.mid_lines.specs.declared.line.Line.TheVariants.{Branch, Jump, Landed, GiveBack, GiveBackLent}
use Rattle.mid_lines.specs.Flattened.{step_line_count, line_count, codes_line_count, code_targets, step_lines, code_lines, codes_lines}
use Rattle.back_sizes.proofs.LineSizes.{line_cost}

abbrev pub lines_cost : List Line → ℕ
lines_cost [] = 0
lines_cost (x ∷ xs) = line_cost x + lines_cost xs

both_cost : (a b : List Line) → lines_cost (a ++ b) ≡ lines_cost a + lines_cost b
both_cost [] b = omega arith
both_cost (x ∷ a) b = let h = both_cost a b in omega (arith, h)

mutual
  step_costs : (at : ℕ) (s : MidStep) → lines_cost (step_lines at s) ≤ step_cost s
  step_costs at (perform o) = omega arith
  step_costs at (choose t first second) =
      let end = at + (1 + line_count first + 1 + line_count second + 1) in
      let A = code_lines (at + 1) first in
      let B = code_lines (at + 1 + line_count first + 1) second in
      omega (arith, code_costs (at + 1) first, code_costs (at + 1 + line_count first + 1) second, both_cost A (Jump end ∷ (B ++ Jump end ∷ [])), both_cost B (Jump end ∷ []))
  step_costs at (switch r codes) = let h = codes_costs (at + 1) (at + (1 + codes_line_count codes)) codes in omega (arith, h)
  step_costs at (repeat counted head t body) =
      let A = code_lines at head in
      let B = code_lines (at + line_count head + 1) body in
      omega (
        arith,
        code_costs at head,
        code_costs (at + line_count head + 1) body,
        both_cost A (Branch t (at + (line_count head + 1 + line_count body + 1)) ∷ (B ++ Jump at ∷ [])),
        both_cost B (Jump at ∷ []),
      )
  step_costs at (with_block block words word inside landing) =
      let end = at + (1 + line_count inside + 3 + line_count landing + 1) in
      let A = code_lines (at + 1) inside in
      let B = code_lines (at + 1 + line_count inside + 3) landing in
      omega (
        arith,
        code_costs (at + 1) inside,
        code_costs (at + 1 + line_count inside + 3) landing,
        both_cost A (GiveBack words ∷ Jump end ∷ Landed word ∷ (B ++ GiveBack words ∷ [])),
        both_cost B (GiveBack words ∷ []),
      )
  step_costs at (lend block words inside) =
      omega (arith, code_costs (at + 1) inside, both_cost (code_lines (at + 1) inside) (GiveBackLent ∷ []))
  step_costs at (return_word r) = omega arith
  step_costs at (cut_to block word) = omega arith
  step_costs at (halt_with r) = omega arith
  step_costs at (end_unhandled class site condition) = omega arith

  pub code_costs : (at : ℕ) (c : MidCode) → lines_cost (code_lines at c) ≤ code_cost c
  code_costs at no_step = omega arith
  code_costs at (step_and s c) =
      omega (arith, step_costs at s, code_costs (at + step_line_count s) c, both_cost (step_lines at s) (code_lines (at + step_line_count s) c))

  codes_costs : (at end : ℕ) (codes : MidCodes) → length (code_targets at codes) + lines_cost (codes_lines at end codes) ≤ codes_cost codes
  codes_costs at end no_code = omega arith
  codes_costs at end (code_and c codes) =
      omega (arith, code_costs at c, codes_costs (at + line_count c + 1) end codes, both_cost (code_lines at c) (Jump end ∷ codes_lines (at + line_count c + 1) end codes))
