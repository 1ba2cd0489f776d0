-- What stands in code is smaller than the code: a recursion over code ends.
use Rattle.std.specs.Prelude.{◌≡◌, ℕ, zero, suc, ◌<◌, List, [], ◌∷◌, slice_index_or, length}
use Rattle.std.proofs.Common.{arith}
use Rattle.mid_code.specs.MidCode.{MidStep, step_size, code_size, codes_size, code_of}
use Rattle.mid_code.specs.model.View.{codes_of}
use Rattle.mid_code.specs.declared.code.SwitchCase.{SwitchCase}

-- a size is never nothing
code_size_above : (ss : List MidStep) → 0 < code_size (code_of ss)
code_size_above [] = omega arith
code_size_above (s ∷ ss) = omega arith

-- what a loop over code looks at is smaller than the code
pub step_turn : (ss : List MidStep) (i : ℕ) (s : MidStep) → i < length ss → s ≡ slice_index_or ss i s → step_size s < code_size (code_of ss)
step_turn [] i s h e = absurd (omega (arith, h))
step_turn (x ∷ xs) zero s h e =
    let same : step_size s ≡ step_size x = cc e in
    omega (arith, code_size_above xs, same)
step_turn (x ∷ xs) (suc i) s h e = omega (arith, step_turn xs i s (omega (arith, h)) e)

codes_size_above : (cs : List SwitchCase) → 0 < codes_size (codes_of cs)
codes_size_above [] = omega arith
codes_size_above (c ∷ cs) = omega arith

-- what a loop over the codes of a switch looks at is smaller than the codes
pub case_turn :
    (cs : List SwitchCase) (i : ℕ) (c : SwitchCase) → i < length cs → c ≡ slice_index_or cs i c
    → code_size (code_of c.code) < codes_size (codes_of cs)
case_turn [] i c h e = absurd (omega (arith, h))
case_turn (x ∷ xs) zero c h e =
    let same : code_size (code_of c.code) ≡ code_size (code_of x.code) = cc e in
    omega (arith, codes_size_above xs, same)
case_turn (x ∷ xs) (suc i) c h e = omega (arith, case_turn xs i c (omega (arith, h)) e)
