-- A part of a form fits where the form does: the registers that its code names are there.
use Rattle.std.proofs.Common.{◌≡◌, ℕ, ◌≤◌, List, [], ◌∷◌, ◌++◌, refl, sym, ap, ◌∙◌, subst, append_assoc, arith}
use Rattle.mid_code.specs.MidCode.{MidStep, code_of}
use Rattle.back_lowering.specs.Registers.{of_step, of_code, enough_for}

pub of_parts : (ss ts : List MidStep) → of_code (code_of (ss ++ ts)) ≡ of_code (code_of ss) ++ of_code (code_of ts)
of_parts [] ts = refl
of_parts (s ∷ ss) ts =
    ap (λ rs. of_step s ++ rs) (of_parts ss ts) ∙ sym (append_assoc (of_step s) (of_code (code_of ss)) (of_code (code_of ts)))

pub enough_front : (rs qs : List ℕ) → enough_for rs ≤ enough_for (rs ++ qs)
enough_front [] qs = omega arith
enough_front (r ∷ rs) qs = let inner = enough_front rs qs in omega (arith, inner)

pub enough_behind : (rs qs : List ℕ) → enough_for qs ≤ enough_for (rs ++ qs)
enough_behind [] qs = omega arith
enough_behind (r ∷ rs) qs = let inner = enough_behind rs qs in omega (arith, inner)

-- code in two parts, whose registers are below a number
pub registers_front : (ss ts : List MidStep) (size : ℕ) → enough_for (of_code (code_of (ss ++ ts))) ≤ size → enough_for (of_code (code_of ss)) ≤ size
registers_front ss ts size h =
    let all : enough_for (of_code (code_of ss) ++ of_code (code_of ts)) ≤ size = subst (λ rs. enough_for rs ≤ size) (of_parts ss ts) h in
    let front = enough_front (of_code (code_of ss)) (of_code (code_of ts)) in
    omega (arith, all, front)

pub registers_behind : (ss ts : List MidStep) (size : ℕ) → enough_for (of_code (code_of (ss ++ ts))) ≤ size → enough_for (of_code (code_of ts)) ≤ size
registers_behind ss ts size h =
    let all : enough_for (of_code (code_of ss) ++ of_code (code_of ts)) ≤ size = subst (λ rs. enough_for rs ≤ size) (of_parts ss ts) h in
    let behind = enough_behind (of_code (code_of ss)) (of_code (code_of ts)) in
    omega (arith, all, behind)
