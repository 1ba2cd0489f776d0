-- Steps of the machine one behind another, the forms that begin in them, what was printed, and what is left of the input: from a configuration
-- to the end, and behind it.
use Rattle.std.proofs.Common.{◌≡◌, ◌≤◌, ℕ, zero, suc, ◌+◌, if◌then◌else◌, refl, ap, sym, ◌∙◌, subst, arith}
use Rattle.lang_meaning.specs.Prefixes.{IsPrefix, IsLastOf}
use Rattle.eval_machine.specs.Configuration.{Setting, Configuration}
use Rattle.eval_machine.specs.Run.{steps, next, next_or, begins, forms_begun, IsEnd}
use Rattle.eval_machine.specs.RunLaws.{printed_at, left_at, units_at, LawOfPrinting, LawOfReading, LawOfUnits}

-- some steps, and others behind them
pub steps_sum : (s : Setting) (n j : ℕ) (m : Configuration) → steps s (n + j) m ≡ steps s j (steps s n m)
steps_sum s zero j m = let e : zero + j ≡ j = omega arith in ap (λ k. steps s k m) e
steps_sum s (suc n) j m =
    let e : suc n + j ≡ suc (n + j) = omega arith in
    ap (λ k. steps s k m) e ∙ steps_sum s n j (next s m)

-- the forms that begin in them
joined : (a b c d e : ℕ) → a ≡ b + c → c ≡ d + e → a ≡ (b + d) + e
joined a b c d e h q = omega arith

pub forms_sum : (s : Setting) (n j : ℕ) (m : Configuration) → forms_begun s (n + j) m ≡ forms_begun s n m + forms_begun s j (steps s n m)
forms_sum s zero j m =
    let e : zero + j ≡ j = omega arith in
    let q : forms_begun s j m ≡ 0 + forms_begun s j m = omega arith in
    ap (λ k. forms_begun s k m) e ∙ q
forms_sum s (suc n) j m =
    let e : suc n + j ≡ suc (n + j) = omega arith in
    joined (forms_begun s (suc n + j) m) (if begins m.control then 1 else 0) (forms_begun s (n + j) (next s m)) (forms_begun s n (next s m))
    (forms_begun s j (steps s n (next s m))) (ap (λ k. forms_begun s k m) e) (forms_sum s n j (next s m))

-- after the end the machine stays
end_stays : (s : Setting) (m : Configuration) → IsEnd s m → next s m ≡ m
end_stays s m h = ap (next_or m) h

pub steps_stay : (s : Setting) (n : ℕ) (m : Configuration) → IsEnd s m → steps s n m ≡ m
steps_stay s zero m h = refl
steps_stay s (suc n) m h = ap (λ x. steps s n x) (end_stays s m h) ∙ steps_stay s n m h

-- any number of steps, and those up to the end, come to the end
pub comes_to_end : (s : Setting) (m : Configuration) (n c : ℕ) → IsEnd s (steps s c m) → steps s (n + c) m ≡ steps s c m
comes_to_end s m n c h =
    let e : n + c ≡ c + n = omega arith in
    ap (λ k. steps s k m) e ∙ steps_sum s c n m ∙ steps_stay s n (steps s c m) h

-- so what was printed up to any configuration is a beginning of what is printed at the end
pub printed_up_to_end : LawOfPrinting → (s : Setting) (m : Configuration) (n c : ℕ) → IsEnd s (steps s c m)
    → IsPrefix (printed_at (steps s n m)) (printed_at (steps s c m))
printed_up_to_end law s m n c h =
    let P : Configuration → Type 0 = λ x. IsPrefix (printed_at (steps s n m)) (printed_at x) in
    subst P (sym (steps_sum s n c m) ∙ comes_to_end s m n c h) (law s (steps s n m) c)

-- of what was left at any configuration the last ones are left at the end
pub left_up_to_end : LawOfReading → (s : Setting) (m : Configuration) (n c : ℕ) → IsEnd s (steps s c m)
    → IsLastOf (left_at (steps s c m)) (left_at (steps s n m))
left_up_to_end law s m n c h =
    let P : Configuration → Type 0 = λ x. IsLastOf (left_at x) (left_at (steps s n m)) in
    subst P (sym (steps_sum s n c m) ∙ comes_to_end s m n c h) (law s (steps s n m) c)

-- and at the end there are as many units as forms began up to any configuration, or more
enough : (first begun now others last : ℕ) → first + begun ≤ now → now + others ≤ last → begun ≤ last
enough first begun now others last h q = omega arith

pub units_up_to_end : LawOfUnits → (s : Setting) (m : Configuration) (n c : ℕ) → IsEnd s (steps s c m)
    → forms_begun s n m ≤ units_at (steps s c m)
units_up_to_end law s m n c h =
    let P : Configuration → Type 0 = λ x. units_at (steps s n m) + forms_begun s c (steps s n m) ≤ units_at x in
    enough (units_at m) (forms_begun s n m) (units_at (steps s n m)) (forms_begun s c (steps s n m)) (units_at (steps s c m))
    (law s m n) (subst P (sym (steps_sum s n c m) ∙ comes_to_end s m n c h) (law s (steps s n m) c))
