-- Steps of lines, one line more; how many they are.
use Rattle.std.proofs.Common.{◌≡◌, ℕ, zero, suc, ◌+◌, ◌<◌, List, [], ◌∷◌, ◌++◌, length, drop, Some, refl, sym, ap, ◌∙◌, arith, append_assoc}
use Rattle.std.specs.Prelude.{slice_get}
use Rattle.mid_lines.specs.declared.line.Line.{Line}
use Rattle.back_liveness.specs.declared.step.Step.{Step}
use Rattle.back_allocation.specs.LineSteps.{step_of, steps_from}

pub there_is : {X : Type 0} (xs : List X) (k : ℕ) → k < length xs → (x : X) × (slice_get xs k ≡ Some x)
there_is [] k h = absurd (omega (arith, h))
there_is (x ∷ xs) zero h = (x, refl)
there_is (x ∷ xs) (suc k) h = there_is xs k (omega (arith, h))

pub drop_there : {X : Type 0} (xs : List X) (k : ℕ) (x : X) → slice_get xs k ≡ Some x → drop k xs ≡ x ∷ drop (suc k) xs
drop_there [] k x h = absurd (cc h)
drop_there (y ∷ xs) zero x h = let q : y ≡ x = cc h in ap (λ z. z ∷ xs) q
drop_there (y ∷ xs) (suc k) x h = drop_there xs k x h

pub step_count : (landings : ℕ → List ℕ) (at : ℕ) (lines : List Line) → length (steps_from landings at lines) ≡ length lines
step_count landings at [] = refl
step_count landings at (x ∷ lines) = ap suc (step_count landings (at + 1) lines)

pub step_more :
    (landings : ℕ → List ℕ) (lines : List Line) (at : ℕ) (old new whole : List Step) → at < length lines
    → ((x : Line) → slice_get lines at ≡ Some x → new ≡ old ++ step_of (landings at) x ∷ [])
    → old ++ steps_from landings at (drop at lines) ≡ whole → new ++ steps_from landings (at + 1) (drop (at + 1) lines) ≡ whole
step_more landings lines at old new whole h more is =
    let t = there_is lines at h in
    let s = step_of (landings at) t.0 in
    let one : suc at ≡ at + 1 = omega arith in
    let rest = steps_from landings (at + 1) (drop (at + 1) lines) in
    let e : drop at lines ≡ t.0 ∷ drop (at + 1) lines = drop_there lines at t.0 t.1 ∙ ap (λ n. t.0 ∷ drop n lines) one in
    ap (λ z. z ++ rest) (more t.0 t.1) ∙ (append_assoc old (s ∷ []) rest ∙ (ap (λ z. old ++ steps_from landings at z) (sym e) ∙ is))
