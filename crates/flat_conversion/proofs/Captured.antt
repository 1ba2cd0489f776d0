-- Captured parts, the first and those behind it.
use Rattle.std.proofs.Common.{◌≡◌, ℕ, ◌+◌, ◌-◌, ◌<◌, List, [], ◌∷◌, ◌++◌, refl, sym, ap, ◌∙◌, Some, None, drop, arith}
use Rattle.std.specs.Prelude.{slice_get}
use Rattle.lang_meaning.specs.declared.capture.Capture.{Capture}
use Rattle.lang_meaning.specs.declared.capture.Capture.TheVariants.{Variable, Exit, Method}
use Rattle.flat_language.specs.declared.place.MethodPlace.{MethodPlace}
use Rattle.flat_language.specs.Scope.{Scope, captured_variables, captured_exits, captured_method}
use Rattle.flat_conversion.specs.declared.variables.NewVariable.{NewVariable}
use Rattle.flat_conversion.specs.NewVariables.{known_in_slot, slots_of}
use Rattle.flat_conversion.proofs.Turns.{rest_before}

pub first_variable : (s : Scope) (p : Capture) (ps : List Capture) (n : ℕ) → captured_variables s (p ∷ ps) n ≡ captured_variables s (p ∷ []) n ++ captured_variables s ps (n + 1)
first_variable s (Variable v) ps n = refl
first_variable s (Exit x) ps n = refl
first_variable s Method ps n = refl

pub first_exit : (p : Capture) (ps : List Capture) (n : ℕ) → captured_exits (p ∷ ps) n ≡ captured_exits (p ∷ []) n ++ captured_exits ps (n + 1)
first_exit (Variable v) ps n = refl
first_exit (Exit x) ps n = refl
first_exit Method ps n = refl

pub first_method : (p : Capture) (ps : List Capture) (n : ℕ) (m : MethodPlace) → Some m ≡ captured_method (p ∷ []) n → Some m ≡ captured_method (p ∷ ps) n
first_method (Variable v) ps n m h = absurd (cc h)
first_method (Exit x) ps n m h = absurd (cc h)
first_method Method ps n m h = h

pub no_method : (p : Capture) (ps : List Capture) (n : ℕ) → None ≡ captured_method (p ∷ []) n → captured_method (p ∷ ps) n ≡ captured_method ps (n + 1)
no_method (Variable v) ps n h = refl
no_method (Exit x) ps n h = refl
no_method Method ps n h = absurd (cc h)

-- turns from the end
pub variable_before : (s : Scope) (ps : List Capture) (at : ℕ) (p : Capture) → 0 < at → slice_get ps (at - 1) ≡ Some p
    → captured_variables s (p ∷ []) (at - 1) ++ captured_variables s (drop at ps) at ≡ captured_variables s (drop (at - 1) ps) (at - 1)
variable_before s ps at p low h =
    (let i : at ≡ (at - 1) + 1 = omega arith in ap (λ k. captured_variables s (p ∷ []) (at - 1) ++ captured_variables s (drop at ps) k) i)
    ∙ sym (first_variable s p (drop at ps) (at - 1))
    ∙ ap (λ qs. captured_variables s qs (at - 1)) (sym (rest_before ps at p low h))

pub exit_before : (ps : List Capture) (at : ℕ) (p : Capture) → 0 < at → slice_get ps (at - 1) ≡ Some p
    → captured_exits (p ∷ []) (at - 1) ++ captured_exits (drop at ps) at ≡ captured_exits (drop (at - 1) ps) (at - 1)
exit_before ps at p low h =
    (let i : at ≡ (at - 1) + 1 = omega arith in ap (λ k. captured_exits (p ∷ []) (at - 1) ++ captured_exits (drop at ps) k) i)
    ∙ sym (first_exit p (drop at ps) (at - 1))
    ∙ ap (λ qs. captured_exits qs (at - 1)) (sym (rest_before ps at p low h))

-- new variables from the end
pub slot_before : (xs : List NewVariable) (at slot : ℕ) (x : NewVariable) → 0 < at → 0 < slot → slice_get xs (at - 1) ≡ Some x
    → (x.var, known_in_slot x (slot - 1)) ∷ slots_of (drop at xs) slot ≡ slots_of (drop (at - 1) xs) (slot - 1)
slot_before xs at slot x low some h =
    (let i : slot ≡ (slot - 1) + 1 = omega arith in ap (λ k. (x.var, known_in_slot x (slot - 1)) ∷ slots_of (drop at xs) k) i)
    ∙ ap (λ ys. slots_of ys (slot - 1)) (sym (rest_before xs at x low h))
