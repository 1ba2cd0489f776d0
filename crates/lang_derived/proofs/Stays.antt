-- Steps and stops stay under every later table of names; there is one step; what a step gives has a smaller rank.
use Rattle.std.specs.Prelude.{◌≡◌, ℕ, ◌+◌, ◌<◌, List, ◌++◌, length, refl}
use Rattle.std.proofs.Common.{arith, ap, ◌∙◌, sym}
use Rattle.base.specs.declared.datum.Symbol.{Symbol}
use Rattle.base.specs.declared.reason.Stop.{Stop}
use Rattle.base.specs.declared.reason.Stop.TheVariants.{Refused, NoMemory}
use Rattle.base.specs.Names.{IsTable, Extends}
use Rattle.base.specs.Data.{Item}
use Rattle.base.specs.DataMeasures.{NamesBelow}
use Rattle.base.specs.DataNames.{names_stay}
use Rattle.lang_derived.specs.Derived.{plain, becomes, new_symbols}
use Rattle.lang_derived.specs.declared.one_step.Step.{Step}
use Rattle.lang_derived.specs.declared.one_step.Step.TheVariants.{Derived, Plain}
use Rattle.lang_derived.specs.Ranks.{rank}
use Rattle.lang_derived.specs.Steps.{IsStep, IsStop, StepStays, StopStays}
use Rattle.lang_derived.proofs.Kept.{derivation_later}
use Rattle.lang_derived.proofs.OneStep.{one_step, step_stays}
use Rattle.lang_derived.proofs.Ranks.{rank_falls, rank_stays}

pub later_step : (old new : List (List ℕ)) (d : Item) (fresh : List Symbol) (step : Step) (after : List Symbol) → Extends old new
    → NamesBelow (length old) d → IsStep old d fresh step after → IsStep new d fresh step after
later_step old new d fresh Plain after later below h = (sym (derivation_later old new (length fresh) d later below) ∙ h.0, h.1)
later_step old new d fresh (Derived e) after later below h =
    (h.0, (step_stays old new d (length fresh) e (length fresh + h.0) later below h.1.0, h.1.1))

pub later_stop : (old new : List (List ℕ)) (d : Item) (s : ℕ) (stop : Stop) → Extends old new → NamesBelow (length old) d
    → IsStop old d s stop → IsStop new d s stop
later_stop old new d s (Refused refusal) later below h = (sym (derivation_later old new s d later below) ∙ h.0, h.1)
later_stop old new d s NoMemory later below h = tt

pub same_step : (names : List (List ℕ)) (d : Item) (fresh : List Symbol) (x y : Step) (after after2 : List Symbol) → IsTable names
    → IsStep names d fresh x after → IsStep names d fresh y after2 → (x ≡ y) × (after ≡ after2)
same_step names d fresh Plain Plain after after2 t g h = (refl, g.1 ∙ sym h.1)
same_step names d fresh Plain (Derived e) after after2 t g h = let apart : plain ≡ becomes h.1.0.right = sym g.0 ∙ h.1.0.fits in absurd (cc)
same_step names d fresh (Derived e) Plain after after2 t g h = let apart : plain ≡ becomes g.1.0.right = sym h.0 ∙ g.1.0.fits in absurd (cc)
same_step names d fresh (Derived e) (Derived e2) after after2 t g h =
    let same : (e ≡ e2) × (length fresh + g.0 ≡ length fresh + h.0) =
    one_step names d (length fresh) e e2 (length fresh + g.0) (length fresh + h.0) t g.1.0 h.1.0 in
    let count : g.0 ≡ h.0 = omega (arith, same.1) in
    (ap Derived same.0, g.1.1 ∙ ap (λ (n : ℕ). fresh ++ new_symbols (length fresh) n) count ∙ sym h.1.1)

-- the clauses of a call

pub step_here : (old names : List (List ℕ)) (d : Item) (fresh : List Symbol) (step : Step) (after : List Symbol) → Extends old names
    → NamesBelow (length old) d → IsStep names d fresh step after → StepStays names d fresh step after
step_here old names d fresh step after later below h =
    record { under = λ more e. later_step names more d fresh step after e (names_stay old names d later below) h }

pub stop_here : (old names : List (List ℕ)) (d : Item) (s : ℕ) (stop : Stop) → Extends old names
    → NamesBelow (length old) d → IsStop names d s stop → StopStays names d s stop
stop_here old names d s stop later below h =
    record { under = λ more e. later_stop names more d s stop e (names_stay old names d later below) h }

pub derived_falls : (old names : List (List ℕ)) (d : Item) (fresh : List Symbol) (e : Item) (after : List Symbol) → Extends old names
    → NamesBelow (length old) d → IsStep names d fresh (Derived e) after → rank names e < rank old d
derived_falls old names d fresh e after later below h =
    omega (arith, rank_falls names d (length fresh) e (length fresh + h.0) h.1.0, rank_stays old names d later below)
