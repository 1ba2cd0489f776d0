-- The law of steps, and the law of the machine.
use Rattle.std.proofs.Common.{◌≡◌, ℕ, zero, suc, [], refl, sym, ap, subst, ◌∙◌, ◌+◌}
use Rattle.lang_meaning.specs.Values.{nil}
use Rattle.lang_meaning.specs.Meaning.{Meant}
use Rattle.flat_language.specs.FlatState.{FlatEvaluated}
use Rattle.flat_language.specs.FlatMeaning.{flat_meaning, mean_mains, meant}
use Rattle.eval_machine.specs.Configuration.{Setting, Configuration}
use Rattle.eval_machine.specs.Step.{step}
use Rattle.eval_machine.specs.Run.{next, next_or, steps, IsEnd, start, done}
use Rattle.eval_machine.specs.Law.{LawOfSteps, LawOfMachine, Ends, setting, Leads}
use Rattle.eval_machine.proofs.Reach.{steps_joined, ReachesOutcome, after_step}
use Rattle.eval_machine.proofs.Levels.{mains_come}

-- a machine that has ended stays
stays : (s : Setting) (m : Configuration) → IsEnd s m → (n : ℕ) → steps s n m ≡ m
stays s m e zero = refl
stays s m e (suc n) = ap (λ x. steps s n x) (ap (λ o. next_or m o) e) ∙ stays s m e n

pub law_of_steps : LawOfSteps
law_of_steps s m zero j e f = stays s m e j
law_of_steps s m (suc n) zero e f = sym (stays s m f (suc n))
law_of_steps s m (suc n) (suc j) e f = law_of_steps s (next s m) n j e f

-- a run that has come to something without frames has ended, and whenever it has ended it has come to that
module _ (s : Setting) (m : Configuration) (r : FlatEvaluated) (x : ReachesOutcome s m r []) where
  run_ends : Ends s m
  run_ends = record { count = x.count; is_end = ap (λ a. step s a) x.is }

  run_leads : Leads s m (meant r)
  run_leads n e = ap done (law_of_steps s m x.count n (ap (λ a. step s a) x.is) e ∙ x.is)

-- what code that takes steps keeps: wherever it has come, the machine still leads there; and where that is the end, it is done
pub leads_on : (s : Setting) (m : Configuration) (r : Meant) (j : ℕ) → Leads s m r → Leads s (steps s j m) r
leads_on s m r j x n e =
    let same : steps s n (steps s j m) ≡ steps s (j + n) m = steps_joined s j n m in
    ap done same ∙ x (j + n) (subst (λ a. IsEnd s a) same e)

pub leads_here : (s : Setting) (m : Configuration) (r : Meant) → Leads s m r → IsEnd s m → done m ≡ r
leads_here s m r x e = x zero e

pub law_of_machine : LawOfMachine
unfolding flat_meaning
law_of_machine names program input k limit =
    let s : Setting = setting names program limit in
    let m : Configuration = start s input k in
    let r : FlatEvaluated = mean_mains names program limit k program.main nil m.state in
    let x : ReachesOutcome s m r [] = after_step s (mains_come s k program.main nil [] m.state) in
    record { ends = run_ends s m r x; leads = run_leads s m r x }
