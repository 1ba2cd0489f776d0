-- The laws of all runs: by induction on the levels.
use Rattle.std.proofs.Common.{◌≤◌, ℕ, zero, suc, List, [], ◌∷◌, refl, sym, ap, subst, arith, inr, ⊎_elim, le_refl}
use Rattle.lang_meaning.specs.declared.program.ProgramRows.{ProgramRows}
use Rattle.lang_meaning.specs.Laws.{IsSettled, LawOfLevels, LawOfGrowth, LawOfTransfers, LawOfExits}
use Rattle.lang_meaning.specs.Form.{Form}
use Rattle.lang_meaning.specs.Counts.{nodes, application_words}
use Rattle.lang_meaning.specs.Values.{Value, nil}
use Rattle.lang_meaning.specs.Objects.{no_environment}
use Rattle.lang_meaning.specs.State.{State, first_state, main_context, more, Evaluated, Limit}
use Rattle.lang_meaning.specs.InitialHeap.{objects_at_start}
use Rattle.lang_meaning.specs.Signals.{Task, form, Evaluation}
use Rattle.lang_meaning.specs.Meaning.{mean_task, none_below, context_of, meaning_at, mean_main, mean_mains, end_of, meant, meaning}
use Rattle.lang_meaning.proofs.Steps.{IsKeptByRules, GrowsAnew, anew_kept, prefix_of_itself}
use Rattle.lang_meaning.proofs.Compared.{Extends, Within, itself, given, on, requests}
use Rattle.lang_meaning.proofs.Forms.{tasks}

module _ {R : State → State → Type 0} {k : IsKeptByRules R} where
  -- nothing is below everything that keeps the relation
  none_within : {low high : Task → Evaluation} → Within R k low high → Within R k none_below high
  none_within {low} {high} w task env around z = record {
    grows = (w task env around z).grows;
    lands = (w task env around z).lands;
    either = inr (record { ran_out = refl; prefix = k.prefix (w task env around z).grows });
  }

  none_within_none : Within R k none_below none_below
  none_within_none task env around z =
      itself around.exits (record { outcome = more; state = z }) (k.none z) tt

  -- tasks with one meaning below, and with another
  beside : (names : List (List ℕ)) (program : ProgramRows) (limit : Limit) {low high : Task → Evaluation} → Within R k low high
      → Within R k (mean_task (context_of names program limit low)) (mean_task (context_of names program limit high))
  beside names program limit {low} {high} w =
      tasks (record { context = context_of names program limit low; higher = high; within = w })

  -- fewer levels are below more of them
  pub levels_within : (names : List (List ℕ)) (program : ProgramRows) (limit : Limit) (few many : ℕ) → few ≤ many
      → Within R k (meaning_at names program limit few) (meaning_at names program limit many)
  unfolding meaning_at
  levels_within names program limit zero zero h =
      beside names program limit none_within_none
  levels_within names program limit zero (suc many) h =
      beside names program limit (none_within (levels_within names program limit zero many (omega arith)))
  levels_within names program limit (suc few) zero h = absurd (omega (arith, h))
  levels_within names program limit (suc few) (suc many) h =
      beside names program limit (levels_within names program limit few many (omega (arith, h)))

  main_within : (names : List (List ℕ)) (program : ProgramRows) (limit : Limit) (few many : ℕ) → few ≤ many → (f : Form) (z : State)
      → Extends R k main_context.exits z (mean_main names program limit few f z) (mean_main names program limit many f z)
  main_within names program limit few many h f z =
      requests limit 0 (application_words (nodes f)) z (λ entered.
      on (levels_within names program limit few many h (form f) no_environment main_context entered) (λ v after.
      given main_context.exits v (record after { stack = z.stack }) (k.stack z.stack after)))

  pub mains_within : (names : List (List ℕ)) (program : ProgramRows) (limit : Limit) (few many : ℕ) → few ≤ many → (fs : List Form) (last : Value) (z : State)
      → Extends R k main_context.exits z (mean_mains names program limit few fs last z) (mean_mains names program limit many fs last z)
  mains_within names program limit few many h [] last z = given main_context.exits last z (k.none z)
  mains_within names program limit few many h (f ∷ fs) last z =
      on (main_within names program limit few many h f z) (λ v after.
      mains_within names program limit few many h fs v after)

-- what is known of two results side by side
settled : {z : State} {r s : Evaluated} → Extends GrowsAnew anew_kept main_context.exits z r s → IsSettled (meant r) (meant s)
settled {z} {r} {s} x = ⊎_elim
    (λ same. subst (λ q. IsSettled (meant q) (meant s)) (sym same)
    (record { same = λ h. refl; prefix = prefix_of_itself s.state.printed }))
    (λ cut. record { same = λ h. absurd (h (ap end_of cut.ran_out)); prefix = cut.prefix })
    x.either

pub law_of_levels : LawOfLevels
unfolding meaning
law_of_levels names program input limit few many h =
    settled (mains_within names program limit few many h program.main nil
    (first_state (objects_at_start names program) input))

pub law_of_growth : LawOfGrowth
law_of_growth names program limit k task env around z =
    (levels_within {R = GrowsAnew} {k = anew_kept} names program limit k k (le_refl k) task env around z).grows.later

pub law_of_transfers : LawOfTransfers
law_of_transfers names program limit k task env around z =
    (levels_within {R = GrowsAnew} {k = anew_kept} names program limit k k (le_refl k) task env around z).lands

pub law_of_exits : LawOfExits
law_of_exits = (
  (λ objects input. (omega arith, tt)),
  (λ names program limit k task env around z.
      (levels_within {R = GrowsAnew} {k = anew_kept} names program limit k k (le_refl k) task env around z).grows.exits),
)
