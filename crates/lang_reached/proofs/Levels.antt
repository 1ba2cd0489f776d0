-- Any number of levels, main forms and whole programs: what is left means the same.
use Rattle.std.proofs.Common.{ℕ, zero, suc, List, [], ◌∷◌, refl, sym, ap}
use Rattle.base.specs.AllOf.{AllOf}
use Rattle.lang_meaning.specs.Form.{Form}
use Rattle.lang_meaning.specs.Counts.{nodes, application_words}
use Rattle.lang_meaning.specs.Values.{Value, nil}
use Rattle.lang_meaning.specs.Objects.{no_environment}
use Rattle.lang_meaning.specs.State.{State, first_state, main_context, more, Limit}
use Rattle.lang_meaning.specs.InitialHeap.{objects_at_start}
use Rattle.lang_meaning.specs.Signals.{form}
use Rattle.lang_meaning.specs.Meaning.{none_below, meaning_at, mean_main, mean_mains, meant, meaning}
use Rattle.lang_reached.specs.LeftOut.{without_others}
use Rattle.lang_reached.specs.Laws.{LawOfReached}
use Rattle.lang_reached.proofs.Live.{Setting, Live, FormFine, StateFine}
use Rattle.lang_reached.proofs.Agreeing.{Agrees, Within, itself, given, on, requests}
use Rattle.lang_reached.proofs.Applying.{Grounded}
use Rattle.lang_reached.proofs.FormsAgree.{tasks}
use Rattle.lang_reached.proofs.Starting.{grounded, start_fine}

module _ {t : Setting} (g : Grounded t) (limit : Limit) where
  none_within : Within t none_below none_below
  none_within task env k e around z a s = itself (record { outcome = more; state = z }) tt s

  levels_within : (n : ℕ) → Within t (meaning_at t.names t.program limit n) (meaning_at t.names (without_others t.kept t.program) limit n)
  unfolding meaning_at
  levels_within zero = tasks g (record { limit = limit; below = none_below; below_left = none_below; within = none_within })
  levels_within (suc n) = tasks g (record {
    limit = limit;
    below = meaning_at t.names t.program limit n;
    below_left = meaning_at t.names (without_others t.kept t.program) limit n;
    within = levels_within n;
  })

  main_agrees : (n : ℕ) (f : Form) (z : State) → FormFine t f → StateFine t z
      → Agrees t (mean_main t.names t.program limit n f z) (mean_main t.names (without_others t.kept t.program) limit n f z)
  main_agrees n f z k s =
      requests limit 0 (application_words (nodes f)) z s (λ entered s'.
      on (levels_within n (form f) no_environment k tt main_context entered tt s') (λ v after l s''.
      given v (record after { stack = z.stack }) l s''))

  mains_agree : (n : ℕ) (fs : List Form) (last : Value) (z : State) → AllOf (FormFine t) fs → Live t last → StateFine t z
      → Agrees t (mean_mains t.names t.program limit n fs last z) (mean_mains t.names (without_others t.kept t.program) limit n fs last z)
  mains_agree n [] last z k l s = given last z l s
  mains_agree n (f ∷ fs) last z k l s = on (main_agrees n f z k.0 s) (λ v after l' s'. mains_agree n fs v after k.1 l' s')

pub law_of_reached : LawOfReached
unfolding meaning
law_of_reached names program kept closed input levels limit =
    let start = objects_at_start names program in
    let t : Setting = record { names = names; program = program; kept = kept; start = start } in
    let fine : StateFine t (first_state start input) = record { store = start_fine t closed refl; variables = tt; globals = tt; dynamics = tt } in
    sym (ap meant (mains_agree (grounded t closed refl) limit levels program.main nil (first_state start input) closed.main tt fine).same)
