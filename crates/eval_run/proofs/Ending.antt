-- The end that an evaluator has come to: the class of the condition, and the place.
use Rattle.std.proofs.Common.{◌≡◌, ℕ, List, [], refl, sym, ap, ◌∙◌, subst}
use Rattle.base.specs.declared.place.Place.{Place}
use Rattle.lang_meaning.specs.Objects.{Object}
use Rattle.lang_meaning.specs.State.{Outcome, exit, no_place}
use Rattle.lang_meaning.specs.Values.{Value}
use Rattle.lang_meaning.specs.declared.program.ProgramRows.{ProgramRows}
use Rattle.lang_meaning.specs.Meaning.{Meant, End, class_in, ending_of, ended_unhandled}
use Rattle.lang_meaning.specs.Meaning as meaning
use Rattle.eval_store.specs.declared.store.Store.{Store}
use Rattle.eval_store.specs.declared.word.Word.{Word}
use Rattle.eval_store.specs.declared.word.Word.TheVariants.{Nil, True, Integer, Character, Symbol, Unnamed}
use Rattle.eval_store.specs.declared.word.Word.TheVariants as word
use Rattle.eval_store.specs.View.{Beside, state_of}
use Rattle.eval_store.specs.Words.{value_of_word}
use Rattle.eval_primitives.specs.Classing.{HasClassOf}
use Rattle.eval_state.specs.declared.frame.Landing.{Landing}
use Rattle.eval_state.specs.declared.frame.Landing.TheVariants as landing
use Rattle.eval_state.specs.Frames.{landing_of, outcome_of}
use Rattle.lang_meaning.specs.declared.evaluation.EvaluationEnd.{EvaluationEnd}
use Rattle.lang_meaning.specs.declared.evaluation.EvaluationEnd.TheVariants as endings
use Rattle.lang_meaning.specs.Evaluation.{end_for, end_of}
use Rattle.lang_told.specs.Told.{Tells}
use Rattle.eval_state.specs.declared.frame.Outcome.{Outcome as Arrived}
use Rattle.eval_state.specs.declared.frame.Outcome.TheVariants as arrived
use Rattle.eval_run.specs.Telling.{TellsOf}

pub of_object : (s : Store) (w : Word) (n c : ℕ) → w ≡ word.Object n → HasClassOf s (word.Object n) c → (names : List (List ℕ)) (b : Beside)
    → class_in (state_of names s b).store (value_of_word names w) ≡ c
of_object s w n c e h names b =
    ap (λ x. class_in (state_of names s b).store (value_of_word names x)) e ∙ h.seen names b

pub of_other : (s : Store) (w : Word) → ((n : ℕ) → w ≡ word.Object n → ⊥) → (names : List (List ℕ)) (b : Beside)
    → class_in (state_of names s b).store (value_of_word names w) ≡ 0
of_other s (word.Object n) h names b = absurd (h n refl)
of_other s w h names b = refl

-- how an outcome ends a program, with the objects that are there
abbrev pub ends_by : List Object → Outcome → EvaluationEnd
ends_by store o = end_for (ending_of (meaning.end_of o) store)

pub ends_unhandled : (store : List Object) (e class : ℕ) (v : Value) (l : Landing) (site : Place)
    → ((e : ℕ) (v : Value) → meaning.end_of (exit e v (landing_of l)) ≡ ended_unhandled v site) → class_in store v ≡ class
    → ends_by store (exit e v (landing_of l)) ≡ endings.Unhandled class site
ends_unhandled store e class v l site h k =
    ap (λ x. end_for (ending_of x store)) (h e v) ∙ ap (λ c. endings.Unhandled c site) k

-- what is told of the end, of a program with these names and rows
module _ (names : List (List ℕ)) (rows : ProgramRows) (m : Meant) (told : List ℕ) where
  abbrev TellsOfEnd : End → Type 0
  TellsOfEnd end = TellsOf (end_for (ending_of end m.store)) names rows m told

  unhandled_told : (v : Value) (site : Place) → m.end ≡ ended_unhandled v site → Tells names rows.classes m.store v told → TellsOf (end_of m) names rows m told
  unhandled_told v site is tells = subst TellsOfEnd (sym is) (record { condition = v; place = site; end = is; tells = tells })

  pub exit_told :
      (v : Value) (e : ℕ) (l : Landing) → m.end ≡ meaning.end_of (exit e v (landing_of l)) → Tells names rows.classes m.store v told
      → TellsOf (end_of m) names rows m told
  exit_told v e (landing.Site site) is tells = unhandled_told v site is tells
  exit_told v e (landing.Segment segment) is tells = unhandled_told v no_place is tells

  pub nothing_told :
      (o : Arrived) → ((n : ℕ) (w : Word) (l : Landing) → o ≡ arrived.Exit n w l → ⊥) → m.end ≡ meaning.end_of (outcome_of names o) → told ≡ []
      → TellsOf (end_of m) names rows m told
  nothing_told (arrived.Value w) h is none = subst TellsOfEnd (sym is) none
  nothing_told (arrived.Exit n w l) h is none = absurd (h n w l refl)
  nothing_told (arrived.Full asked left) h is none = subst TellsOfEnd (sym is) none
  nothing_told arrived.More h is none = subst TellsOfEnd (sym is) none
