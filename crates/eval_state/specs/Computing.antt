-- What a machine has come to once a primitive has computed with its last operands.
use Rattle.std.specs.Prelude.{◌≡◌, ℕ, List, Result}
use Rattle.lang_meaning.specs.declared.primitive.Primitive.{Primitive}
use Rattle.lang_meaning.specs.Values.{Value}
use Rattle.lang_meaning.specs.State.{DynamicContext}
use Rattle.lang_meaning.specs.Primitives.{primitive}
use Rattle.flat_language.specs.FlatNodes.{tables}
use Rattle.eval_machine.specs.Configuration.{Setting, Configuration, Transition, ended}
use Rattle.eval_machine.specs.Configuration as plain
use Rattle.eval_machine.specs.Applications.{signal_class, signal_domain, answered}
use Rattle.eval_store.specs.declared.store.Halt.{Halt}
use Rattle.eval_store.specs.View.{Beside, limit_of}
use Rattle.eval_primitives.specs.declared.answer.Answer.{Answer}
use Rattle.eval_primitives.specs.Answers.{Carried, evaluated, to_signal, to_signal_domain, carried_out, AnswersAs}
use Rattle.eval_state.specs.declared.situation.DynamicLinks.{DynamicLinks}
use Rattle.eval_state.specs.declared.machine.Machine.{Machine}
use Rattle.eval_state.specs.View.{IsGiven, setting_of, configuration_of, dynamic_context, top, frames, state}

-- a primitive computes with values
abbrev pub computed : Setting → Primitive → List Value → (level : ℕ) → DynamicContext → Transition
computed s which vs level around frames z = answered s (primitive s.names (tables s.program) which vs z.state) level around frames z

-- a machine goes on with what is left of an answer
abbrev pub carry : Setting → Carried → (level : ℕ) → DynamicContext → List plain.ContinuationFrame → Configuration
carry s (evaluated r) level around frames = ended r frames
carry s (to_signal class slots z) level around frames = signal_class s class slots level around frames z
carry s (to_signal_domain v expected z) level around frames = signal_domain s v expected level around frames z

-- the store alone has changed, and that is the answer
pub record IsAnswered (old new : Machine) (which : Primitive) (count : ℕ) (r : Result Answer Halt) : Type 0 where
  pub same : new ≡ record old { store = new.store }
  pub comes : (names : List (List ℕ)) (b : Beside) → IsGiven names old.given
      → AnswersAs names r (state names new b)
      (carried_out (limit_of old.given.limit) (primitive names (tables old.given.program.now) which (top names old count) (state names old b).state) (state names old b))

-- a machine has gone on with an answer
pub record GoesOnWithAnswer (old new : Machine) (a : Result Answer Halt) (level : ℕ) (around : DynamicLinks) : Type 0 where
  pub given : new.given ≡ old.given
  pub comes : (names : List (List ℕ)) (b : Beside) (r : Carried) → IsGiven names old.given → AnswersAs names a (state names old b) r
      → configuration_of names new b ≡ carry (setting_of names old.given) r level (dynamic_context names old around) (frames names old 0)
