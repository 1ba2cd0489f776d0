-- An outcome leads on from the frame to which it comes: a value goes on where a form waits for it, and any other outcome passes or
-- is kept; and so a step keeps what it is to keep.
use Rattle.std.proofs.Common.{ℕ, ◌==◌, Bool, true, false, List, [], ◌∷◌, ◌++◌, arith}
use Rattle.std.specs.Prelude.{if◌then◌else◌}
use Rattle.lang_meaning.specs.Counts.{application_words}
use Rattle.lang_meaning.specs.Values.{Value, nil, is_true}
use Rattle.lang_meaning.specs.Objects.{control_error_class}
use Rattle.lang_meaning.specs.State.{at_segment, Outcome, value, exit, full, more}
use Rattle.lang_meaning.specs.Lookup.{text}
use Rattle.lang_meaning.specs.Meaning.{segment_of}
use Rattle.flat_language.specs.FlatForm.{FlatForm, FlatForms}
use Rattle.flat_language.specs.FlatNodes.{nodes}
use Rattle.flat_language.specs.FlatState.{FlatState, exit_of, gives}
use Rattle.flat_language.specs.FlatMeaning.{from_segment}
use Rattle.eval_machine.specs.Configuration.{Setting, Situation, Wait, ContinuationFrame, Control, evaluate, signals, come_to, Configuration, configuration, ended}
use Rattle.eval_machine.specs.Configuration.{set_local_value, set_global_value, def_global_value, sequence_form, clause_test, binding_value, argument, applied_function, applied_list, while_test, while_body, return_value, last_segment, catch_tag, throw_tag, throw_value, dynamic_value, set_dynamic_value, def_dynamic_value, handler_value, signal_condition, signal_mark, continue_condition, continue_value}
use Rattle.eval_machine.specs.Configuration.{kept, method_value, before_methods, primary_method, handler_return, main_form, main_forms, awaits, catches, turns, cleans}
use Rattle.eval_machine.specs.Step.{value_step, turn_step, cleanup_step, outcome_step, control_step}
use Rattle.eval_machine.specs.Run.{next_or, begins}
use Rattle.eval_machine.proofs.Kept.{Progress, progress, counted, IsLater, same, further, none_counted, FineOutcome, FineFrames, IsFine, StepKeepsPrinted, there, framed, earlier, beneath, given, ends, on, either, descends}
use Rattle.eval_machine.proofs.KeptWords.{requests_words, variable_set}
use Rattle.eval_machine.proofs.KeptApplied.{value_here, signals_class, applies_each, applies_method, throws, transfers, continues, signals_under}
use Rattle.eval_machine.proofs.KeptForms.{globals_set, dynamics_set, lists_apply, signals_one, handles, sequences, clauses_lead, bodies_lead, arguments_lead, bindings_lead, dynamics_lead, segments_lead, forms_lead}

-- a frame that goes
beyond : {f : ContinuationFrame} {frames : List ContinuationFrame} {before : Progress} {m : Configuration} → StepKeepsPrinted frames before m → StepKeepsPrinted (f ∷ frames) before m
beyond x = record { later = x.later; fine = λ h. x.fine h.1 }

-- what an outcome comes to, where it and the frames are fine
record OutcomeKeepsPrinted (o : Outcome) (frames : List ContinuationFrame) (before : Progress) (m : Configuration) : Type 0 where
  pub later : IsLater before (progress m.state.state)
  pub fine : FineOutcome o → FineFrames frames → IsFine m

-- whatever the outcome is
always : {o : Outcome} {frames : List ContinuationFrame} {before : Progress} {m : Configuration} → StepKeepsPrinted frames before m → OutcomeKeepsPrinted o frames before m
always x = record { later = x.later; fine = λ g. x.fine }

-- an outcome that passes
passes : {o : Outcome} {f : ContinuationFrame} {frames : List ContinuationFrame} {before : Progress} {y : FlatState} → IsLater before (progress y.state)
    → OutcomeKeepsPrinted o (f ∷ frames) before (configuration (come_to o) frames y)
passes p = record { later = p; fine = λ g h. record { control = g; frames = h.1 } }

-- whin a configuration keeps of an earlier one, after which so many forms began
pub record LaterConfiguration (forms : ℕ) (a b : Configuration) : Type 0 where
  pub later : IsLater (counted forms (progress a.state.state)) (progress b.state.state)
  pub fine : IsFine a → IsFine b

pub unchanged : (m : Configuration) → LaterConfiguration 0 m m
unchanged m = record { later = none_counted m.state.state; fine = λ h. h }

from : {c : Control} {frames : List ContinuationFrame} {z : FlatState} {m : Configuration} {forms : ℕ} → StepKeepsPrinted frames (counted forms (progress z.state)) m → LaterConfiguration forms (configuration c frames z) m
from x = record { later = x.later; fine = λ h. x.fine h.frames }

module _ (s : Setting) where
  -- a value
  waits : (w : Wait) (v : Value) (frames : List ContinuationFrame) (z : FlatState) → StepKeepsPrinted (awaits w ∷ frames) (progress z.state) (value_step s w v frames z)
  waits (set_local_value p at) x frames z = beyond (ends (given (variable_set p x at.environment z) tt))
  waits (set_global_value n at) x frames z = beyond (globals_set s (text s.names n) x at frames z)
  waits (def_global_value n) x frames z = beyond (ends (given (same _) tt))
  waits (sequence_form fs at) v frames z = beyond (sequences s v fs at frames z)
  waits (clause_test body cs at) v frames z = beyond (either (is_true v) (bodies_lead s v body at frames z) (clauses_lead s cs at frames z))
  waits (binding_value bs vs all body at) v frames z = beyond (bindings_lead s bs (vs ++ v ∷ []) all body at frames z)
  waits (argument o fs vs at) v frames z = beyond (arguments_lead s o fs (vs ++ v ∷ []) at frames z)
  waits (applied_function list at) f frames z = beyond (framed (same _) tt tt)
  waits (applied_list f at) list frames z = beyond (lists_apply s f list at frames z)
  waits (while_test test body at) v frames z = beyond (either (is_true v) (framed (same _) tt tt) (value_here nil frames z))
  waits (while_body test body at) v frames z = beyond (descends at.level _ frames z (λ k. there (same _) tt))
  waits (return_value x at) v frames z = beyond (transfers s (exit_of x at.environment) v (at_segment 0) at.level at.around frames z)
  waits last_segment v frames z = beyond (value_here nil frames z)
  waits (catch_tag body at) v frames z = beyond (framed (same _) tt tt)
  waits (throw_tag f at) tag frames z = beyond (framed (same _) tt tt)
  waits (throw_value tag at) v frames z = beyond (throws s tag v at.level at.around frames z)
  waits (dynamic_value bs vs all body at) v frames z = beyond (dynamics_lead s bs (vs ++ v ∷ []) all body at frames z)
  waits (set_dynamic_value n at) x frames z = beyond (dynamics_set s (text s.names n) x at frames z)
  waits (def_dynamic_value n) x frames z = beyond (ends (given (same _) tt))
  waits (handler_value body at) h frames z = beyond (handles s h body at frames z)
  waits (signal_condition continuable at) c frames z = beyond (framed (same _) tt tt)
  waits (signal_mark c at) mark frames z = beyond (signals_one s c mark at frames z)
  waits (continue_condition f at) c frames z = beyond (framed (same _) tt tt)
  waits (continue_value c at) v frames z = beyond (continues s c v at.level at.around frames z)
  waits (kept o) v frames z = record { later = same _; fine = λ h. record { control = h.0; frames = h.1 } }
  waits (method_value ms vs level around) v frames z = beyond (applies_each s ms vs level around frames z)
  waits (before_methods c p ps vs level around) v frames z =
      beyond (beneath (awaits (primary_method c.after vs level around)) tt
      (applies_method s p (record { arguments = vs; rest = record { around = []; before = []; primary = ps; after = [] } }) level around
      (awaits (primary_method c.after vs level around) ∷ frames) z))
  waits (primary_method ms vs level around) v frames z = beyond (beneath (awaits (kept (value v))) tt (applies_each s ms vs level around (awaits (kept (value v)) ∷ frames) z))
  waits (handler_return level around) v frames z = beyond (signals_class s control_error_class [] level around frames z)
  waits (main_form stack) v frames z = beyond (ends (given (same _) tt))
  waits (main_forms k []) last frames z = beyond (value_here last frames z)
  waits (main_forms k (f ∷ fs)) last frames z =
      beyond (beneath (awaits (main_forms k fs)) tt
      (on (requests_words s.limit 0 (application_words (nodes f)) z (omega arith)) (λ ignored entered.
      beneath (awaits (main_form z.state.stack)) tt (framed (same _) tt tt))))

  -- any outcome, at each frame
  waiting : (w : Wait) (o : Outcome) (frames : List ContinuationFrame) (z : FlatState) → OutcomeKeepsPrinted o (awaits w ∷ frames) (progress z.state) (outcome_step s (awaits w) o frames z)
  waiting w (value v) frames z = always (waits w v frames z)
  waiting w (exit e v landing) frames z = passes (same _)
  waiting w (full asked left) frames z = passes (same _)
  waiting w more frames z = passes (same _)

  catching : (e : ℕ) (o : Outcome) (frames : List ContinuationFrame) (z : FlatState) → OutcomeKeepsPrinted o (catches e ∷ frames) (progress z.state) (outcome_step s (catches e) o frames z)
  catching e (value v) frames z = passes (same _)
  catching e (exit x v landing) frames z = caught_or (x == e)
    where
      caught_or : (b : Bool) → OutcomeKeepsPrinted (exit x v landing) (catches e ∷ frames) (progress z.state)
          (ended (if b then gives v z else record { outcome = exit x v landing; state = z }) frames)
      caught_or true = always (beyond (value_here v frames z))
      caught_or false = passes (same _)
  catching e (full asked left) frames z = passes (same _)
  catching e more frames z = passes (same _)

  turning : (e : ℕ) (all : FlatForms) (at : Situation) (o : Outcome) (frames : List ContinuationFrame) (z : FlatState)
      → OutcomeKeepsPrinted o (turns e all at ∷ frames) (progress z.state) (turn_step s e all at o frames z)
  turning e all at (value v) frames z = passes (same _)
  turning e all at (exit x v landing) frames z =
      always (beyond (either (x == e)
      (descends at.level _ frames z (λ k. segments_lead s e (from_segment (segment_of landing) all) all (record at { level = k }) frames z))
      (there (same _) tt)))
  turning e all at (full asked left) frames z = passes (same _)
  turning e all at more frames z = passes (same _)

  cleaning : (cleanup : FlatForm) (at : Situation) (o : Outcome) (frames : List ContinuationFrame) (z : FlatState)
      → OutcomeKeepsPrinted o (cleans cleanup at ∷ frames) (progress z.state) (cleanup_step s cleanup at o frames z)
  cleaning cleanup at (value v) frames z = always (beyond (framed (same _) tt tt))
  cleaning cleanup at (exit e v landing) frames z = always (beyond (framed (same _) tt tt))
  cleaning cleanup at (full asked left) frames z = passes (same _)
  cleaning cleanup at more frames z = passes (same _)

  outcomes : (f : ContinuationFrame) (o : Outcome) (frames : List ContinuationFrame) (z : FlatState) → OutcomeKeepsPrinted o (f ∷ frames) (progress z.state) (outcome_step s f o frames z)
  outcomes (awaits w) o frames z = waiting w o frames z
  outcomes (catches e) o frames z = catching e o frames z
  outcomes (turns e all at) o frames z = turning e all at o frames z
  outcomes (cleans cleanup at) o frames z = cleaning cleanup at o frames z
  outcomes other o frames z = passes (same _)

  -- one step
  pub next_keeps : (c : Control) (frames : List ContinuationFrame) (z : FlatState)
      → LaterConfiguration (if begins c then 1 else 0) (configuration c frames z) (next_or (configuration c frames z) (control_step s c frames z))
  next_keeps (evaluate f at) frames z = from (forms_lead s f at frames z)
  next_keeps (signals c mark level around) frames z = from (earlier (none_counted z.state) (signals_under s around.handlers c mark level around frames z))
  next_keeps (come_to o) [] z = unchanged _
  next_keeps (come_to o) (f ∷ frames) z =
      let x = outcomes f o frames z in record { later = further (none_counted z.state) x.later; fine = λ h. x.fine h.control h.frames }
