-- Calls by forms.
use Rattle.std.proofs.Common.{◌≡◌, ℕ, List, Option, ap, ◌∙◌}
use Rattle.lang_meaning.specs.Lookup.{text}
use Rattle.lang_meaning.specs.Literals.{function_row}
use Rattle.flat_language.specs.FlatState.{method_of}
use Rattle.flat_language.specs.declared.place.MethodPlace.{MethodPlace}
use Rattle.eval_machine.specs.Configuration.{call_name}
use Rattle.eval_machine.specs.Applications.{apply_row}
use Rattle.eval_machine.specs.Step.{operation_step, next_method_step}
use Rattle.eval_store.specs.declared.called.Called.{Called}
use Rattle.eval_store.specs.Words.{called_or_none}
use Rattle.eval_state.specs.declared.situation.Situation.{Situation}
use Rattle.eval_state.specs.declared.machine.Machine.{Machine}
use Rattle.eval_state.specs.View.{StepsTo, setting_of, at, top, frames, state, dynamic_context}
use Rattle.eval_state.proofs.Stepping.{same_configuration}
use Rattle.eval_application.proofs.Situations.{level_at, around_at}

-- the function of a name
pub named : (old new : Machine) (n count : ℕ) (t : Situation)
    → StepsTo old new (λ names s b. apply_row s (text names n) (function_row names s.program.functions (text names n)) (top names old count) t.level (dynamic_context names old t.around) (frames names old count) (state names old b))
    → StepsTo old new (λ names s b. operation_step s (call_name n) (top names old count) (at names old t) (frames names old count) (state names old b))
named old new n count t s =
    same_configuration old new _ _ s (λ names b g.
    ap (λ k. apply_row (setting_of names old.given) (text names n) (function_row names old.given.program.now.functions (text names n)) (top names old count) k (dynamic_context names old t.around) (frames names old count) (state names old b)) (level_at names old t)
    ∙ ap (λ k. apply_row (setting_of names old.given) (text names n) (function_row names old.given.program.now.functions (text names n)) (top names old count) (at names old t).level k (frames names old count) (state names old b)) (around_at names old t))

-- the next method of a place
pub next_at : (old new : Machine) (p : MethodPlace) (o : Option Called) (t : Situation) → ((names : List (List ℕ)) (s : Situation) → called_or_none names o ≡ method_of p (at names old s).environment)
    → StepsTo old new (λ names s b. next_method_step s (called_or_none names o) (at names old t) (frames names old 0) (state names old b))
    → StepsTo old new (λ names s b. next_method_step s (method_of p (at names old t).environment) (at names old t) (frames names old 0) (state names old b))
next_at old new p o t h s =
    same_configuration old new _ _ s (λ names b g. ap (λ k. next_method_step (setting_of names old.given) k (at names old t) (frames names old 0) (state names old b)) (h names t))
