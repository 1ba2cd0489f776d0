-- What is applied is entered, one level below.
use Rattle.std.proofs.Common.{◌≡◌, ℕ, suc, List, [], Option, Some, None, ap, sym, ◌∙◌}
use Rattle.std.specs.Prelude.{slice_get}
use Rattle.lang_meaning.specs.Values.{Value, nil}
use Rattle.lang_meaning.specs.State.{DynamicContext, value, more}
use Rattle.flat_language.specs.declared.program.FlatProcedure.{FlatProcedure}
use Rattle.flat_language.specs.FlatState.{FlatState, gives}
use Rattle.eval_machine.specs.Configuration.{Setting, ContinuationFrame, configuration, come_to, ended, some_or, descend}
use Rattle.eval_machine.specs.Applications.{enter, apply_procedure, apply_function}
use Rattle.eval_store.specs.Words.{called_or_none}
use Rattle.eval_state.specs.declared.situation.Activation.{Activation}
use Rattle.eval_state.specs.declared.situation.DynamicLinks.{DynamicLinks}
use Rattle.eval_state.specs.declared.lookups.Code.{Code}
use Rattle.eval_state.specs.declared.machine.Machine.{Machine}
use Rattle.eval_state.specs.View.{StepsTo, IsGiven, setting_of, top, frames, state, dynamic_context}
use Rattle.eval_application.specs.Entering.{Entered, captured_in, entering}
use Rattle.eval_state.specs.Codes.{IsCode}
use Rattle.eval_application.specs.Applying.{coded, entered_option}
use Rattle.eval_state.proofs.Stepping.{same_configuration}

-- no level is left
pub no_level : (old new : Machine) (o : List (List ℕ) → Option Entered) (n level : ℕ) (a : DynamicLinks) → level ≡ 0
    → StepsTo old new (λ names s b. configuration (come_to more) (frames names old n) (state names old b))
    → StepsTo old new (λ names s b. coded s (o names) (top names old n) level (dynamic_context names old a) (frames names old n) (state names old b))
no_level old new o n level a e s =
    same_configuration old new _ _ s (λ names b g. ap (λ k. coded (setting_of names old.given) (o names) (top names old n) k (dynamic_context names old a) (frames names old n) (state names old b)) (sym e))

-- there is nothing to enter
pub no_code : (old new : Machine) (o : List (List ℕ) → Option Entered) (n level below : ℕ) (a : DynamicLinks) → level ≡ suc below → ((names : List (List ℕ)) → o names ≡ None)
    → StepsTo old new (λ names s b. configuration (come_to (value nil)) (frames names old n) (state names old b))
    → StepsTo old new (λ names s b. coded s (o names) (top names old n) level (dynamic_context names old a) (frames names old n) (state names old b))
no_code old new o n level below a e none s =
    same_configuration old new _ _ s (λ names b g.
    ap (λ x. coded (setting_of names old.given) x (top names old n) (suc below) (dynamic_context names old a) (frames names old n) (state names old b)) (sym (none names))
    ∙ ap (λ k. coded (setting_of names old.given) (o names) (top names old n) k (dynamic_context names old a) (frames names old n) (state names old b)) (sym e))

pub code_entered : (old new : Machine) (o : List (List ℕ) → Option Entered) (e : List (List ℕ) → Entered) (n level below : ℕ) (a : DynamicLinks) → level ≡ suc below → ((names : List (List ℕ)) → o names ≡ Some (e names))
    → StepsTo old new (λ names s b. entering s (e names) (top names old n) below (dynamic_context names old a) (frames names old n) (state names old b))
    → StepsTo old new (λ names s b. coded s (o names) (top names old n) level (dynamic_context names old a) (frames names old n) (state names old b))
code_entered old new o e n level below a l is s =
    same_configuration old new _ _ s (λ names b g.
    ap (λ x. coded (setting_of names old.given) x (top names old n) (suc below) (dynamic_context names old a) (frames names old n) (state names old b)) (sym (is names))
    ∙ ap (λ k. coded (setting_of names old.given) (o names) (top names old n) k (dynamic_context names old a) (frames names old n) (state names old b)) (sym l))

-- the code of a procedure
pub coded_is : (names : List (List ℕ)) (s : Setting) (r : Option Code) (o : Option FlatProcedure) (a : Activation) (vs : List Value) (level : ℕ) (around : DynamicContext) (frames : List ContinuationFrame) (z : FlatState) → IsCode r o
    → coded s (entered_option names r a) vs level around frames z
    ≡ descend level (λ k. some_or o (λ frames z. ended (gives nil z) frames) (λ p. enter s p (captured_in names a) (called_or_none names a.method) vs k around)) frames z
coded_is names s None o a vs level around frames z h =
    ap (λ x. descend level (λ k. some_or x (λ frames z. ended (gives nil z) frames) (λ p. enter s p (captured_in names a) (called_or_none names a.method) vs k around)) frames z) (sym h)
coded_is names s (Some c) o a vs level around frames z h =
    ap (λ w. coded s (Some (record { procedure = c.procedure.now; words = w; captured = captured_in names a; called = called_or_none names a.method })) vs level around frames z) h.1
    ∙ ap (λ x. descend level (λ k. some_or x (λ frames z. ended (gives nil z) frames) (λ p. enter s p (captured_in names a) (called_or_none names a.method) vs k around)) frames z) (sym h.0)

pub procedure_applied : (old new : Machine) (r : Option Code) (a : Activation) (i n level : ℕ) (around : DynamicLinks)
    → ((names : List (List ℕ)) → captured_in names a ≡ [])
    → ((names : List (List ℕ)) → IsGiven names old.given → IsCode r (slice_get old.given.program.now.procedures i))
    → StepsTo old new (λ names s b. coded s (entered_option names r a) (top names old n) level (dynamic_context names old around) (frames names old n) (state names old b))
    → StepsTo old new (λ names s b. apply_procedure s i (called_or_none names a.method) (top names old n) level (dynamic_context names old around) (frames names old n) (state names old b))
procedure_applied old new r a i n level around none is s =
    same_configuration old new _ _ s (λ names b g.
    coded_is names (setting_of names old.given) r (slice_get old.given.program.now.procedures i) a (top names old n) level (dynamic_context names old around) (frames names old n) (state names old b) (is names g)
    ∙ ap (λ cs. descend level (λ k. some_or (slice_get old.given.program.now.procedures i) (λ frames z. ended (gives nil z) frames) (λ p. enter (setting_of names old.given) p cs (called_or_none names a.method) (top names old n) k (dynamic_context names old around))) (frames names old n) (state names old b)) (none names))

pub function_applied : (old new : Machine) (r : Option Code) (a : Activation) (i n level : ℕ) (around : DynamicLinks)
    → ((names : List (List ℕ)) → called_or_none names a.method ≡ None)
    → ((names : List (List ℕ)) → IsGiven names old.given → IsCode r (slice_get old.given.program.now.lambdas i))
    → StepsTo old new (λ names s b. coded s (entered_option names r a) (top names old n) level (dynamic_context names old around) (frames names old n) (state names old b))
    → StepsTo old new (λ names s b. apply_function s i (captured_in names a) (top names old n) level (dynamic_context names old around) (frames names old n) (state names old b))
function_applied old new r a i n level around none is s =
    same_configuration old new _ _ s (λ names b g.
    coded_is names (setting_of names old.given) r (slice_get old.given.program.now.lambdas i) a (top names old n) level (dynamic_context names old around) (frames names old n) (state names old b) (is names g)
    ∙ ap (λ m. descend level (λ k. some_or (slice_get old.given.program.now.lambdas i) (λ frames z. ended (gives nil z) frames) (λ p. enter (setting_of names old.given) p (captured_in names a) m (top names old n) k (dynamic_context names old around))) (frames names old n) (state names old b)) (none names))
