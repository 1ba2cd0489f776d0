-- The values of literals, where the initial heap has them.
use Rattle.std.proofs.Common.{◌≡◌, ℕ, List, Option, Some, None, refl, ap, sym, ◌∙◌}
use Rattle.std.specs.Prelude.{slice_get, option_map}
use Rattle.lang_meaning.specs.declared.program.LiteralRow.{LiteralRow}
use Rattle.lang_meaning.specs.declared.program.LiteralRow.TheVariants as row
use Rattle.lang_meaning.specs.declared.program.FunctionRow.{FunctionRow}
use Rattle.lang_meaning.specs.declared.program.Callee.{Callee}
use Rattle.lang_meaning.specs.Lookup.{text}
use Rattle.lang_meaning.specs.Literals.{function_row}
use Rattle.lang_meaning.specs.InitialHeap.{function_value}
use Rattle.lang_meaning.specs.State.{value}
use Rattle.base.specs.declared.datum.Name.{Name}
use Rattle.flat_language.specs.FlatNodes.{tables}
use Rattle.flat_language.specs.FlatState.{FlatState, gives}
use Rattle.eval_machine.specs.Applications.{signal_undefined}
use Rattle.eval_machine.specs.Configuration.{Transition, ContinuationFrame, configuration, come_to, ended, some_or}
use Rattle.eval_machine.specs.Step.{literal_step}
use Rattle.eval_store.specs.declared.word.Word.{Word}
use Rattle.eval_store.specs.Words.{value_of_word}
use Rattle.eval_state.specs.declared.situation.Situation.{Situation}
use Rattle.eval_state.specs.declared.machine.Machine.{Machine}
use Rattle.eval_state.specs.Frames.{situation_in}
use Rattle.eval_state.specs.View.{StepsTo, IsGiven, setting_of, at, frames, state, dynamic_context}
use Rattle.eval_state.proofs.Stepping.{same_configuration}

-- a value, for a literal that is that row
pub literal_is : (old new : Machine) (id : ℕ) (q : Situation) (r : Option LiteralRow) (w : Word) → slice_get old.given.program.now.literals id ≡ r
    → ((names : List (List ℕ)) (fs : List ContinuationFrame) (z : FlatState) → IsGiven names old.given
    → configuration (come_to (value (value_of_word names w))) fs z ≡ literal_step (setting_of names old.given) id r (at names old q) fs z)
    → StepsTo old new (λ names s b. configuration (come_to (value (value_of_word names w))) (frames names old 0) (state names old b))
    → StepsTo old new (λ names s b. literal_step s id (slice_get s.program.literals id) (at names old q) (frames names old 0) (state names old b))
literal_is old new id q r w e h x =
    same_configuration old new _ _ x (λ names b g.
    h names (frames names old 0) (state names old b) g
    ∙ ap (λ o. literal_step (setting_of names old.given) id o (at names old q) (frames names old 0) (state names old b)) (sym e))

-- a name has a function, or none
pub named_function : (o : Option FunctionRow) (c : Callee) (other known : Transition) (fs : List ContinuationFrame) (z : FlatState)
    → Some c ≡ option_map (λ (f : FunctionRow). f.callee) o
    → known fs z ≡ some_or o other (λ f. known) fs z
named_function (Some f) c other known fs z e = refl
named_function None c other known fs z e = absurd (cc)

pub no_function : (o : Option FunctionRow) (other known : Transition) (fs : List ContinuationFrame) (z : FlatState) → None ≡ option_map (λ (f : FunctionRow). f.callee) o
    → other fs z ≡ some_or o other (λ f. known) fs z
no_function (Some f) other known fs z e = absurd (cc)
no_function None other known fs z e = refl

pub undefined_literal : (old new : Machine) (id : ℕ) (q : Situation) (name : Name) → slice_get old.given.program.now.literals id ≡ Some (row.Function name)
    → ((names : List (List ℕ)) → IsGiven names old.given → None
    ≡ option_map (λ (f : FunctionRow). f.callee) (function_row names old.given.program.now.functions (text names name.0)))
    → StepsTo old new (λ names s b. signal_undefined s (text names name.0) q.level (dynamic_context names old q.around) (frames names old 0) (state names old b))
    → StepsTo old new (λ names s b. literal_step s id (slice_get s.program.literals id) (at names old q) (frames names old 0) (state names old b))
unfolding situation_in
undefined_literal old new id q name e none x =
    same_configuration old new _ _ x (λ names b g.
    no_function (function_row names old.given.program.now.functions (text names name.0))
    (signal_undefined (setting_of names old.given) (text names name.0) q.level (dynamic_context names old q.around))
    (λ rest y. ended (gives (function_value names (tables old.given.program.now) (text names name.0)) y) rest) (frames names old 0) (state names old b)
    (none names g)
    ∙ ap (λ o. literal_step (setting_of names old.given) id o (at names old q) (frames names old 0) (state names old b)) (sym e))
