-- Values, and the functions of names, are applied.
use Rattle.std.proofs.Common.{◌≡◌, ℕ, List, Option, Some, None, refl, ap, sym, ◌∙◌}
use Rattle.std.specs.Prelude.{option_map}
use Rattle.lang_meaning.specs.declared.program.FunctionRow.{FunctionRow}
use Rattle.lang_meaning.specs.declared.program.Callee.{Callee}
use Rattle.lang_meaning.specs.Values.{Value}
use Rattle.lang_meaning.specs.State.{DynamicContext}
use Rattle.lang_meaning.specs.Lookup.{text}
use Rattle.lang_meaning.specs.Literals.{function_row}
use Rattle.flat_language.specs.FlatState.{FlatState}
use Rattle.eval_machine.specs.Configuration.{Setting, ContinuationFrame}
use Rattle.eval_machine.specs.Applications.{apply_value, apply_callee, apply_row, signal_undefined}
use Rattle.eval_store.specs.declared.word.Word.{Word}
use Rattle.eval_store.specs.Words.{value_of_word}
use Rattle.eval_state.specs.declared.situation.DynamicLinks.{DynamicLinks}
use Rattle.eval_state.specs.declared.machine.Machine.{Machine}
use Rattle.eval_state.specs.Frames.{frame_slots}
use Rattle.eval_state.specs.Operands.{IsDropped}
use Rattle.eval_state.specs.View.{StepsTo, IsGiven, setting_of, top, frames, state, dynamic_context}
use Rattle.eval_application.specs.declared.functions.Function.{Function}
use Rattle.eval_application.specs.Functions.{IsFunctionValue, applied}
use Rattle.eval_state.proofs.Doing.{then_dropped}
use Rattle.eval_state.proofs.Stepping.{same_configuration}

-- a value is applied as the function that it is
pub value_applied : (old new : Machine) (w : Word) (f : Function) (n level : ℕ) (a : DynamicLinks) → IsFunctionValue old.store w f
    → StepsTo old new (λ names s b. applied names s f w (top names old n) level (dynamic_context names old a) (frames names old n) (state names old b))
    → StepsTo old new (λ names s b. apply_value s (value_of_word names w) (top names old n) level (dynamic_context names old a) (frames names old n) (state names old b))
value_applied old new w f n level a h s =
    same_configuration old new _ _ s (λ names b g.
    sym (h.applies names (setting_of names old.given) (record b { frame = frame_slots names old.current old.slots.items }) (top names old n) level (dynamic_context names old a) (frames names old n)))

pub found_applied : (old new : Machine) (f k : Function) (w : Word) (n level : ℕ) (a : DynamicLinks) → f ≡ k
    → StepsTo old new (λ names s b. applied names s k w (top names old n) level (dynamic_context names old a) (frames names old n) (state names old b))
    → StepsTo old new (λ names s b. applied names s f w (top names old n) level (dynamic_context names old a) (frames names old n) (state names old b))
found_applied old new f k w n level a e s =
    same_configuration old new _ _ s (λ names b g.
    ap (λ x. applied names (setting_of names old.given) x w (top names old n) level (dynamic_context names old a) (frames names old n) (state names old b)) (sym e))

pub callee_applied : (old new : Machine) (c k : Callee) (n level : ℕ) (a : DynamicLinks) → c ≡ k
    → StepsTo old new (λ names s b. apply_callee s k (top names old n) level (dynamic_context names old a) (frames names old n) (state names old b))
    → StepsTo old new (λ names s b. apply_callee s c (top names old n) level (dynamic_context names old a) (frames names old n) (state names old b))
callee_applied old new c k n level a e s =
    same_configuration old new _ _ s (λ names b g.
    ap (λ x. apply_callee (setting_of names old.given) x (top names old n) level (dynamic_context names old a) (frames names old n) (state names old b)) (sym e))

-- the row of a name
row_applied : (s : Setting) (name : List ℕ) (o : Option FunctionRow) (c : Callee) (vs : List Value) (level : ℕ) (around : DynamicContext) (frames : List ContinuationFrame) (z : FlatState) → Some c ≡ option_map (λ (f : FunctionRow). f.callee) o
    → apply_callee s c vs level around frames z ≡ apply_row s name o vs level around frames z
row_applied s name None c vs level around frames z h = absurd (cc)
row_applied s name (Some f) c vs level around frames z h =
    let e : c ≡ f.callee = cc in
    ap (λ x. apply_callee s x vs level around frames z) e

no_row_applied : (s : Setting) (name : List ℕ) (o : Option FunctionRow) (vs : List Value) (level : ℕ) (around : DynamicContext) (frames : List ContinuationFrame) (z : FlatState) → None ≡ option_map (λ (f : FunctionRow). f.callee) o
    → signal_undefined s name level around frames z ≡ apply_row s name o vs level around frames z
no_row_applied s name None vs level around frames z h = refl
no_row_applied s name (Some f) vs level around frames z h = absurd (cc)

-- the function of a name
pub name_applied : (old new : Machine) (name : ℕ) (o : Option Callee) (c : Callee) (n level : ℕ) (a : DynamicLinks)
    → ((names : List (List ℕ)) → IsGiven names old.given → o ≡ option_map (λ (f : FunctionRow). f.callee) (function_row names old.given.program.now.functions (text names name))) → o ≡ Some c
    → StepsTo old new (λ names s b. apply_callee s c (top names old n) level (dynamic_context names old a) (frames names old n) (state names old b))
    → StepsTo old new (λ names s b. apply_row s (text names name) (function_row names s.program.functions (text names name)) (top names old n) level (dynamic_context names old a) (frames names old n) (state names old b))
name_applied old new name o c n level a h e s =
    same_configuration old new _ _ s (λ names b g.
    row_applied (setting_of names old.given) (text names name) (function_row names old.given.program.now.functions (text names name)) c (top names old n) level (dynamic_context names old a) (frames names old n) (state names old b) (sym e ∙ h names g))

pub no_name_applied : (old mid new : Machine) (name : ℕ) (o : Option Callee) (n level : ℕ) (a : DynamicLinks)
    → ((names : List (List ℕ)) → IsGiven names old.given → o ≡ option_map (λ (f : FunctionRow). f.callee) (function_row names old.given.program.now.functions (text names name))) → o ≡ None → IsDropped old mid n
    → StepsTo mid new (λ names s b. signal_undefined s (text names name) level (dynamic_context names mid a) (frames names mid 0) (state names mid b))
    → StepsTo old new (λ names s b. apply_row s (text names name) (function_row names s.program.functions (text names name)) (top names old n) level (dynamic_context names old a) (frames names old n) (state names old b))
no_name_applied old mid new name o n level a h e d s =
    same_configuration old new _ _ (then_dropped old mid new n a (λ names s around frames z. signal_undefined s (text names name) level around frames z) d s) (λ names b g.
    no_row_applied (setting_of names old.given) (text names name) (function_row names old.given.program.now.functions (text names name)) (top names old n) level (dynamic_context names old a) (frames names old n) (state names old b) (sym e ∙ h names g))
