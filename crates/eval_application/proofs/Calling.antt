-- Generic functions are applied.
use Rattle.std.proofs.Common.{◌≡◌, ℕ, suc, ◌+◌, ◌≤◌, List, [], ◌∷◌, length, map, take, min, Bool, true, false, Option, Some, None, ap, sym, ◌∙◌}
use Rattle.std.specs.Prelude.{slice_get, reverse, if◌then◌else◌}
use Rattle.std.proofs.lemmas.List.{take-map}
use Rattle.lang_meaning.specs.declared.program.GenericRow.{GenericRow}
use Rattle.lang_meaning.specs.Values.{Value, nil}
use Rattle.lang_meaning.specs.Objects.{Chain, program_error_class}
use Rattle.lang_meaning.specs.State.{DynamicContext, value, more}
use Rattle.lang_meaning.specs.Lookup.{text}
use Rattle.lang_meaning.specs.Classes.{chain, class_of}
use Rattle.lang_meaning.specs.Signals.{takes}
use Rattle.flat_language.specs.FlatNodes.{tables}
use Rattle.flat_language.specs.FlatState.{FlatState, gives, charged}
use Rattle.eval_machine.specs.Configuration.{Setting, ContinuationFrame, Configuration, configuration, come_to, ended, some_or, restores_stack, then_on}
use Rattle.eval_machine.specs.Applications.{requested, apply_chain, apply_generic, run_chain, signal_class, signal_undefined}
use Rattle.lang_dispatch.specs.declared.chain.Chain.{Chain as Kept}
use Rattle.lang_dispatch.specs.Chains.{seen}
use Rattle.eval_store.specs.declared.word.Word.{Word}
use Rattle.eval_store.specs.Words.{value_of_word, values_of}
use Rattle.eval_store.specs.View.{Beside, limit_of}
use Rattle.eval_state.specs.declared.situation.DynamicLinks.{DynamicLinks}
use Rattle.eval_state.specs.declared.machine.Machine.{Machine}
use Rattle.eval_state.specs.Frames.{last_of, frames_in}
use Rattle.eval_state.specs.Operands.{IsDropped}
use Rattle.eval_state.specs.Doing.{Fills}
use Rattle.eval_state.specs.View.{StepsTo, IsGiven, setting_of, top, frames, state, dynamic_context}
use Rattle.eval_application.specs.Entering.{HasStack}
use Rattle.eval_application.specs.Generics.{AreClassesOf, chain_begins}
use Rattle.eval_state.proofs.Doing.{then_dropped, then_filled}
use Rattle.eval_state.proofs.Stepping.{same_configuration}
use Rattle.eval_application.proofs.Entries.{so_many, then_stack}
use Rattle.eval_application.proofs.Judged.{held_last, held_others, held_values}

-- a chain needs a level
pub no_chain_level : (old new : Machine) (c : Chain) (n level : ℕ) (a : DynamicLinks) → level ≡ 0
    → StepsTo old new (λ names s b. configuration (come_to more) (frames names old n) (state names old b))
    → StepsTo old new (λ names s b. chain_begins s c (top names old n) level (dynamic_context names old a) (frames names old n) (state names old b))
no_chain_level old new c n level a e s =
    same_configuration old new _ _ s (λ names b g. ap (λ k. chain_begins (setting_of names old.given) c (top names old n) k (dynamic_context names old a) (frames names old n) (state names old b)) (sym e))

-- and words of the stack
pub chain_begun : (old mid dropped new : Machine) (c : Chain) (ws : List Word) (n level below : ℕ) (a : DynamicLinks) → level ≡ suc below → n ≤ length old.operands.items → ws ≡ last_of n old.operands.items
    → HasStack old mid (16 + n) n → IsDropped mid dropped n
    → StepsTo dropped new (λ names s b. run_chain s c (values_of names ws) below (dynamic_context names dropped a) (frames names dropped 0) (state names dropped b))
    → StepsTo old new (λ names s b. chain_begins s c (top names old n) level (dynamic_context names old a) (frames names old n) (state names old b))
chain_begun old mid dropped new c ws n level below a e h w st d s =
    let on : StepsTo mid new (λ names s b. run_chain s c (values_of names ws) below (dynamic_context names mid a) (frames names mid n) (state names mid b)) =
    then_dropped mid dropped new n a (λ names s around frames z. run_chain s c (values_of names ws) below around frames z) d s in
    let all : StepsTo old new (λ names s b. then_on (requested s.limit 0 (16 + n) (state names old b)) (frames names old n) (λ ignored inner.
    run_chain s c (values_of names ws) below (dynamic_context names old a) (restores_stack (state names old b).state.stack ∷ frames names old n) (charged n inner))) =
    then_stack old mid new (16 + n) n n a (λ names s vs around frames z. run_chain s c (values_of names ws) below around frames z) st on in
    same_configuration old new _ _ all (λ names b g.
    ap (λ us. then_on (requested (limit_of old.given.limit) 0 (16 + n) (state names old b)) (frames names old n) (λ ignored inner.
    run_chain (setting_of names old.given) c (values_of names us) below (dynamic_context names old a) (restores_stack (state names old b).state.stack ∷ frames names old n) (charged n inner))) w
    ∙ ap (λ m. then_on (requested (limit_of old.given.limit) 0 (16 + m) (state names old b)) (frames names old n) (λ ignored inner.
    run_chain (setting_of names old.given) c (top names old n) below (dynamic_context names old a) (restores_stack (state names old b).state.stack ∷ frames names old n) (charged m inner))) (sym (so_many names old n h))
    ∙ ap (λ k. chain_begins (setting_of names old.given) c (top names old n) k (dynamic_context names old a) (frames names old n) (state names old b)) (sym e))

pub chain_filled : (old mid new : Machine) (c : Chain) (n level below : ℕ) (a : DynamicLinks) → level ≡ suc below → n ≤ length old.operands.items
    → Fills old mid (λ names z. requested (limit_of old.given.limit) 0 (16 + n) z) → IsDropped mid new n
    → StepsTo old new (λ names s b. chain_begins s c (top names old n) level (dynamic_context names old a) (frames names old n) (state names old b))
chain_filled old mid new c n level below a e h d x =
    let all : StepsTo old new (λ names s b. then_on (requested s.limit 0 (16 + n) (state names old b)) (frames names old n) (λ ignored inner.
    run_chain s c (top names old n) below (dynamic_context names old a) (restores_stack (state names old b).state.stack ∷ frames names old n) (charged n inner))) =
    then_filled old mid new n (λ names s z. requested s.limit 0 (16 + n) z)
    (λ names s b ignored inner. run_chain s c (top names old n) below (dynamic_context names old a) (restores_stack (state names old b).state.stack ∷ frames names old n) (charged n inner)) d x in
    same_configuration old new _ _ all (λ names b g.
    ap (λ m. then_on (requested (limit_of old.given.limit) 0 (16 + m) (state names old b)) (frames names old n) (λ ignored inner.
    run_chain (setting_of names old.given) c (top names old n) below (dynamic_context names old a) (restores_stack (state names old b).state.stack ∷ frames names old n) (charged m inner))) (sym (so_many names old n h))
    ∙ ap (λ k. chain_begins (setting_of names old.given) c (top names old n) k (dynamic_context names old a) (frames names old n) (state names old b)) (sym e))

-- the classes that are looked up are those of the arguments
looked_up : (names : List (List ℕ)) (b : Beside) (m : Machine) (g : GenericRow) (n : ℕ) (cs : List ℕ) → AreClassesOf m (take g.required (last_of n m.operands.items)) cs
    → chain (tables m.given.program.now) g (map (class_of (state names m b).state) (take g.required (top names m n))) ≡ chain (tables m.given.program.now) g cs
looked_up names b m g n cs h =
    ap (chain (tables m.given.program.now) g)
    (ap (map (class_of (state names m b).state)) (take-map (value_of_word names) g.required (last_of n m.operands.items)) ∙ sym (h.seen names b))

pub dispatched : (old new : Machine) (g : GenericRow) (c : Kept) (n level : ℕ) (a : DynamicLinks) (cs : List ℕ) → AreClassesOf old (take g.required (last_of n old.operands.items)) cs
    → ((names : List (List ℕ)) → IsGiven names old.given → chain (tables old.given.program.now) g cs ≡ Some (seen c))
    → StepsTo old new (λ names s b. chain_begins s (seen c) (top names old n) level (dynamic_context names old a) (frames names old n) (state names old b))
    → StepsTo old new (λ names s b. apply_chain s g (chain (tables s.program) g (map (class_of (state names old b).state) (take g.required (top names old n)))) (top names old n) level (dynamic_context names old a) (frames names old n) (state names old b))
dispatched old new g c n level a cs h is s =
    same_configuration old new _ _ s (λ names b k.
    sym (ap (λ o. apply_chain (setting_of names old.given) g o (top names old n) level (dynamic_context names old a) (frames names old n) (state names old b)) (looked_up names b old g n cs h ∙ is names k)))

pub not_dispatched : (old dropped new : Machine) (g : GenericRow) (n level : ℕ) (a : DynamicLinks) (cs : List ℕ) → AreClassesOf old (take g.required (last_of n old.operands.items)) cs
    → ((names : List (List ℕ)) → IsGiven names old.given → chain (tables old.given.program.now) g cs ≡ None) → IsDropped old dropped n
    → StepsTo dropped new (λ names s b. signal_undefined s (text names g.name.0) level (dynamic_context names dropped a) (frames names dropped 0) (state names dropped b))
    → StepsTo old new (λ names s b. apply_chain s g (chain (tables s.program) g (map (class_of (state names old b).state) (take g.required (top names old n)))) (top names old n) level (dynamic_context names old a) (frames names old n) (state names old b))
not_dispatched old dropped new g n level a cs h is d s =
    same_configuration old new _ _ (then_dropped old dropped new n a (λ names s around frames z. signal_undefined s (text names g.name.0) level around frames z) d s) (λ names b k.
    sym (ap (λ o. apply_chain (setting_of names old.given) g o (top names old n) level (dynamic_context names old a) (frames names old n) (state names old b)) (looked_up names b old g n cs h ∙ is names k)))

-- what is applied, if there is such a generic function
abbrev pub generic_row : Setting → Option GenericRow → List Value → (level : ℕ) → DynamicContext → List ContinuationFrame → FlatState → Configuration
generic_row s o vs level around frames z =
    some_or o (λ frames z. ended (gives nil z) frames) (λ g frames z.
    if takes g.required g.rest (length vs) then
    apply_chain s g (chain (tables s.program) g (map (class_of z.state) (take g.required vs))) vs level around frames z
    else signal_class s program_error_class [] level around frames z) frames z

pub no_generic : (old new : Machine) (i n level : ℕ) (a : DynamicLinks) → slice_get old.given.program.now.generics i ≡ None
    → StepsTo old new (λ names s b. configuration (come_to (value nil)) (frames names old n) (state names old b))
    → StepsTo old new (λ names s b. apply_generic s i (top names old n) level (dynamic_context names old a) (frames names old n) (state names old b))
no_generic old new i n level a h s =
    same_configuration old new _ _ s (λ names b g.
    sym (ap (λ o. generic_row (setting_of names old.given) o (top names old n) level (dynamic_context names old a) (frames names old n) (state names old b)) h))

-- the arguments that it takes
takes_so_many : (s : Setting) (g : GenericRow) (t : Bool) (vs : List Value) (level : ℕ) (around : DynamicContext) (frames : List ContinuationFrame) (z : FlatState) → takes g.required g.rest (length vs) ≡ t
    → generic_row s (Some g) vs level around frames z
    ≡ (if t then apply_chain s g (chain (tables s.program) g (map (class_of z.state) (take g.required vs))) vs level around frames z else signal_class s program_error_class [] level around frames z)
takes_so_many s g t vs level around frames z h =
    ap (λ (k : Bool). if k then apply_chain s g (chain (tables s.program) g (map (class_of z.state) (take g.required vs))) vs level around frames z else signal_class s program_error_class [] level around frames z) h

pub generic_taken : (old new : Machine) (g : GenericRow) (i n count level : ℕ) (a : DynamicLinks) → slice_get old.given.program.now.generics i ≡ Some g → count ≡ min n (length old.operands.items)
    → takes g.required g.rest count ≡ true
    → StepsTo old new (λ names s b. apply_chain s g (chain (tables s.program) g (map (class_of (state names old b).state) (take g.required (top names old count)))) (top names old count) level (dynamic_context names old a) (frames names old count) (state names old b))
    → StepsTo old new (λ names s b. apply_generic s i (top names old n) level (dynamic_context names old a) (frames names old n) (state names old b))
generic_taken old new g i n count level a there e t s =
    same_configuration old new _ _ s (λ names b k.
    ap (λ xs. apply_chain (setting_of names old.given) g (chain (tables old.given.program.now) g (map (class_of (state names old b).state) (take g.required (values_of names xs)))) (values_of names xs) level (dynamic_context names old a) (frames names old count) (state names old b)) (held_last old.operands.items n count e)
    ∙ ap (λ xs. apply_chain (setting_of names old.given) g (chain (tables old.given.program.now) g (map (class_of (state names old b).state) (take g.required (top names old n)))) (top names old n) level (dynamic_context names old a) (frames_in names old.current xs old.slots.items (reverse old.frames.items)) (state names old b)) (held_others old.operands.items n count e)
    ∙ sym (takes_so_many (setting_of names old.given) g true (top names old n) level (dynamic_context names old a) (frames names old n) (state names old b) (ap (takes g.required g.rest) (held_values names old n count e) ∙ t))
    ∙ sym (ap (λ o. generic_row (setting_of names old.given) o (top names old n) level (dynamic_context names old a) (frames names old n) (state names old b)) there))

pub generic_not_taken : (old mid new : Machine) (g : GenericRow) (i n count level : ℕ) (a : DynamicLinks) → slice_get old.given.program.now.generics i ≡ Some g → count ≡ min n (length old.operands.items)
    → takes g.required g.rest count ≡ false → IsDropped old mid n
    → StepsTo mid new (λ names s b. signal_class s program_error_class [] level (dynamic_context names mid a) (frames names mid 0) (state names mid b))
    → StepsTo old new (λ names s b. apply_generic s i (top names old n) level (dynamic_context names old a) (frames names old n) (state names old b))
generic_not_taken old mid new g i n count level a there e t d s =
    same_configuration old new _ _ (then_dropped old mid new n a (λ names s around frames z. signal_class s program_error_class [] level around frames z) d s) (λ names b k.
    sym (takes_so_many (setting_of names old.given) g false (top names old n) level (dynamic_context names old a) (frames names old n) (state names old b) (ap (takes g.required g.rest) (held_values names old n count e) ∙ t))
    ∙ sym (ap (λ o. generic_row (setting_of names old.given) o (top names old n) level (dynamic_context names old a) (frames names old n) (state names old b)) there))
