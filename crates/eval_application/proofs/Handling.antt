-- Conditions are signalled.
use Rattle.std.proofs.Common.{◌≡◌, ℕ, suc, ◌<◌, List, [], ◌∷◌, ◌++◌, length, true, false, Option, Some, None, refl, ap, sym, ◌∙◌, arith}
use Rattle.std.specs.Prelude.{reverse, if◌then◌else◌}
use Rattle.lang_meaning.specs.Values.{Value, integer, character, symbol, nil, object}
use Rattle.lang_meaning.specs.Objects.{Object, cons, string, vector, instance, function, closure, generic_function, class_object, input_stream, output_stream, fresh_symbol, serious_condition_class, function_class}
use Rattle.lang_meaning.specs.State.{State, DynamicContext, signal_exit, at_site}
use Rattle.lang_meaning.specs.State as base
use Rattle.lang_meaning.specs.Signals.{marked_at}
use Rattle.lang_meaning.specs.Signals as meaning
use Rattle.lang_meaning.specs.Classes.{fetch, is_condition}
use Rattle.lang_meaning.specs.Primitives.{is_function}
use Rattle.flat_language.specs.FlatForm.{FlatForm}
use Rattle.flat_language.specs.FlatNodes.{tables}
use Rattle.flat_language.specs.FlatState.{FlatState, charged, exit_made}
use Rattle.flat_language.specs.FlatSignals.{marked}
use Rattle.eval_machine.specs.Configuration.{Configuration, configuration, evaluate, signals, come_to, awaits, catches, unbinds, handler_return}
use Rattle.eval_machine.specs.Applications.{apply_value, signal_under, signal_domain}
use Rattle.eval_machine.specs.Step.{signal_step, handler_step}
use Rattle.eval_store.specs.declared.word.Word.{Word}
use Rattle.eval_store.specs.Words.{value_of_word}
use Rattle.eval_store.specs.View.{Beside}
use Rattle.eval_state.specs.declared.frame.ContinuationFrame.{ContinuationFrame as Kept}
use Rattle.eval_state.specs.declared.frame.ContinuationFrame.TheVariants as frame
use Rattle.eval_state.specs.declared.situation.DynamicLinks.{DynamicLinks}
use Rattle.eval_state.specs.declared.situation.Situation.{Situation}
use Rattle.eval_state.specs.declared.situation.Activation.{Activation}
use Rattle.eval_state.specs.declared.machine.Machine.{Machine}
use Rattle.eval_state.specs.Chains.{chained}
use Rattle.eval_state.specs.Frames.{others_of, around_in, own_in, environment_in, situation_in, frames_in, own_link, exit_link, handler_link, binding_link}
use Rattle.eval_state.specs.Tops.{IsAbove, taken, below}
use Rattle.eval_state.specs.declared.machine.Control.TheVariants.{Signals}
use Rattle.eval_state.specs.Operands.{IsPushed}
use Rattle.eval_state.specs.View.{StepsTo, IsGiven, IsCharged, setting_of, configuration_of, at, top, frames, state, dynamic_context}
use Rattle.eval_application.specs.declared.signalling.Handler.{Handler}
use Rattle.eval_application.specs.Methods.{ArePushed}
use Rattle.eval_application.specs.Signalling.{IsSignalled, IsHandled, IsUnhandled, around_handler, handled_by}
use Rattle.std.proofs.lemmas.List.{length-append, length-reverse}
use Rattle.eval_state.proofs.Going.{after_store, after_push}
use Rattle.eval_state.proofs.Linking.{over}
use Rattle.eval_state.proofs.Pushes.{passed_over, others_none}
use Rattle.eval_state.proofs.Stepping.{same_configuration}
use Rattle.eval_application.proofs.Above.{then_above, then_arguments}
use Rattle.eval_application.proofs.Situations.{level_at, around_at}

-- a mark makes no exit
unmarked_exits : (c mark : Value) (o : Option Object) (z : State) → meaning.marked_at c mark o (base.exit_made z) ≡ base.exit_made (meaning.marked_at c mark o z)
unmarked_exits (object i) mark (Some (instance class slots old)) z = refl
unmarked_exits (object i) mark (Some (cons a d)) z = refl
unmarked_exits (object i) mark (Some (string bytes)) z = refl
unmarked_exits (object i) mark (Some (vector vs)) z = refl
unmarked_exits (object i) mark (Some (function p)) z = refl
unmarked_exits (object i) mark (Some (closure required rest body env)) z = refl
unmarked_exits (object i) mark (Some (generic_function g)) z = refl
unmarked_exits (object i) mark (Some (class_object k)) z = refl
unmarked_exits (object i) mark (Some input_stream) z = refl
unmarked_exits (object i) mark (Some output_stream) z = refl
unmarked_exits (object i) mark (Some (fresh_symbol s)) z = refl
unmarked_exits (object i) mark None z = refl
unmarked_exits (integer n) mark o z = refl
unmarked_exits (character n) mark o z = refl
unmarked_exits (symbol s) mark o z = refl
unmarked_exits nil mark o z = refl

-- an exit is made, and then a condition has its mark
mark_commutes : (c mark : Value) (z : FlatState) → marked c mark (exit_made z) ≡ exit_made (marked c mark z)
mark_commutes c mark z = ap (λ (y : State). record z { state = y }) (fetched c mark z.state ∙ unmarked_exits c mark (fetch z.state c) z.state)
  where
    fetched : (c mark : Value) (y : State) → meaning.marked c mark (base.exit_made y) ≡ marked_at c mark (fetch y c) (base.exit_made y)
    fetched (object i) mark y = refl
    fetched (integer n) mark y = refl
    fetched (character n) mark y = refl
    fetched (symbol s) mark y = refl
    fetched nil mark y = refl

pub signalled : (old mid new : Machine) (c mark : Word) (number : ℕ) → mid ≡ record old { store = mid.store } → ((names : List (List ℕ)) (b : Beside) → number ≡ (state names old b).state.exits)
    → ((names : List (List ℕ)) (b : Beside) → state names mid b ≡ exit_made (state names old b)) → new ≡ record mid { store = new.store }
    → ((names : List (List ℕ)) (b : Beside) → state names new b ≡ marked (value_of_word names c) (value_of_word names mark) (state names mid b)) → IsSignalled old new c mark number
signalled old mid new c mark number same is made_is after marked_is = record {
  same = after ∙ ap (λ (m : Machine). record m { store = new.store }) same;
  number_is = is;
  state_is = λ names b. marked_is names b ∙ ap (marked (value_of_word names c) (value_of_word names mark)) (made_is names b) ∙ mark_commutes (value_of_word names c) (value_of_word names mark) (state names old b);
}

-- what surrounds a handler
signal_around : (names : List (List ℕ)) (ws : List Kept) (a : DynamicLinks) (n : ℕ) (c mark : Word) (link outside : ℕ) → link ≡ suc (length ws)
    → around_in names (frame.Signal n c mark a.exits ∷ ws) (record a { exits = link; handlers = outside })
    ≡ record (around_in names ws a) {
      exits = record { number = n; kind = signal_exit (value_of_word names c) (value_of_word names mark) } ∷ (around_in names ws a).exits;
      handlers = chained (handler_link names) ws outside;
    }
unfolding around_in
signal_around names ws a n c mark link outside e =
    let below : length ws < link = omega arith in
    rw (passed_over (binding_link names) (frame.Signal n c mark a.exits) ws a.bindings refl, passed_over (handler_link names) (frame.Signal n c mark a.exits) ws outside refl, over (exit_link names) (frame.Signal n c mark a.exits) ws link below) refl

-- the parts of a dynamic context
handlers_in : (names : List (List ℕ)) (m : Machine) (a : DynamicLinks) → (dynamic_context names m a).handlers ≡ chained (handler_link names) (reverse m.frames.items) a.handlers
unfolding around_in
handlers_in names m a = refl

site_in : (names : List (List ℕ)) (m : Machine) (a : DynamicLinks) → a.site ≡ (dynamic_context names m a).site
unfolding around_in
site_in names m a = refl

-- a frame on top of a machine
top_is : (names : List (List ℕ)) (m : Machine) (w : Kept) → frames_in names m.current m.operands.items m.slots.items (w ∷ reverse m.frames.items) ≡ taken names m w ∷ below names m w
unfolding frames_in
top_is names m w = refl

-- the link to a frame that was pushed
pub link_above : (old above : Machine) (w : Kept) → IsAbove old above w → length above.frames.items ≡ suc (length old.frames.items)
link_above old above w i = let e : length above.frames.items ≡ length (old.frames.items ++ w ∷ []) = ap (λ (ws : List Kept). length ws) i.frames in omega (arith, e, length-append old.frames.items (w ∷ []))

-- a handler is applied above the frame of its signal
pub handled : (old above returning pushed new : Machine) (w : Kept) (h : Handler) (c : Word) (within : DynamicLinks) (level : ℕ) (a : DynamicLinks) → within ≡ around_handler old h a
    → IsAbove old above w → IsAbove above returning (frame.HandlerReturn level within) → IsPushed returning pushed c
    → StepsTo pushed new (λ names s b. apply_value s (value_of_word names h.word) (top names pushed 1) level (dynamic_context names pushed within) (frames names pushed 1) (state names pushed b))
    → StepsTo old new (λ names s b. handled_by names old w h c level a s (state names old b))
handled old above returning pushed new w h c within level a e i j p x =
    let one : ArePushed returning pushed (c ∷ []) = record { operands = p.operands; same = p.same } in
    let given : StepsTo returning new (λ names s b. apply_value s (value_of_word names h.word) (value_of_word names c ∷ []) level (dynamic_context names returning within) (frames names returning 0) (state names returning b)) =
    then_arguments returning pushed new (c ∷ []) 1 within (λ names s vs around fs z. apply_value s (value_of_word names h.word) vs level around fs z) one refl x in
    let inner : StepsTo above new (λ names s b. apply_value s (value_of_word names h.word) (value_of_word names c ∷ []) level (dynamic_context names above within)
    (awaits (handler_return level (dynamic_context names above within)) ∷ frames names above 0) (state names above b)) =
    then_above above returning new (frame.HandlerReturn level within) 0 within (λ names s vs around fs z. apply_value s (value_of_word names h.word) (value_of_word names c ∷ []) level around fs z) j refl given in
    same_configuration old new _ _
    (after_push old above new w
    (λ m names s ws z. apply_value s (value_of_word names h.word) (value_of_word names c ∷ []) level (around_in names ws within)
    (awaits (handler_return level (around_in names ws within)) ∷ frames_in names m.current (others_of 0 m.operands.items) m.slots.items ws) z) i inner)
    (λ names b g.
    ap (λ q. apply_value (setting_of names old.given) (value_of_word names h.word) (value_of_word names c ∷ []) level (around_in names (w ∷ reverse old.frames.items) q)
    (awaits (handler_return level (around_in names (w ∷ reverse old.frames.items) q)) ∷ frames_in names old.current (others_of 0 old.operands.items) old.slots.items (w ∷ reverse old.frames.items)) (state names old b)) e
    ∙ ap (λ fs. apply_value (setting_of names old.given) (value_of_word names h.word) (value_of_word names c ∷ []) level (around_in names (w ∷ reverse old.frames.items) (around_handler old h a))
    (awaits (handler_return level (around_in names (w ∷ reverse old.frames.items) (around_handler old h a))) ∷ fs) (state names old b))
    (ap (λ os. frames_in names old.current os old.slots.items (w ∷ reverse old.frames.items)) (others_none old.operands.items) ∙ top_is names old w))

-- the innermost handler is applied
pub signal_handled : (old mid counted new : Machine) (c mark : Word) (h : Handler) (number level : ℕ) (a : DynamicLinks) → IsHandled old a.handlers h → IsSignalled old mid c mark number → IsCharged mid counted 1
    → StepsTo counted new (λ names s b. handled_by names counted (frame.Signal number c mark a.exits) h c level a s (state names counted b))
    → StepsTo old new (λ names s b. signal_under s (dynamic_context names old a).handlers (value_of_word names c) (value_of_word names mark) level (dynamic_context names old a) (frames names old 0) (state names old b))
signal_handled old mid counted new c mark h number level a there i k x =
    let same : counted ≡ record old { store = counted.store } = k.same ∙ ap (λ (m : Machine). record m { store = counted.store }) i.same in
    let is : (names : List (List ℕ)) (b : Beside) → state names counted b ≡ charged 1 (exit_made (marked (value_of_word names c) (value_of_word names mark) (state names old b))) =
    λ names b. k.state_is names b ∙ ap (charged 1) (i.state_is names b) in
    same_configuration old new _ _
    (after_store old counted new (λ m names s z. handled_by names m (frame.Signal number c mark a.exits) h c level a s z)
    (λ names z. charged 1 (exit_made (marked (value_of_word names c) (value_of_word names mark) z))) same is x)
    (λ names b g.
    let z : FlatState = state names old b in
    let around : DynamicContext = dynamic_context names old a in
    let outside : List Value = chained (handler_link names) (reverse old.frames.items) h.outside in
    let on : DynamicContext → ℕ → Configuration = λ within e.
    apply_value (setting_of names old.given) (value_of_word names h.word) (value_of_word names c ∷ []) level within (awaits (handler_return level within) ∷ catches e ∷ frames names old 0)
    (charged 1 (exit_made (marked (value_of_word names c) (value_of_word names mark) z))) in
    ap (λ within. on within number) (signal_around names (reverse old.frames.items) a number c mark (suc (length old.frames.items)) h.outside (ap suc (sym (length-reverse old.frames.items))))
    ∙ ap (λ (e : ℕ). on (record around { exits = record { number = e; kind = signal_exit (value_of_word names c) (value_of_word names mark) } ∷ around.exits; handlers = outside }) e) (i.number_is names b)
    ∙ sym (ap (λ hs. signal_under (setting_of names old.given) hs (value_of_word names c) (value_of_word names mark) level around (frames names old 0) z) (handlers_in names old a ∙ there.handlers names)))

-- without a handler the program ends
pub signal_unhandled : (old mid new : Machine) (c mark : Word) (number level : ℕ) (a : DynamicLinks) → IsUnhandled old a.handlers → IsSignalled old mid c mark number
    → StepsTo mid new (λ names s b. configuration (come_to (base.exit 0 (value_of_word names c) (at_site a.site))) (frames names mid 0) (state names mid b))
    → StepsTo old new (λ names s b. signal_under s (dynamic_context names old a).handlers (value_of_word names c) (value_of_word names mark) level (dynamic_context names old a) (frames names old 0) (state names old b))
signal_unhandled old mid new c mark number level a there i x =
    same_configuration old new _ _
    (after_store old mid new (λ m names s z. configuration (come_to (base.exit 0 (value_of_word names c) (at_site a.site))) (frames names m 0) z)
    (λ names z. exit_made (marked (value_of_word names c) (value_of_word names mark) z)) i.same i.state_is x)
    (λ names b g.
    let z : FlatState = state names old b in
    ap (λ p. configuration (come_to (base.exit 0 (value_of_word names c) (at_site p))) (frames names old 0) (exit_made (marked (value_of_word names c) (value_of_word names mark) z))) (site_in names old a)
    ∙ sym (ap (λ hs. signal_under (setting_of names old.given) hs (value_of_word names c) (value_of_word names mark) level (dynamic_context names old a) (frames names old 0) z) (handlers_in names old a ∙ there.handlers names)))

-- a condition is signalled next
pub signals_next : (old new : Machine) (c mark : Word) (level : ℕ) (a : DynamicLinks) → new ≡ record old { control = Signals c mark level a }
    → StepsTo old new (λ names s b. configuration (signals (value_of_word names c) (value_of_word names mark) level (dynamic_context names old a)) (frames names old 0) (state names old b))
signals_next old new c mark level a e = record {
  given = ap (λ (m : Machine). m.given) e;
  comes = λ names b g. ap (λ (m : Machine). configuration_of names m b) e;
}

pub condition_signals : (old new : Machine) (c mark : Word) (t : Situation)
    → ((names : List (List ℕ)) (b : Beside) → IsGiven names old.given → is_condition (tables old.given.program.now) (state names old b).state (value_of_word names c) ≡ true)
    → StepsTo old new (λ names s b. configuration (signals (value_of_word names c) (value_of_word names mark) t.level (dynamic_context names old t.around)) (frames names old 0) (state names old b))
    → StepsTo old new (λ names s b. signal_step s (value_of_word names c) (value_of_word names mark) (at names old t) (frames names old 0) (state names old b))
condition_signals old new c mark t h s =
    same_configuration old new _ _ s (λ names b g.
    ap (λ k. configuration (signals (value_of_word names c) (value_of_word names mark) k (dynamic_context names old t.around)) (frames names old 0) (state names old b)) (level_at names old t)
    ∙ ap (λ k. configuration (signals (value_of_word names c) (value_of_word names mark) (at names old t).level k) (frames names old 0) (state names old b)) (around_at names old t)
    ∙ sym (ap (λ k. if k then configuration (signals (value_of_word names c) (value_of_word names mark) (at names old t).level (at names old t).around) (frames names old 0) (state names old b)
    else signal_domain (setting_of names old.given) (value_of_word names c) serious_condition_class (at names old t).level (at names old t).around (frames names old 0) (state names old b)) (h names b g)))

pub no_condition_signals : (old new : Machine) (c mark : Word) (t : Situation)
    → ((names : List (List ℕ)) (b : Beside) → IsGiven names old.given → is_condition (tables old.given.program.now) (state names old b).state (value_of_word names c) ≡ false)
    → StepsTo old new (λ names s b. signal_domain s (value_of_word names c) serious_condition_class t.level (dynamic_context names old t.around) (frames names old 0) (state names old b))
    → StepsTo old new (λ names s b. signal_step s (value_of_word names c) (value_of_word names mark) (at names old t) (frames names old 0) (state names old b))
no_condition_signals old new c mark t h s =
    same_configuration old new _ _ s (λ names b g.
    ap (λ k. signal_domain (setting_of names old.given) (value_of_word names c) serious_condition_class k (dynamic_context names old t.around) (frames names old 0) (state names old b)) (level_at names old t)
    ∙ ap (λ k. signal_domain (setting_of names old.given) (value_of_word names c) serious_condition_class (at names old t).level k (frames names old 0) (state names old b)) (around_at names old t)
    ∙ sym (ap (λ k. if k then configuration (signals (value_of_word names c) (value_of_word names mark) (at names old t).level (at names old t).around) (frames names old 0) (state names old b)
    else signal_domain (setting_of names old.given) (value_of_word names c) serious_condition_class (at names old t).level (at names old t).around (frames names old 0) (state names old b)) (h names b g)))

-- the situation under a handler
handler_inside : (names : List (List ℕ)) (a : Activation) (ws : List Kept) (t : Situation) (w : Word) (link : ℕ) → link ≡ suc (length ws)
    → situation_in names a (frame.Handles w t.around.handlers ∷ ws) (record t { around = record t.around { handlers = link } })
    ≡ record (situation_in names a ws t) { around = record (situation_in names a ws t).around { handlers = value_of_word names w ∷ (situation_in names a ws t).around.handlers } }
unfolding situation_in environment_in around_in own_in
handler_inside names a ws t w link e =
    let below : length ws < link = omega arith in
    rw (passed_over (binding_link names) (frame.Handles w t.around.handlers) ws t.around.bindings refl, over (handler_link names) (frame.Handles w t.around.handlers) ws link below, passed_over (exit_link names) (frame.Handles w t.around.handlers) ws t.around.exits refl, passed_over own_link (frame.Handles w t.around.handlers) ws t.own refl) refl

pub handler_begins : (old new : Machine) (w : Word) (body : FlatForm) (t inside : Situation) (link : ℕ) → ((names : List (List ℕ)) (b : Beside) → is_function (fetch (state names old b).state (value_of_word names w)) ≡ true)
    → link ≡ suc (length old.frames.items) → inside ≡ record t { around = record t.around { handlers = link } }
    → StepsTo old new (λ names s b. configuration (evaluate body (situation_in names old.current (frame.Handles w t.around.handlers ∷ reverse old.frames.items) inside))
    (taken names old (frame.Handles w t.around.handlers) ∷ below names old (frame.Handles w t.around.handlers)) (state names old b))
    → StepsTo old new (λ names s b. handler_step s (value_of_word names w) body (at names old t) (frames names old 0) (state names old b))
handler_begins old new w body t inside link h l i s =
    same_configuration old new _ _ s (λ names b g.
    ap (λ q. configuration (evaluate body (situation_in names old.current (frame.Handles w t.around.handlers ∷ reverse old.frames.items) q)) (unbinds ∷ frames names old 0) (state names old b)) i
    ∙ ap (λ q. configuration (evaluate body q) (unbinds ∷ frames names old 0) (state names old b)) (handler_inside names old.current (reverse old.frames.items) t w link (l ∙ ap suc (sym (length-reverse old.frames.items))))
    ∙ sym (ap (λ k. if k then configuration (evaluate body (record (at names old t) { around = record (at names old t).around { handlers = value_of_word names w ∷ (at names old t).around.handlers } })) (unbinds ∷ frames names old 0) (state names old b)
    else signal_domain (setting_of names old.given) (value_of_word names w) function_class (at names old t).level (at names old t).around (frames names old 0) (state names old b)) (h names b)))

pub no_handler_begins : (old new : Machine) (w : Word) (body : FlatForm) (t : Situation) → ((names : List (List ℕ)) (b : Beside) → is_function (fetch (state names old b).state (value_of_word names w)) ≡ false)
    → StepsTo old new (λ names s b. signal_domain s (value_of_word names w) function_class t.level (dynamic_context names old t.around) (frames names old 0) (state names old b))
    → StepsTo old new (λ names s b. handler_step s (value_of_word names w) body (at names old t) (frames names old 0) (state names old b))
no_handler_begins old new w body t h s =
    same_configuration old new _ _ s (λ names b g.
    ap (λ k. signal_domain (setting_of names old.given) (value_of_word names w) function_class k (dynamic_context names old t.around) (frames names old 0) (state names old b)) (level_at names old t)
    ∙ ap (λ k. signal_domain (setting_of names old.given) (value_of_word names w) function_class (at names old t).level k (frames names old 0) (state names old b)) (around_at names old t)
    ∙ sym (ap (λ k. if k then configuration (evaluate body (record (at names old t) { around = record (at names old t).around { handlers = value_of_word names w ∷ (at names old t).around.handlers } })) (unbinds ∷ frames names old 0) (state names old b)
    else signal_domain (setting_of names old.given) (value_of_word names w) function_class (at names old t).level (at names old t).around (frames names old 0) (state names old b)) (h names b)))
