-- Applications, signals and transfers of flat programs: those of the meaning, but that a function is applied by the number
-- of its procedure with what it captured.
use Rattle.std.specs.Prelude.{ℕ, ◌+◌, ◌==◌, Bool, true, false, List, [], ◌∷◌, ◌++◌, length, map, take, drop, Option, Some, None, slice_get, is_some, if◌then◌else◌}
use Rattle.lang_meaning.specs.declared.program.GenericRow.{GenericRow}
use Rattle.lang_meaning.specs.declared.program.FunctionRow.{FunctionRow}
use Rattle.lang_meaning.specs.declared.program.Callee.{Callee}
use Rattle.lang_meaning.specs.declared.program.Callee.TheVariants as callee
use Rattle.lang_meaning.specs.Counts.{application_words}
use Rattle.lang_meaning.specs.Values.{Value, named, symbol, nil}
use Rattle.lang_meaning.specs.Objects.{Chain, Called, Object, cons, instance, function, generic_function, fresh_symbol, function_class, control_error_class, program_error_class, domain_error_class, unbound_variable_class, undefined_function_class}
use Rattle.lang_meaning.specs.State.{State, DynamicContext, Exit, ExitKind, signal_exit, Landing, at_segment, at_site, Limit}
use Rattle.lang_meaning.specs.State as base
use Rattle.lang_meaning.specs.Lookup.{text}
use Rattle.lang_meaning.specs.Classes.{class_of, fetch, chain}
use Rattle.lang_meaning.specs.InitialHeap.{class_value}
use Rattle.lang_meaning.specs.Primitives.{Answer, result, makes, makes_symbol, fails, domain_error, instance_words}
use Rattle.lang_meaning.specs.Signals as signals
use Rattle.lang_meaning.specs.Signals.{takes, is_catch, is_signal, is_continuable}
use Rattle.flat_language.specs.declared.place.Home.{Home}
use Rattle.flat_language.specs.declared.place.Home.TheVariants.{Slot, Boxed}
use Rattle.flat_language.specs.FlatForm.{FlatForm, FlatForms}
use Rattle.flat_language.specs.declared.program.FlatProcedure.{FlatProcedure}
use Rattle.flat_language.specs.declared.program.FlatProgram.{FlatProgram}
use Rattle.flat_language.specs.FlatNodes.{tables, homes, nodes}
use Rattle.flat_language.specs.FlatState.{Captured, FlatEnvironment, no_environment, FlatState, FlatEvaluated, FlatAct, on_state, captured_by, gives, leaves, go_on, caught, charged, exit_made, request, make, in_frame, with_slots, in_own_frame}

-- what is evaluated one level below: nothing, to see that there is a level; a form; the segments of
-- a tagbody from one of them on, with its exit and all its segments; the methods of a chain
pub data FlatTask : Type 0 where
  nothing : FlatTask
  form : FlatForm → FlatTask
  turn : (exit : ℕ) → FlatForms → FlatForms → FlatTask
  methods : Chain → List Value → FlatTask

-- an evaluation from an environment, a dynamic context and a state
abbrev pub FlatEvaluation : Type 0
FlatEvaluation = FlatEnvironment → FlatAct

-- what a meaning depends on: the texts of names, the program, the words there are, and the meaning one level below
pub record FlatContext : Type 0 where
  pub names : List (List ℕ)
  pub program : FlatProgram
  pub limit : Limit
  pub below : FlatTask → FlatEvaluation

-- how a condition of a class is signalled, with its slots
abbrev pub FlatSignals : Type 0
FlatSignals = ℕ → List Value → FlatAct

-- what stands there, if something does
abbrev pub with_some : {X : Type 0} → Option X → FlatAct → (X → FlatAct) → FlatAct
with_some None otherwise next = otherwise
with_some (Some x) otherwise next = next x

-- what needs a level: More where there is none
abbrev pub descend : (below : FlatTask → FlatEvaluation) → (FlatState → FlatEvaluated) → FlatAct
descend below next around z = go_on (below nothing no_environment around z) (λ v after. next after)

-- a list of values is made, one cons after another
abbrev pub make_list : Limit → List Value → FlatState → (Value → FlatState → FlatEvaluated) → FlatEvaluated
make_list limit [] z next = next nil z
make_list limit (v ∷ vs) z next =
    make_list limit vs z (λ tail after. make limit 2 0 (cons v tail) after next)

-- the arguments as the variables' values: those after the required ones are one list
abbrev pub gathered : Limit → ℕ → (rest : Bool) → List Value → FlatState → (List Value → FlatState → FlatEvaluated) → FlatEvaluated
gathered limit required false vs z next = next vs z
gathered limit required true vs z next =
    make_list limit (drop required vs) z (λ tail after. next (take required vs ++ tail ∷ []) after)

-- a word for each box
abbrev pub with_boxes : Limit → List Home → FlatState → (FlatState → FlatEvaluated) → FlatEvaluated
with_boxes limit [] z next = next z
with_boxes limit (Slot ∷ hs) z next = with_boxes limit hs z next
with_boxes limit (Boxed ∷ hs) z next = request limit 1 0 z (λ entered. with_boxes limit hs (charged 1 entered) next)

-- the words of the arguments and the chain of a method, where a function in it captures them
abbrev pub with_record : Limit → Option Called → Bool → FlatState → (FlatState → FlatEvaluated) → FlatEvaluated
with_record limit None keeps z next = next z
with_record limit (Some called) keeps z next =
    if keeps then
    request limit (2 + length called.arguments) 0 z (λ entered. next (charged (2 + length called.arguments) entered))
    else next z

-- a fresh exit, innermost
abbrev pub inside : ExitKind → DynamicContext → FlatState → DynamicContext
inside kind around z = base.inside kind around z.state

-- the mark of a condition is set
abbrev pub marked : Value → Value → FlatState → FlatState
marked c mark z = on_state (λ y. signals.marked c mark y) z

-- a search from the first one on, which counts each one that it passes
abbrev pub search : {X : Type 0} → (X → Bool) → (X → FlatState → FlatEvaluated) → (FlatState → FlatEvaluated) → List X → FlatState → FlatEvaluated
search p found otherwise [] z = otherwise z
search p found otherwise (x ∷ xs) z =
    if p x then found x (charged 1 z) else search p found otherwise xs (charged 1 z)

-- the name slot of an undefined function, and of an unbound variable
abbrev pub undefined_function : FlatSignals → List ℕ → FlatAct
undefined_function wrong name = wrong undefined_function_class (symbol (named name) ∷ [])

abbrev pub unbound_variable : FlatSignals → List ℕ → FlatAct
unbound_variable wrong name = wrong unbound_variable_class (symbol (named name) ∷ [])

-- applications, signals and transfers, in a context
module _ (context : FlatContext) where
  -- an object that is not of the expected class: a condition with both (ISO/IEC 13816:2007, 29.3)
  abbrev pub signal_domain_error : FlatSignals → Value → (expected : ℕ) → FlatAct
  signal_domain_error wrong v expected =
      wrong domain_error_class (v ∷ class_value context.names (tables context.program) expected ∷ [])

  -- the application of a procedure with what its function captured and what its method is called with; the number of
  -- arguments is judged first, and then each request comes one by one. The body runs in a frame of its own, which has the slots
  -- of the arguments. `wrong` signals what goes wrong in the application itself: inside a handler, under the handlers outside.
  abbrev pub enter : FlatSignals → FlatProcedure → List Captured → Option Called → List Value → FlatAct
  enter wrong p captured called vs around z =
      if takes (length p.required) (is_some p.rest) (length vs) then
      in_frame context.limit (application_words (nodes p.body) + length vs)
      (λ entered. gathered context.limit (length p.required) (is_some p.rest) vs (charged (length vs) entered) (λ ws gone.
      with_record context.limit called p.keeps_method gone (λ recorded.
      with_boxes context.limit (homes p) recorded (λ ready.
      in_own_frame (λ inner.
      context.below (form p.body) (record no_environment { captured = captured; method = called }) around (with_slots (homes p) ws inner))
      ready))))
      z
      else wrong program_error_class [] around z

  -- the application of a procedure by its number: a level is needed before all else. It captured nothing.
  abbrev pub apply_procedure : FlatSignals → ℕ → Option Called → List Value → FlatAct
  apply_procedure wrong i called vs around z =
      descend context.below (λ entered.
      with_some (slice_get context.program.procedures i) (λ a y. gives nil y) (λ p. enter wrong p [] called vs) around entered)
      around z

  -- the application of a function that a form made, with what it captured
  abbrev pub apply_function : FlatSignals → ℕ → List Captured → List Value → FlatAct
  apply_function wrong i captured vs around z =
      descend context.below (λ entered.
      with_some (slice_get context.program.lambdas i) (λ a y. gives nil y) (λ p. enter wrong p captured None vs) around entered)
      around z

  -- a method, with the arguments and the rest of the chain
  abbrev pub apply_method : FlatSignals → ℕ → Called → FlatAct
  apply_method wrong i called =
      apply_procedure wrong i (Some called) called.arguments

  -- methods one after another, for what they do
  abbrev pub apply_each : FlatSignals → List ℕ → List Value → FlatAct
  apply_each wrong [] vs around z = gives nil z
  apply_each wrong (m ∷ ms) vs around z =
      go_on (apply_procedure wrong m None vs around z) (λ v after. apply_each wrong ms vs around after)

  -- the methods of a chain (ISO/IEC 13816:2007, 15.3.4): the first around method; else all before methods, the
  -- first primary method and all after methods. Without any there is no next method.
  abbrev pub run_primary : FlatSignals → Chain → List ℕ → List Value → FlatAct
  run_primary wrong c [] vs around z = wrong control_error_class [] around z
  run_primary wrong c (p ∷ ps) vs around z =
      go_on (apply_each wrong c.before vs around z) (λ ignored before.
      go_on (apply_method wrong p (record { arguments = vs; rest = record { around = []; before = []; primary = ps; after = [] } }) around before) (λ v primary.
      go_on (apply_each wrong c.after vs around primary) (λ ignored after.
      gives v after)))

  abbrev pub run_around : FlatSignals → Chain → List ℕ → List Value → FlatAct
  run_around wrong c [] vs around z = run_primary wrong c c.primary vs around z
  run_around wrong c (m ∷ ms) vs around z =
      apply_method wrong m (record { arguments = vs; rest = record c { around = ms } }) around z

  abbrev pub run_chain : FlatSignals → Chain → List Value → FlatAct
  run_chain wrong c vs around z = run_around wrong c c.around vs around z

  -- the application of a generic function: a wrong number of arguments, or no chain, is no application
  abbrev pub apply_chain : FlatSignals → GenericRow → Option Chain → List Value → FlatAct
  apply_chain wrong g None vs around z = undefined_function wrong (text context.names g.name.0) around z
  apply_chain wrong g (Some c) vs around z =
      descend context.below (λ entered.
      in_frame context.limit (16 + length vs)
      (λ inner. context.below (methods c vs) no_environment around (charged (length vs) inner)) entered)
      around z

  abbrev pub apply_generic_row : FlatSignals → Option GenericRow → List Value → FlatAct
  apply_generic_row wrong None vs around z = gives nil z
  apply_generic_row wrong (Some g) vs around z =
      if takes g.required g.rest (length vs) then
      apply_chain wrong g (chain (tables context.program) g (map (class_of z.state) (take g.required vs))) vs around z
      else wrong program_error_class [] around z

  abbrev pub apply_generic : FlatSignals → ℕ → List Value → FlatAct
  apply_generic wrong i vs around z = apply_generic_row wrong (slice_get context.program.generics i) vs around z

  -- the application of a value, which is to be a function
  abbrev pub apply_object : FlatSignals → Option Object → Option (List Captured) → Value → List Value → FlatAct
  apply_object wrong (Some (function p)) None f vs = apply_procedure wrong p None vs
  apply_object wrong (Some (function p)) (Some captured) f vs = apply_function wrong p captured vs
  apply_object wrong (Some (generic_function g)) captured f vs = apply_generic wrong g vs
  apply_object wrong o captured f vs = signal_domain_error wrong f function_class

  abbrev pub apply_value : FlatSignals → Value → List Value → FlatAct
  apply_value wrong f vs around z = apply_object wrong (fetch z.state f) (captured_by f z) f vs around z

  abbrev pub apply_callee : FlatSignals → Callee → List Value → FlatAct
  apply_callee wrong (callee.Procedure p) vs = apply_procedure wrong p None vs
  apply_callee wrong (callee.Generic g) vs = apply_generic wrong g vs

  -- the application of the function of a name
  abbrev pub apply_row : FlatSignals → List ℕ → Option FunctionRow → List Value → FlatAct
  apply_row wrong name None vs = undefined_function wrong name
  apply_row wrong name (Some f) vs = apply_callee wrong f.callee vs

  -- a new condition of a class, with its slots
  abbrev pub new_condition : ℕ → List Value → FlatState → (Value → FlatState → FlatEvaluated) → FlatEvaluated
  new_condition class slots z next =
      make context.limit (instance_words (tables context.program) class (length slots)) 0 (instance class (map Some slots) nil) z next

  -- a condition is signalled with a mark under handlers (ISO/IEC 13816:2007, 29.2): without any, the program
  -- ends unhandled; else the innermost one is applied to it with those outside it alone. A transfer to the
  -- signal's exit gives its value; a handler that returns is a control error under the handlers outside.
  abbrev pub signal_under : List Value → Value → Value → FlatAct
  signal_under [] c mark around z = leaves 0 c (at_site around.site) (exit_made (marked c mark z))
  signal_under (h ∷ hs) c mark around z =
      caught z.state.exits
      (go_on (apply_value (λ class slots inner y. new_condition class slots y (λ e after. signal_under hs e nil inner after))
      h (c ∷ []) (record (inside (signal_exit c mark) around z) { handlers = hs })
      (charged 1 (exit_made (marked c mark z))))
      (λ v after. new_condition control_error_class [] after
      (λ e made. signal_under hs e nil (record (inside (signal_exit c mark) around z) { handlers = hs }) made)))

  -- a condition is made and signalled; its mark is nil
  abbrev pub signal : FlatSignals
  signal class slots around z =
      new_condition class slots z (λ c made. signal_under around.handlers c nil around made)

  -- the answer of a primitive
  abbrev pub answered : Answer → DynamicContext → FlatState → FlatEvaluated
  answered (result v z) around y = gives v (record y { state = z })
  answered (makes size besides made z) around y =
      make context.limit size besides made (record y { state = z }) (λ v after. gives v after)
  answered (makes_symbol z) around y =
      make context.limit 2 0 (fresh_symbol z.symbols) (record y { state = z })
      (λ v after. gives v (on_state (λ (x : State). record x { symbols = x.symbols + 1 }) after))
  answered (fails class slots z) around y = signal class slots around (record y { state = z })
  answered (domain_error v expected z) around y = signal_domain_error signal v expected around (record y { state = z })

  -- transfers (ISO/IEC 13816:2007, 14.8.1): where there is no such exit, a control error

  abbrev pub to_exit : (Exit → Bool) → (Exit → FlatAct) → FlatAct
  to_exit p go around z =
      search p (λ x. go x around) (signal control_error_class [] around) around.exits z

  -- to the exit of an exit name, where it is valid
  abbrev pub transfer : Option ℕ → Value → Landing → FlatAct
  transfer None v landing = signal control_error_class []
  transfer (Some e) v landing = to_exit (λ x. x.number == e) (λ x around. leaves x.number v landing)

  -- to the innermost exit for a tag
  abbrev pub throw_to : Value → Value → FlatAct
  throw_to tag v = to_exit (λ x. is_catch tag x.kind) (λ x around. leaves x.number v (at_segment 0))

  -- to the innermost signal of that very condition, which is to be continuable (ISO/IEC 13816:2007, 29.2.2)
  abbrev pub continue_with : Value → Value → FlatAct
  continue_with c v =
      to_exit (λ x. is_signal c x.kind) (λ x around z.
      if is_continuable x.kind then leaves x.number v (at_segment 0) z else signal control_error_class [] around z)
