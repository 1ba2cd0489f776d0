-- How the machine applies functions, runs methods, signals conditions and transfers control. Each is one step: it ends where a
-- form is to be evaluated, where a condition is to be signalled, or with an outcome. What goes wrong in an application is always
-- signalled under the handlers around it.
use Rattle.std.specs.Prelude.{ℕ, suc, ◌+◌, ◌==◌, Bool, true, false, List, [], ◌∷◌, ◌++◌, length, map, take, drop, Option, Some, None, slice_get, is_some, if◌then◌else◌}
use Rattle.lang_meaning.specs.declared.program.GenericRow.{GenericRow}
use Rattle.lang_meaning.specs.declared.program.FunctionRow.{FunctionRow}
use Rattle.lang_meaning.specs.declared.program.Callee.{Callee}
use Rattle.lang_meaning.specs.declared.program.Callee.TheVariants as callee
use Rattle.lang_meaning.specs.Counts.{application_words}
use Rattle.lang_meaning.specs.Values.{Value, named, symbol, nil}
use Rattle.lang_meaning.specs.Objects.{Chain, Called, Object, cons, instance, function, generic_function, fresh_symbol, function_class, control_error_class, program_error_class, domain_error_class, unbound_variable_class, undefined_function_class}
use Rattle.lang_meaning.specs.State.{State, DynamicContext, Exit, signal_exit, Landing, at_segment, at_site, Limit}
use Rattle.lang_meaning.specs.Lookup.{text, passed}
use Rattle.lang_meaning.specs.Classes.{class_of, fetch, chain}
use Rattle.lang_meaning.specs.InitialHeap.{class_value}
use Rattle.lang_meaning.specs.Primitives.{Answer, result, makes, makes_symbol, fails, domain_error, instance_words}
use Rattle.lang_meaning.specs.Signals.{takes, is_catch, is_signal, is_continuable}
use Rattle.flat_language.specs.declared.place.Home.{Home}
use Rattle.flat_language.specs.declared.program.FlatProcedure.{FlatProcedure}
use Rattle.flat_language.specs.FlatNodes.{tables, homes, nodes}
use Rattle.flat_language.specs.FlatState.{Captured, no_environment, FlatState, FlatEvaluated, on_state, captured_by, gives, leaves, go_on, charged, exit_made, request, make, with_slots}
use Rattle.flat_language.specs.FlatSignals.{with_record, with_boxes, inside, marked}
use Rattle.eval_machine.specs.Configuration.{Setting, awaits, catches, restores_stack, restores_slots, evaluate, signals, method_value, before_methods, handler_return, Transition, configuration, ended, then_on, some_or, descend, first_that}

-- words of the heap and of the stack are asked for
abbrev pub requested : Limit → ℕ → ℕ → FlatState → FlatEvaluated
requested limit heap stack z = request limit heap stack z (λ entered. gives nil entered)

-- an object is made
abbrev pub made : Limit → (size besides : ℕ) → Object → FlatState → FlatEvaluated
made limit size besides o z = make limit size besides o z (λ v after. gives v after)

-- a list is made, from its end
abbrev pub listed : Limit → List Value → FlatState → FlatEvaluated
listed limit [] z = gives nil z
listed limit (v ∷ vs) z = go_on (listed limit vs z) (λ tail after. made limit 2 0 (cons v tail) after)

-- the list of the arguments behind the required ones, where there is a rest variable; and then the values of the variables
abbrev pub rest_listed : Limit → ℕ → (rest : Bool) → List Value → FlatState → FlatEvaluated
rest_listed limit required false vs z = gives nil z
rest_listed limit required true vs z = listed limit (drop required vs) z

abbrev pub variable_values : ℕ → (rest : Bool) → List Value → Value → List Value
variable_values required false vs tail = vs
variable_values required true vs tail = take required vs ++ tail ∷ []

-- the words of a method's arguments and chain where they are captured, and those of boxes
abbrev pub recorded : Limit → Option Called → Bool → FlatState → FlatEvaluated
recorded limit called keeps z = with_record limit called keeps z (λ entered. gives nil entered)

abbrev pub boxes_requested : Limit → List Home → FlatState → FlatEvaluated
boxes_requested limit hs z = with_boxes limit hs z (λ entered. gives nil entered)

-- the first one from the innermost on, where each one that is passed counts
abbrev pub searched : {X : Type 0} → (X → Bool) → (X → Transition) → Transition → List X → Transition
searched p found otherwise xs frames z = some_or (first_that p xs) otherwise found frames (charged (passed p xs) z)

module _ (s : Setting) where
  -- a new condition of a class, with its slots
  abbrev pub condition_made : ℕ → List Value → FlatState → FlatEvaluated
  condition_made class slots z =
      made s.limit (instance_words (tables s.program) class (length slots)) 0 (instance class (map Some slots) nil) z

  -- a condition is made, and then signalled; its mark is nil
  abbrev pub signal_class : ℕ → List Value → (level : ℕ) → DynamicContext → Transition
  signal_class class slots level around frames z =
      then_on (condition_made class slots z) frames (λ c after. configuration (signals c nil level around) frames after)

  abbrev pub signal_domain : Value → (expected : ℕ) → (level : ℕ) → DynamicContext → Transition
  signal_domain v expected = signal_class domain_error_class (v ∷ class_value s.names (tables s.program) expected ∷ [])

  abbrev pub signal_undefined : List ℕ → (level : ℕ) → DynamicContext → Transition
  signal_undefined name = signal_class undefined_function_class (symbol (named name) ∷ [])

  abbrev pub signal_unbound : List ℕ → (level : ℕ) → DynamicContext → Transition
  signal_unbound name = signal_class unbound_variable_class (symbol (named name) ∷ [])

  -- the body of a procedure, with one level less, in a frame of its own
  abbrev pub begin_body : FlatProcedure → List Captured → Option Called → List Value → (level : ℕ) → DynamicContext → Transition
  begin_body p captured called ws k around frames z =
      configuration (evaluate p.body (record { level = k; environment = record no_environment { captured = captured; method = called }; around = around }))
      (restores_slots z.frame ∷ frames) (with_slots (homes p) ws (record z { frame = [] }))

  -- a procedure is entered: the number of arguments is judged first, and then each request comes one by one
  abbrev pub enter : FlatProcedure → List Captured → Option Called → List Value → (level : ℕ) → DynamicContext → Transition
  enter p captured called vs k around frames z =
      if takes (length p.required) (is_some p.rest) (length vs) then
      then_on (requested s.limit 0 (application_words (nodes p.body) + length vs) z) frames (λ ignored inner.
      then_on (rest_listed s.limit (length p.required) (is_some p.rest) vs (charged (length vs) inner)) (restores_stack z.state.stack ∷ frames) (λ tail gone.
      then_on (recorded s.limit called p.keeps_method gone) (restores_stack z.state.stack ∷ frames) (λ nothing noted.
      then_on (boxes_requested s.limit (homes p) noted) (restores_stack z.state.stack ∷ frames) (λ none ready.
      begin_body p captured called (variable_values (length p.required) (is_some p.rest) vs tail) k around (restores_stack z.state.stack ∷ frames) ready))))
      else signal_class program_error_class [] (suc k) around frames z

  -- a procedure by its number, which captured nothing; and a function that a form made, with what it captured
  abbrev pub apply_procedure : ℕ → Option Called → List Value → (level : ℕ) → DynamicContext → Transition
  apply_procedure i called vs level around =
      descend level (λ k. some_or (slice_get s.program.procedures i) (λ frames z. ended (gives nil z) frames)
      (λ p. enter p [] called vs k around))

  abbrev pub apply_function : ℕ → List Captured → List Value → (level : ℕ) → DynamicContext → Transition
  apply_function i captured vs level around =
      descend level (λ k. some_or (slice_get s.program.lambdas i) (λ frames z. ended (gives nil z) frames)
      (λ p. enter p captured None vs k around))

  -- a method, with the arguments and the rest of the chain
  abbrev pub apply_method : ℕ → Called → (level : ℕ) → DynamicContext → Transition
  apply_method m called = apply_procedure m (Some called) called.arguments

  -- methods one after another
  abbrev pub apply_each : List ℕ → List Value → (level : ℕ) → DynamicContext → Transition
  apply_each [] vs level around frames z = ended (gives nil z) frames
  apply_each (m ∷ ms) vs level around frames z = apply_procedure m None vs level around (awaits (method_value ms vs level around) ∷ frames) z

  -- the methods of a chain: the first around method; else all before methods, the first primary method and all after methods
  abbrev pub run_primary : Chain → List ℕ → List Value → (level : ℕ) → DynamicContext → Transition
  run_primary c [] vs level around frames z = signal_class control_error_class [] level around frames z
  run_primary c (p ∷ ps) vs level around frames z = apply_each c.before vs level around (awaits (before_methods c p ps vs level around) ∷ frames) z

  abbrev pub run_around : Chain → List ℕ → List Value → (level : ℕ) → DynamicContext → Transition
  run_around c [] vs = run_primary c c.primary vs
  run_around c (m ∷ ms) vs = apply_method m (record { arguments = vs; rest = record c { around = ms } })

  abbrev pub run_chain : Chain → List Value → (level : ℕ) → DynamicContext → Transition
  run_chain c vs = run_around c c.around vs

  -- a generic function
  abbrev pub apply_chain : GenericRow → Option Chain → List Value → (level : ℕ) → DynamicContext → Transition
  apply_chain g None vs level around = signal_undefined (text s.names g.name.0) level around
  apply_chain g (Some c) vs level around =
      descend level (λ k frames z.
      then_on (requested s.limit 0 (16 + length vs) z) frames (λ ignored inner.
      run_chain c vs k around (restores_stack z.state.stack ∷ frames) (charged (length vs) inner)))

  abbrev pub apply_generic : ℕ → List Value → (level : ℕ) → DynamicContext → Transition
  apply_generic i vs level around =
      some_or (slice_get s.program.generics i) (λ frames z. ended (gives nil z) frames) (λ g frames z.
      if takes g.required g.rest (length vs) then
      apply_chain g (chain (tables s.program) g (map (class_of z.state) (take g.required vs))) vs level around frames z
      else signal_class program_error_class [] level around frames z)

  -- a value, which is to be a function
  abbrev pub apply_object : Option Object → Option (List Captured) → Value → List Value → (level : ℕ) → DynamicContext → Transition
  apply_object (Some (function p)) None f vs = apply_procedure p None vs
  apply_object (Some (function p)) (Some captured) f vs = apply_function p captured vs
  apply_object (Some (generic_function g)) captured f vs = apply_generic g vs
  apply_object o captured f vs = signal_domain f function_class

  abbrev pub apply_value : Value → List Value → (level : ℕ) → DynamicContext → Transition
  apply_value f vs level around frames z = apply_object (fetch z.state f) (captured_by f z) f vs level around frames z

  -- the function of a name
  abbrev pub apply_callee : Callee → List Value → (level : ℕ) → DynamicContext → Transition
  apply_callee (callee.Procedure p) vs = apply_procedure p None vs
  apply_callee (callee.Generic g) vs = apply_generic g vs

  abbrev pub apply_row : List ℕ → Option FunctionRow → List Value → (level : ℕ) → DynamicContext → Transition
  apply_row name None vs = signal_undefined name
  apply_row name (Some f) vs = apply_callee f.callee vs

  -- a condition is signalled under handlers: without any, the program ends unhandled; else the innermost one is applied to
  -- it, under those outside it
  abbrev pub signal_under : List Value → Value → Value → (level : ℕ) → DynamicContext → Transition
  signal_under [] c mark level around frames z = ended (leaves 0 c (at_site around.site) (exit_made (marked c mark z))) frames
  signal_under (h ∷ hs) c mark level around frames z =
      let within = record (inside (signal_exit c mark) around z) { handlers = hs } in
      apply_value h (c ∷ []) level within (awaits (handler_return level within) ∷ catches z.state.exits ∷ frames)
      (charged 1 (exit_made (marked c mark z)))

  -- the answer of a primitive
  abbrev pub answered : Answer → (level : ℕ) → DynamicContext → Transition
  answered (result v x) level around frames z = ended (gives v (record z { state = x })) frames
  answered (makes size besides o x) level around frames z = ended (made s.limit size besides o (record z { state = x })) frames
  answered (makes_symbol x) level around frames z =
      then_on (made s.limit 2 0 (fresh_symbol x.symbols) (record z { state = x })) frames (λ v after.
      ended (gives v (on_state (λ (y : State). record y { symbols = y.symbols + 1 }) after)) frames)
  answered (fails class slots x) level around frames z = signal_class class slots level around frames (record z { state = x })
  answered (domain_error v expected x) level around frames z = signal_domain v expected level around frames (record z { state = x })

  -- transfers: where there is no such exit, a control error
  abbrev pub to_exit : (Exit → Bool) → (Exit → Transition) → (level : ℕ) → DynamicContext → Transition
  to_exit p go level around = searched p go (signal_class control_error_class [] level around) around.exits

  abbrev pub transfer : Option ℕ → Value → Landing → (level : ℕ) → DynamicContext → Transition
  transfer None v landing level around = signal_class control_error_class [] level around
  transfer (Some e) v landing level around =
      to_exit (λ x. x.number == e) (λ x frames z. ended (leaves x.number v landing z) frames) level around

  abbrev pub throw_to : Value → Value → (level : ℕ) → DynamicContext → Transition
  throw_to tag v level around =
      to_exit (λ x. is_catch tag x.kind) (λ x frames z. ended (leaves x.number v (at_segment 0) z) frames) level around

  abbrev pub continue_with : Value → Value → (level : ℕ) → DynamicContext → Transition
  continue_with c v level around =
      to_exit (λ x. is_signal c x.kind) (λ x frames z.
      if is_continuable x.kind then ended (leaves x.number v (at_segment 0) z) frames
      else signal_class control_error_class [] level around frames z) level around
