-- Applications, signals and transfers (ISO/IEC 13816:2007, 12.7, 14.8, 15.3.4 and 29.2). This profile's choices are
-- `<program-error>` for a wrong number of arguments, `<control-error>` for a missing next method, for a handler
-- that returns and for a condition that is not continuable.
use Rattle.std.specs.Prelude.{ℕ, ◌+◌, ◌==◌, Bool, false, nat_eq, nat_le, List, [], ◌∷◌, ◌++◌, length, map, take, drop, Option, Some, None, slice_get, is_some, if◌then◌else◌}
use Rattle.lang_meaning.specs.declared.program.ProgramRows.{ProgramRows}
use Rattle.lang_meaning.specs.declared.program.Procedure.{Procedure}
use Rattle.lang_meaning.specs.declared.program.GenericRow.{GenericRow}
use Rattle.lang_meaning.specs.declared.program.FunctionRow.{FunctionRow}
use Rattle.lang_meaning.specs.declared.program.Callee.{Callee}
use Rattle.lang_meaning.specs.declared.program.Callee.TheVariants as callee
use Rattle.lang_meaning.specs.Form.{Form, Forms, parameters}
use Rattle.lang_meaning.specs.Counts.{nodes, application_words}
use Rattle.lang_meaning.specs.Values.{Value, named, symbol, nil, object, same, is_true}
use Rattle.lang_meaning.specs.Objects.{Chain, Called, Environment, no_environment, Object, cons, instance, function, closure, generic_function, fresh_symbol, function_class, control_error_class, program_error_class, domain_error_class, unbound_variable_class, undefined_function_class}
use Rattle.lang_meaning.specs.State.{State, Exit, ExitKind, catch_exit, signal_exit, Landing, at_segment, at_site, Evaluated, gives, leaves, Act, go_on, caught, inside, exit_made, Limit, request, charged, make, changed, in_frame}
use Rattle.lang_meaning.specs.Lookup.{text, with_variables, with_values}
use Rattle.lang_meaning.specs.declared.capture.Capture.TheVariants.{Method}
use Rattle.lang_meaning.specs.Captured.{captures, has_box}
use Rattle.lang_meaning.specs.Classes.{class_of, fetch, chain}
use Rattle.lang_meaning.specs.InitialHeap.{class_value}
use Rattle.lang_meaning.specs.Primitives.{Answer, result, makes, makes_symbol, fails, domain_error, instance_words}

-- what is evaluated one level below: nothing, to see that there is a level; a form; the segments of
-- a tagbody from one of them on, with its exit and all its segments; the methods of a chain
pub data Task : Type 0 where
  nothing : Task
  form : Form → Task
  turn : (exit : ℕ) → Forms → Forms → Task
  methods : Chain → List Value → Task

-- an evaluation from an environment, a dynamic context and a state
abbrev pub Evaluation : Type 0
Evaluation = Environment → Act

-- what a meaning depends on: the texts of names, the program, the words there are, and the meaning one level below
pub record Context : Type 0 where
  pub names : List (List ℕ)
  pub program : ProgramRows
  pub limit : Limit
  pub below : Task → Evaluation

-- how a condition of a class is signalled, with its slots
abbrev pub Signals : Type 0
Signals = ℕ → List Value → Act

-- what stands there, if something does
abbrev pub with_some : {X : Type 0} → Option X → Act → (X → Act) → Act
with_some None otherwise next = otherwise
with_some (Some x) otherwise next = next x

-- whether a procedure or a generic function takes so many arguments
abbrev pub takes : (required : ℕ) → (more : Bool) → ℕ → Bool
takes required more n = if more then nat_le required n else nat_eq required n

abbrev pub variables : Procedure → List ℕ
variables p = parameters p.required p.rest

-- the mark of a condition is set
abbrev pub marked_at : Value → Value → Option Object → State → State
marked_at (object i) mark (Some (instance class slots old)) z = changed i (instance class slots mark) z
marked_at v mark o z = z

abbrev pub marked : Value → Value → State → State
marked c mark z = marked_at c mark (fetch z c) z

-- kinds of exits

abbrev pub is_catch : Value → ExitKind → Bool
is_catch tag (catch_exit other) = same tag other
is_catch tag kind = false

abbrev pub is_signal : Value → ExitKind → Bool
is_signal c (signal_exit other mark) = same c other
is_signal c kind = false

abbrev pub is_continuable : ExitKind → Bool
is_continuable (signal_exit c mark) = is_true mark
is_continuable kind = false

-- what needs a level: More where there is none
abbrev pub descend : (below : Task → Evaluation) → (State → Evaluated) → Act
descend below next around z = go_on (below nothing no_environment around z) (λ v after. next after)

-- a list of values is made, one cons after another
abbrev pub make_list : Limit → List Value → State → (Value → State → Evaluated) → Evaluated
make_list limit [] z next = next nil z
make_list limit (v ∷ vs) z next =
    make_list limit vs z (λ tail after. make limit 2 0 (cons v tail) after next)

-- the arguments as the variables' values: those after the required ones are one list
abbrev pub gathered : Limit → ℕ → Option ℕ → List Value → State → (List Value → State → Evaluated) → Evaluated
gathered limit required None vs z next = next vs z
gathered limit required (Some rest) vs z next =
    make_list limit (drop required vs) z (λ tail after. next (take required vs ++ tail ∷ []) after)

-- a word for the box of each variable that has one
abbrev pub with_boxes : Limit → List ℕ → Form → State → (State → Evaluated) → Evaluated
with_boxes limit [] body z next = next z
with_boxes limit (v ∷ vs) body z next =
    if has_box v body then request limit 1 0 z (λ entered. with_boxes limit vs body (charged 1 entered) next)
    else with_boxes limit vs body z next

-- the words of the arguments and the chain of a method, where a function in it captures them
abbrev pub with_record : Limit → Option Called → Form → State → (State → Evaluated) → Evaluated
with_record limit None body z next = next z
with_record limit (Some called) body z next =
    if captures Method body then
    request limit (2 + length called.arguments) 0 z (λ entered. next (charged (2 + length called.arguments) entered))
    else next z

-- a search from the first one on, which counts each one that it passes
abbrev pub search : {X : Type 0} → (X → Bool) → (X → State → Evaluated) → (State → Evaluated) → List X → State → Evaluated
search p found otherwise [] z = otherwise z
search p found otherwise (x ∷ xs) z =
    if p x then found x (charged 1 z) else search p found otherwise xs (charged 1 z)

-- the name slot of an undefined function, and of an unbound variable
abbrev pub undefined_function : Signals → List ℕ → Act
undefined_function wrong name = wrong undefined_function_class (symbol (named name) ∷ [])

abbrev pub unbound_variable : Signals → List ℕ → Act
unbound_variable wrong name = wrong unbound_variable_class (symbol (named name) ∷ [])

-- applications, signals and transfers, in a context
module _ (context : Context) where
  -- an object that is not of the expected class: a condition with both (ISO/IEC 13816:2007, 29.3)
  abbrev pub signal_domain_error : Signals → Value → (expected : ℕ) → Act
  signal_domain_error wrong v expected =
      wrong domain_error_class (v ∷ class_value context.names context.program expected ∷ [])

  -- the application of a function in an environment, with what a method is called with; the number of
  -- arguments is judged first, and then each request comes one by one. `wrong` signals what goes wrong in the
  -- application itself: inside a handler, under the handlers outside.
  abbrev pub enter : Signals → (required : List ℕ) → (rest : Option ℕ) → (body : Form) → Environment → Option Called → List Value → Act
  enter wrong required rest body env called vs around z =
      if takes (length required) (is_some rest) (length vs) then
      in_frame context.limit (application_words (nodes body) + length vs)
      (λ entered. gathered context.limit (length required) rest vs (charged (length vs) entered) (λ ws gone.
      with_record context.limit called body gone (λ recorded.
      with_boxes context.limit (parameters required rest) body recorded (λ ready.
      context.below (form body) (with_variables (parameters required rest) ready env) around (with_values ws ready)))))
      z
      else wrong program_error_class [] around z

  -- the application of a procedure by its number: a level is needed before all else. Around it there are no
  -- variables and no exits.
  abbrev pub apply_procedure : Signals → ℕ → Option Called → List Value → Act
  apply_procedure wrong i called vs around z =
      descend context.below (λ entered.
      with_some (slice_get context.program.procedures i) (λ a y. gives nil y)
      (λ p. enter wrong p.required p.rest p.body (record no_environment { method = called }) called vs) around entered)
      around z

  -- the application of a function that a `lambda` made, in the environment in which it was made
  abbrev pub apply_closure : Signals → (required : List ℕ) → (rest : Option ℕ) → (body : Form) → Environment → List Value → Act
  apply_closure wrong required rest body env vs around z =
      descend context.below (λ entered. enter wrong required rest body env None vs around entered) around z

  -- a method, with the arguments and the rest of the chain
  abbrev pub apply_method : Signals → ℕ → Called → Act
  apply_method wrong i called =
      apply_procedure wrong i (Some called) called.arguments

  -- methods one after another, for what they do
  abbrev pub apply_each : Signals → List ℕ → List Value → Act
  apply_each wrong [] vs around z = gives nil z
  apply_each wrong (m ∷ ms) vs around z =
      go_on (apply_procedure wrong m None vs around z) (λ v after. apply_each wrong ms vs around after)

  -- the methods of a chain (ISO/IEC 13816:2007, 15.3.4): the first around method; else all before methods, the
  -- first primary method and all after methods. Without any there is no next method.
  abbrev pub run_primary : Signals → Chain → List ℕ → List Value → Act
  run_primary wrong c [] vs around z = wrong control_error_class [] around z
  run_primary wrong c (p ∷ ps) vs around z =
      go_on (apply_each wrong c.before vs around z) (λ ignored before.
      go_on (apply_method wrong p (record { arguments = vs; rest = record { around = []; before = []; primary = ps; after = [] } }) around before) (λ v primary.
      go_on (apply_each wrong c.after vs around primary) (λ ignored after.
      gives v after)))

  abbrev pub run_around : Signals → Chain → List ℕ → List Value → Act
  run_around wrong c [] vs around z = run_primary wrong c c.primary vs around z
  run_around wrong c (m ∷ ms) vs around z =
      apply_method wrong m (record { arguments = vs; rest = record c { around = ms } }) around z

  abbrev pub run_chain : Signals → Chain → List Value → Act
  run_chain wrong c vs around z = run_around wrong c c.around vs around z

  -- the application of a generic function: a wrong number of arguments, or no chain, is no application
  abbrev pub apply_chain : Signals → GenericRow → Option Chain → List Value → Act
  apply_chain wrong g None vs around z = undefined_function wrong (text context.names g.name.0) around z
  apply_chain wrong g (Some c) vs around z =
      descend context.below (λ entered.
      in_frame context.limit (16 + length vs)
      (λ inner. context.below (methods c vs) no_environment around (charged (length vs) inner)) entered)
      around z

  abbrev pub apply_generic_row : Signals → Option GenericRow → List Value → Act
  apply_generic_row wrong None vs around z = gives nil z
  apply_generic_row wrong (Some g) vs around z =
      if takes g.required g.rest (length vs) then
      apply_chain wrong g (chain context.program g (map (class_of z) (take g.required vs))) vs around z
      else wrong program_error_class [] around z

  abbrev pub apply_generic : Signals → ℕ → List Value → Act
  apply_generic wrong i vs around z = apply_generic_row wrong (slice_get context.program.generics i) vs around z

  -- the application of a value, which is to be a function
  abbrev pub apply_object : Signals → Option Object → Value → List Value → Act
  apply_object wrong (Some (function p)) f vs = apply_procedure wrong p None vs
  apply_object wrong (Some (closure required rest body env)) f vs = apply_closure wrong required rest body env vs
  apply_object wrong (Some (generic_function g)) f vs = apply_generic wrong g vs
  apply_object wrong o f vs = signal_domain_error wrong f function_class

  abbrev pub apply_value : Signals → Value → List Value → Act
  apply_value wrong f vs around z = apply_object wrong (fetch z f) f vs around z

  abbrev pub apply_callee : Signals → Callee → List Value → Act
  apply_callee wrong (callee.Procedure p) vs = apply_procedure wrong p None vs
  apply_callee wrong (callee.Generic g) vs = apply_generic wrong g vs

  -- the application of the function of a name
  abbrev pub apply_row : Signals → List ℕ → Option FunctionRow → List Value → Act
  apply_row wrong name None vs = undefined_function wrong name
  apply_row wrong name (Some f) vs = apply_callee wrong f.callee vs

  -- a new condition of a class, with its slots
  abbrev pub new_condition : ℕ → List Value → State → (Value → State → Evaluated) → Evaluated
  new_condition class slots z next =
      make context.limit (instance_words context.program class (length slots)) 0 (instance class (map Some slots) nil) z next

  -- a condition is signalled with a mark under handlers (ISO/IEC 13816:2007, 29.2): without any, the program
  -- ends unhandled; else the innermost one is applied to it with those outside it alone. A transfer to the
  -- signal's exit gives its value; a handler that returns is a control error under the handlers outside.
  abbrev pub signal_under : List Value → Value → Value → Act
  signal_under [] c mark around z = leaves 0 c (at_site around.site) (exit_made (marked c mark z))
  signal_under (h ∷ hs) c mark around z =
      caught z.exits
      (go_on (apply_value (λ class slots inner y. new_condition class slots y (λ e after. signal_under hs e nil inner after))
      h (c ∷ []) (record (inside (signal_exit c mark) around z) { handlers = hs })
      (charged 1 (exit_made (marked c mark z))))
      (λ v after. new_condition control_error_class [] after
      (λ e made. signal_under hs e nil (record (inside (signal_exit c mark) around z) { handlers = hs }) made)))

  -- a condition is made and signalled; its mark is nil
  abbrev pub signal : Signals
  signal class slots around z =
      new_condition class slots z (λ c made. signal_under around.handlers c nil around made)

  -- the answer of a primitive
  abbrev pub answered : Answer → Act
  answered (result v z) around y = gives v z
  answered (makes size besides made z) around y = make context.limit size besides made z (λ v after. gives v after)
  answered (makes_symbol z) around y =
      make context.limit 2 0 (fresh_symbol z.symbols) z (λ v after. gives v (record after { symbols = after.symbols + 1 }))
  answered (fails class slots z) around y = signal class slots around z
  answered (domain_error v expected z) around y = signal_domain_error signal v expected around z

  -- transfers (ISO/IEC 13816:2007, 14.8.1): where there is no such exit, a control error

  abbrev pub to_exit : (Exit → Bool) → (Exit → Act) → Act
  to_exit p go around z =
      search p (λ x. go x around) (signal control_error_class [] around) around.exits z

  -- to the exit of an exit name, where it is valid
  abbrev pub transfer : Option ℕ → Value → Landing → Act
  transfer None v landing = signal control_error_class []
  transfer (Some e) v landing = to_exit (λ x. x.number == e) (λ x around. leaves x.number v landing)

  -- to the innermost exit for a tag
  abbrev pub throw_to : Value → Value → Act
  throw_to tag v = to_exit (λ x. is_catch tag x.kind) (λ x around. leaves x.number v (at_segment 0))

  -- to the innermost signal of that very condition, which is to be continuable (ISO/IEC 13816:2007, 29.2.2)
  abbrev pub continue_with : Value → Value → Act
  continue_with c v =
      to_exit (λ x. is_signal c x.kind) (λ x around z.
      if is_continuable x.kind then leaves x.number v (at_segment 0) z else signal control_error_class [] around z)
