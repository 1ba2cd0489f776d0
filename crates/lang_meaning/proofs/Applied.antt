-- Applications, signals and transfers side by side, over the meaning one level below on both sides.
use Rattle.std.proofs.Common.{ℕ, ◌+◌, Bool, List, [], ◌∷◌, ◌++◌, refl, inl, inr, Option, Some, None, length, map, take, drop}
use Rattle.std.specs.Prelude.{is_some, slice_get}
use Rattle.lang_meaning.specs.declared.program.Procedure.{Procedure}
use Rattle.lang_meaning.specs.declared.program.GenericRow.{GenericRow}
use Rattle.lang_meaning.specs.declared.program.FunctionRow.{FunctionRow}
use Rattle.lang_meaning.specs.declared.program.Callee.{Callee}
use Rattle.lang_meaning.specs.declared.program.Callee.TheVariants as callee
use Rattle.lang_meaning.specs.Laws.{IsExitOf}
use Rattle.lang_meaning.specs.Form.{Form, parameters}
use Rattle.lang_meaning.specs.Counts.{nodes, application_words}
use Rattle.lang_meaning.specs.Values.{Value, symbol, named, nil, object}
use Rattle.lang_meaning.specs.Objects.{Chain, Called, Environment, no_environment, Object, cons, string, vector, instance, function, closure, generic_function, class_object, input_stream, output_stream, fresh_symbol, control_error_class, program_error_class, undefined_function_class}
use Rattle.lang_meaning.specs.State.{State, DynamicContext, Exit, signal_exit, Landing, at_segment, at_site, Evaluated, leaves, Act, inside, exit_made, Limit, charged}
use Rattle.lang_meaning.specs.Lookup.{text, with_variables, with_values}
use Rattle.lang_meaning.specs.declared.capture.Capture.TheVariants.{Method}
use Rattle.lang_meaning.specs.Captured.{captures, has_box}
use Rattle.lang_meaning.specs.Classes.{class_of, fetch, chain}
use Rattle.lang_meaning.specs.Signals.{Context, Task, nothing, form, methods, Evaluation, Signals, takes, marked, marked_at, descend, make_list, gathered, with_boxes, with_record, enter, apply_procedure, apply_closure, apply_method, apply_each, run_primary, run_around, run_chain, undefined_function, signal_domain_error, apply_chain, apply_generic_row, apply_generic, apply_object, apply_value, apply_callee, apply_row, new_condition, signal_under, signal, search, to_exit, transfer, throw_to, continue_with, is_catch, is_signal, is_continuable}
use Rattle.lang_meaning.proofs.Steps.{IsKeptByRules}
use Rattle.lang_meaning.proofs.Compared.{Extends, Continues, Follows, Acts, Within, Beside, second, Both, itself, given, sooner, on, tests, catches, some, requests, charges, made, framed}

module _ {R : State → State → Type 0} {k : IsKeptByRules R} where
  pub descends : {low high : Task → Evaluation} → Within R k low high → (around : DynamicContext) (z : State) {next next' : State → Evaluated} → Follows R k around.exits next next'
      → Extends R k around.exits z (descend low next around z) (descend high next' around z)
  descends w around z c = on (w nothing no_environment around z) (λ v after. c after)

  pub lists : (limit : Limit) (exits : List Exit) (vs : List Value) (z : State) {next next' : Value → State → Evaluated} → Continues R k exits next next'
      → Extends R k exits z (make_list limit vs z next) (make_list limit vs z next')
  lists limit exits [] z c = c nil z
  lists limit exits (v ∷ vs) z c =
      lists limit exits vs z (λ tail after. made limit 2 0 (cons v tail) after c)

  pub gathers : (limit : Limit) (exits : List Exit) (required : ℕ) (rest : Option ℕ) (vs : List Value) (z : State) {next next' : List Value → State → Evaluated}
      → ((ws : List Value) → Follows R k exits (next ws) (next' ws))
      → Extends R k exits z (gathered limit required rest vs z next) (gathered limit required rest vs z next')
  gathers limit exits required None vs z c = c vs z
  gathers limit exits required (Some rest) vs z c =
      lists limit exits (drop required vs) z (λ tail after. c (take required vs ++ tail ∷ []) after)

  pub boxes : (limit : Limit) (exits : List Exit) (vs : List ℕ) (body : Form) (z : State) {next next' : State → Evaluated} → Follows R k exits next next'
      → Extends R k exits z (with_boxes limit vs body z next) (with_boxes limit vs body z next')
  boxes limit exits [] body z c = c z
  boxes limit exits (v ∷ vs) body z c =
      tests (has_box v body)
      (requests limit 1 0 z (λ entered. charges 1 entered (boxes limit exits vs body (charged 1 entered) c)))
      (boxes limit exits vs body z c)

  pub records : (limit : Limit) (exits : List Exit) (called : Option Called) (body : Form) (z : State) {next next' : State → Evaluated} → Follows R k exits next next'
      → Extends R k exits z (with_record limit called body z next) (with_record limit called body z next')
  records limit exits None body z c = c z
  records limit exits (Some called) body z c =
      tests (captures Method body)
      (requests limit (2 + length called.arguments) 0 z (λ entered.
      charges (2 + length called.arguments) entered (c (charged (2 + length called.arguments) entered))))
      (c z)

  -- a search
  pub searches : {X : Type 0} (exits : List Exit) (p : X → Bool) {found found' : X → State → Evaluated} {otherwise otherwise' : State → Evaluated}
      → ((x : X) → Follows R k exits (found x) (found' x)) → Follows R k exits otherwise otherwise'
      → (xs : List X) (z : State)
      → Extends R k exits z (search p found otherwise xs z) (search p found' otherwise' xs z)
  searches exits p f o [] z = o z
  searches exits p f o (x ∷ xs) z =
      tests (p x)
      (charges 1 z (f x (charged 1 z)))
      (charges 1 z (searches exits p f o xs (charged 1 z)))

  exit_searches : (exits : List Exit) (p : Exit → Bool) {found found' : Exit → State → Evaluated} {otherwise otherwise' : State → Evaluated}
      → ((x : Exit) → IsExitOf x.number exits → Follows R k exits (found x) (found' x)) → Follows R k exits otherwise otherwise'
      → (xs : List Exit) → ((e : ℕ) → IsExitOf e xs → IsExitOf e exits) → (z : State)
      → Extends R k exits z (search p found otherwise xs z) (search p found' otherwise' xs z)
  exit_searches exits p f o [] h z = o z
  exit_searches exits p f o (x ∷ xs) h z =
      tests (p x)
      (charges 1 z (f x (h x.number (inl refl)) (charged 1 z)))
      (charges 1 z (exit_searches exits p f o xs (λ e i. h e (inr i)) (charged 1 z)))

module _ {R : State → State → Type 0} {k : IsKeptByRules R} (b : Beside R k) where
  -- signals of conditions
  abbrev pub Signs : (Context → Signals) → Type 0
  Signs wrong = (class : ℕ) (slots : List Value) → Both b (λ context. wrong context class slots)

  module _ (wrong : Context → Signals) (s : Signs wrong) where
    pub domain_signals : (v : Value) (expected : ℕ) → Both b (λ context. signal_domain_error context (wrong context) v expected)
    domain_signals v expected around z = s _ _ around z

    pub enters : (required : List ℕ) (rest : Option ℕ) (body : Form) (env : Environment) (called : Option Called) (vs : List Value)
        → Both b (λ context. enter context (wrong context) required rest body env called vs)
    enters required rest body env called vs around z =
        tests (takes (length required) (is_some rest) (length vs))
        (framed b.context.limit (application_words (nodes body) + length vs) z (λ entered.
        charges (length vs) entered
        (gathers b.context.limit around.exits (length required) rest vs (charged (length vs) entered) (λ ws gone.
        records b.context.limit around.exits called body gone (λ recorded.
        boxes b.context.limit around.exits (parameters required rest) body recorded (λ ready.
        sooner (k.values ws ready)
        (b.within (form body) (with_variables (parameters required rest) ready env) around (with_values ws ready))))))))
        (s program_error_class [] around z)

    pub applies : (i : ℕ) (called : Option Called) (vs : List Value)
        → Both b (λ context. apply_procedure context (wrong context) i called vs)
    applies i called vs around z =
        descends b.within around z (λ entered.
        some _ (λ a y. given a.exits nil y (k.none y))
        (λ (p : Procedure). enters p.required p.rest p.body (record no_environment { method = called }) called vs) around entered)

    pub closure_applies : (required : List ℕ) (rest : Option ℕ) (body : Form) (env : Environment) (vs : List Value)
        → Both b (λ context. apply_closure context (wrong context) required rest body env vs)
    closure_applies required rest body env vs around z =
        descends b.within around z (λ entered. enters required rest body env None vs around entered)

    pub method_applies : (i : ℕ) (called : Called)
        → Both b (λ context. apply_method context (wrong context) i called)
    method_applies i called = applies i (Some called) called.arguments

    pub each_applies : (ms : List ℕ) (vs : List Value)
        → Both b (λ context. apply_each context (wrong context) ms vs)
    each_applies [] vs around z = given around.exits nil z (k.none z)
    each_applies (m ∷ ms) vs around z =
        on (applies m None vs around z) (λ v after. each_applies ms vs around after)

    primary_runs : (c : Chain) (ps : List ℕ) (vs : List Value)
        → Both b (λ context. run_primary context (wrong context) c ps vs)
    primary_runs c [] vs around z = s control_error_class [] around z
    primary_runs c (p ∷ ps) vs around z =
        on (each_applies c.before vs around z) (λ ignored before.
        on (method_applies p (record { arguments = vs; rest = record { around = []; before = []; primary = ps; after = [] } }) around before) (λ v primary.
        on (each_applies c.after vs around primary) (λ ignored after.
        given around.exits v after (k.none after))))

    around_runs : (c : Chain) (ms : List ℕ) (vs : List Value)
        → Both b (λ context. run_around context (wrong context) c ms vs)
    around_runs c [] vs around z = primary_runs c c.primary vs around z
    around_runs c (m ∷ ms) vs around z = method_applies m (record { arguments = vs; rest = record c { around = ms } }) around z

    pub chain_runs : (c : Chain) (vs : List Value)
        → Both b (λ context. run_chain context (wrong context) c vs)
    chain_runs c vs around z = around_runs c c.around vs around z

    pub undefined : (name : List ℕ)
        → Both b (λ context. undefined_function (wrong context) name)
    undefined name around z = s undefined_function_class (symbol (named name) ∷ []) around z

    chain_applies : (g : GenericRow) (c : Option Chain) (vs : List Value)
        → Both b (λ context. apply_chain context (wrong context) g c vs)
    chain_applies g None vs around z = undefined (text b.context.names g.name.0) around z
    chain_applies g (Some c) vs around z =
        descends b.within around z (λ entered.
        framed b.context.limit (16 + length vs) entered (λ inner.
        charges (length vs) inner (b.within (methods c vs) no_environment around (charged (length vs) inner))))

    generic_row_applies : (g : Option GenericRow) (vs : List Value)
        → Both b (λ context. apply_generic_row context (wrong context) g vs)
    generic_row_applies None vs around z = given around.exits nil z (k.none z)
    generic_row_applies (Some g) vs around z =
        tests (takes g.required g.rest (length vs))
        (chain_applies g (chain b.context.program g (map (class_of z) (take g.required vs))) vs around z)
        (s program_error_class [] around z)

    pub generic_applies : (i : ℕ) (vs : List Value)
        → Both b (λ context. apply_generic context (wrong context) i vs)
    generic_applies i vs around z = generic_row_applies (slice_get b.context.program.generics i) vs around z

    object_applies : (o : Option Object) (f : Value) (vs : List Value)
        → Both b (λ context. apply_object context (wrong context) o f vs)
    object_applies (Some (function p)) f vs around z = applies p None vs around z
    object_applies (Some (closure required rest body env)) f vs around z = closure_applies required rest body env vs around z
    object_applies (Some (generic_function g)) f vs around z = generic_applies g vs around z
    object_applies (Some (cons a d)) f vs around z = s _ _ around z
    object_applies (Some (string bytes)) f vs around z = s _ _ around z
    object_applies (Some (vector us)) f vs around z = s _ _ around z
    object_applies (Some (instance c us mark)) f vs around z = s _ _ around z
    object_applies (Some (class_object c)) f vs around z = s _ _ around z
    object_applies (Some input_stream) f vs around z = s _ _ around z
    object_applies (Some output_stream) f vs around z = s _ _ around z
    object_applies (Some (fresh_symbol n)) f vs around z = s _ _ around z
    object_applies None f vs around z = s _ _ around z

    pub value_applies : (f : Value) (vs : List Value)
        → Both b (λ context. apply_value context (wrong context) f vs)
    value_applies f vs around z = object_applies (fetch z f) f vs around z

    callee_applies : (c : Callee) (vs : List Value)
        → Both b (λ context. apply_callee context (wrong context) c vs)
    callee_applies (callee.Procedure p) vs around z = applies p None vs around z
    callee_applies (callee.Generic g) vs around z = generic_applies g vs around z

    pub row_applies : (name : List ℕ) (row : Option FunctionRow) (vs : List Value)
        → Both b (λ context. apply_row context (wrong context) name row vs)
    row_applies name None vs around z = undefined name around z
    row_applies name (Some f) vs around z = callee_applies f.callee vs around z

  pub conditions : (exits : List Exit) (class : ℕ) (slots : List Value) (z : State) {next next' : Value → State → Evaluated}
      → Continues R k exits next next'
      → Extends R k exits z (new_condition b.context class slots z next) (new_condition (second b) class slots z next')
  conditions exits class slots z c = made b.context.limit _ 0 _ z c

  marks : (c mark : Value) (z : State) → R z (marked c mark z)
  marks c mark z = by c (fetch z c)
    where
      by : (v : Value) (o : Option Object) → R z (marked_at v mark o z)
      by (object i) (Some (instance class slots old)) = k.change i (instance class slots mark) z
      by v o = k.none z

  -- the signals under handlers, from the outermost handler on
  pub signals_under : (hs : List Value) (c mark : Value)
      → Both b (λ context. signal_under context hs c mark)
  signals_under [] c mark around z =
      itself around.exits (leaves 0 c (at_site around.site) (exit_made (marked c mark z)))
      (k.both (marks c mark z) (k.exit (marked c mark z))) (inl refl)
  signals_under (h ∷ hs) c mark around z =
      catches z.exits (signal_exit c mark)
      (sooner (k.both (marks c mark z) (k.exit (marked c mark z)))
      (charges 1 (exit_made (marked c mark z))
      (on
      (value_applies (λ context class slots inner y. new_condition context class slots y (λ e after. signal_under context hs e nil inner after))
      (λ class slots inner y. conditions inner.exits class slots y (λ e after. signals_under hs e nil inner after))
      h (c ∷ []) (record (inside (signal_exit c mark) around z) { handlers = hs }) (charged 1 (exit_made (marked c mark z))))
      (λ v after. conditions _ control_error_class [] after
      (λ e made. signals_under hs e nil (record (inside (signal_exit c mark) around z) { handlers = hs }) made)))))

  pub signals : Signs signal
  signals class slots around z =
      conditions around.exits class slots z (λ c made. signals_under around.handlers c nil around made)

  -- transfers
  exit_left : (p : Exit → Bool) (go go' : Exit → Act)
      → ((x : Exit) (around : DynamicContext) (z : State) → IsExitOf x.number around.exits → Extends R k around.exits z (go x around z) (go' x around z))
      → Acts R k (to_exit b.context p go) (to_exit (second b) p go')
  exit_left p go go' f around z =
      exit_searches around.exits p (λ x i y. f x around y i) (λ y. signals control_error_class [] around y) around.exits (λ e i. i) z

  leaving : (x : Exit) (v : Value) (landing : Landing) (around : DynamicContext) (z : State) → IsExitOf x.number around.exits
      → Extends R k around.exits z (leaves x.number v landing z) (leaves x.number v landing z)
  leaving x v landing around z i = itself around.exits (leaves x.number v landing z) (k.none z) (inr i)

  pub transfers : (e : Option ℕ) (v : Value) (landing : Landing)
      → Both b (λ context. transfer context e v landing)
  transfers None v landing around z = signals control_error_class [] around z
  transfers (Some e) v landing around z = exit_left _ _ _ (λ x a y i. leaving x v landing a y i) around z

  pub throws : (tag v : Value) → Both b (λ context. throw_to context tag v)
  throws tag v around z = exit_left (λ x. is_catch tag x.kind) _ _ (λ x a y i. leaving x v (at_segment 0) a y i) around z

  pub continues : (c v : Value) → Both b (λ context. continue_with context c v)
  continues c v around z =
      exit_left (λ x. is_signal c x.kind) _ _
      (λ x a y i. tests (is_continuable x.kind) (leaving x v (at_segment 0) a y i) (signals control_error_class [] a y))
      around z
