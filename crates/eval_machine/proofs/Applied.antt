-- Applications, methods, signals and transfers: the machine comes to what they come to, where it does so for what is evaluated one
-- level below. An application's own failure is signalled under the handlers around.
use Rattle.std.proofs.Common.{◌≡◌, ℕ, zero, suc, ◌+◌, Bool, true, false, List, [], ◌∷◌, Option, Some, None, sym, subst}
use Rattle.std.specs.Prelude.{⊤, if◌then◌else◌, length, take, drop, map, slice_get, is_some}
use Rattle.lang_meaning.specs.declared.program.GenericRow.{GenericRow}
use Rattle.lang_meaning.specs.declared.program.FunctionRow.{FunctionRow}
use Rattle.lang_meaning.specs.declared.program.Callee.{Callee}
use Rattle.lang_meaning.specs.declared.program.Callee.TheVariants as callee
use Rattle.lang_meaning.specs.Counts.{application_words}
use Rattle.lang_meaning.specs.Values.{Value, nil, symbol, named}
use Rattle.lang_meaning.specs.Objects.{Chain, Called, Object, cons, string, vector, instance, function, closure, generic_function, class_object, input_stream, output_stream, fresh_symbol, function_class, control_error_class, program_error_class, domain_error_class, undefined_function_class}
use Rattle.lang_meaning.specs.InitialHeap.{class_value}
use Rattle.lang_meaning.specs.State.{DynamicContext, value, Exit, signal_exit, Landing, at_segment}
use Rattle.lang_meaning.specs.Lookup.{text}
use Rattle.lang_meaning.specs.Classes.{class_of, fetch, chain}
use Rattle.lang_meaning.specs.Primitives.{Answer, result, makes, makes_symbol, fails, domain_error}
use Rattle.lang_meaning.specs.Signals.{takes, is_continuable}
use Rattle.flat_language.specs.declared.program.FlatProcedure.{FlatProcedure}
use Rattle.flat_language.specs.FlatForm.{FlatForm, FlatForms}
use Rattle.flat_language.specs.FlatNodes.{tables, homes, nodes}
use Rattle.flat_language.specs.FlatState.{Captured, FlatEnvironment, no_environment, FlatState, FlatEvaluated, FlatAct, gives, leaves, go_on, charged, captured_by, with_slots, with_stack, in_own_frame}
use Rattle.flat_language.specs.FlatSignals.{FlatContext, FlatTask, nothing, form, turn, methods, FlatEvaluation, FlatSignals, inside, marked, gathered, new_condition, signal_under, signal}
use Rattle.flat_language.specs.FlatSignals as flat
use Rattle.flat_language.specs.FlatMeaning.{none_below, context_of, flat_meaning_at}
use Rattle.eval_machine.specs.Configuration.{Setting, Situation, ContinuationFrame, Configuration, Transition, evaluate, signals, kept, method_value, before_methods, primary_method, awaits, restores_stack, restores_slots, configuration, ended, then_on, some_or}
use Rattle.eval_machine.specs.Applications.{rest_listed, variable_values, signal_class, signal_domain, enter, apply_procedure, apply_function, apply_each, run_primary, run_around, run_chain, apply_chain, apply_generic, apply_object, apply_value, apply_callee, apply_row, answered, to_exit, transfer, throw_to, continue_with}
use Rattle.eval_machine.specs.Step.{segments_step}
use Rattle.eval_machine.proofs.Reach.{ReachesOutcome, here, after_step, on, catching, either, stack_left, slots_left, asks, makes as makes_object, lists, records, boxes, searching, some}

-- the meaning one level below, and a context with so many levels below
abbrev pub below_at : Setting → ℕ → FlatTask → FlatEvaluation
below_at s zero = none_below
below_at s (suc k) = flat_meaning_at s.names s.program s.limit k

abbrev pub context_at : Setting → ℕ → FlatContext
context_at s l = context_of s.names s.program s.limit (below_at s l)

abbrev pub situation : ℕ → FlatEnvironment → DynamicContext → Situation
situation k env around = record { level = k; environment = env; around = around }

-- the machine comes to what the tasks of a level come to
pub record TasksCome (s : Setting) (k : ℕ) : Type 0 where
  pub nothing_comes : (around : DynamicContext) (z : FlatState) → flat_meaning_at s.names s.program s.limit k nothing no_environment around z ≡ gives nil z
  pub form_comes : (f : FlatForm) (env : FlatEnvironment) (around : DynamicContext) (frames : List ContinuationFrame) (z : FlatState)
      → ReachesOutcome s (configuration (evaluate f (situation k env around)) frames z) (flat_meaning_at s.names s.program s.limit k (form f) env around z) frames
  pub turn_comes : (e : ℕ) (left all : FlatForms) (env : FlatEnvironment) (around : DynamicContext) (frames : List ContinuationFrame) (z : FlatState)
      → ReachesOutcome s (segments_step s e left all (situation k env around) frames z) (flat_meaning_at s.names s.program s.limit k (turn e left all) env around z) frames
  pub methods_come : (c : Chain) (vs : List Value) (around : DynamicContext) (frames : List ContinuationFrame) (z : FlatState)
      → ReachesOutcome s (run_chain s c vs k around frames z) (flat_meaning_at s.names s.program s.limit k (methods c vs) no_environment around z) frames

-- and one level below
abbrev pub LowerCome : Setting → ℕ → Type 0
LowerCome s zero = ⊤
LowerCome s (suc k) = TasksCome s k

-- it comes to what a way of signalling comes to
abbrev pub SignalsCome : Setting → ℕ → FlatSignals → DynamicContext → Type 0
SignalsCome s l wrong around =
    (class : ℕ) (slots : List Value) (frames : List ContinuationFrame) (z : FlatState)
    → ReachesOutcome s (signal_class s class slots l around frames z) (wrong class slots around z) frames

module _ (s : Setting) where
  -- a level is there
  descends : (k : ℕ) → TasksCome s k → {m : Configuration} (follow : FlatState → FlatEvaluated) (around : DynamicContext) {frames : List ContinuationFrame} (z : FlatState)
      → ReachesOutcome s m (follow z) frames → ReachesOutcome s m (flat.descend (flat_meaning_at s.names s.program s.limit k) follow around z) frames
  descends k t {m} follow around {frames} z x =
      subst (λ r. ReachesOutcome s m (go_on r (λ v after. follow after)) frames) (sym (t.nothing_comes around z)) x

  -- the values of the variables
  gathers : (required : ℕ) (rest : Bool) (vs : List Value) (z : FlatState) {frames : List ContinuationFrame} (ahead : Value → FlatState → Configuration) (follow : List Value → FlatState → FlatEvaluated)
      → ((v : Value) (y : FlatState) → ReachesOutcome s (ahead v y) (follow (variable_values required rest vs v) y) frames)
      → ReachesOutcome s (then_on (rest_listed s.limit required rest vs z) frames ahead) (gathered s.limit required rest vs z follow) frames
  gathers required false vs z ahead follow c = c nil z
  gathers required true vs z ahead follow c = lists s s.limit (drop required vs) z ahead c

  -- a procedure is entered: what its body comes to, when the arguments are gathered, and from when there are words for its frame
  abbrev prepared : ℕ → FlatProcedure → List Captured → Option Called → DynamicContext → List Value → FlatState → FlatEvaluated
  prepared k p captured called around ws gone =
      flat.with_record s.limit called p.keeps_method gone (λ noted.
      flat.with_boxes s.limit (homes p) noted (λ ready.
      in_own_frame (λ inner.
      flat_meaning_at s.names s.program s.limit k (form p.body) (record no_environment { captured = captured; method = called }) around (with_slots (homes p) ws inner))
      ready))

  abbrev framed : ℕ → FlatProcedure → List Captured → Option Called → DynamicContext → List Value → (stack : ℕ) → FlatState → FlatEvaluated
  framed k p captured called around vs stack inner =
      with_stack stack (gathered s.limit (length p.required) (is_some p.rest) vs (charged (length vs) inner) (prepared k p captured called around))

  enters : (k : ℕ) → TasksCome s k → (wrong : FlatSignals) (around : DynamicContext) → SignalsCome s (suc k) wrong around
      → (p : FlatProcedure) (captured : List Captured) (called : Option Called) (vs : List Value) (frames : List ContinuationFrame) (z : FlatState)
      → ReachesOutcome s (enter s p captured called vs k around frames z) (flat.enter (context_at s (suc k)) wrong p captured called vs around z) frames
  enters k t wrong around w p captured called vs frames z =
      either s (takes (length p.required) (is_some p.rest) (length vs))
      (asks s s.limit 0 (application_words (nodes p.body) + length vs) z _ {follow = framed k p captured called around vs z.state.stack} (λ ignored inner.
      stack_left s (gathers (length p.required) (is_some p.rest) vs (charged (length vs) inner) _ (prepared k p captured called around) (λ tail gone.
      records s s.limit called p.keeps_method gone _ (λ nothing noted.
      boxes s s.limit (homes p) noted _ (λ none ready.
      slots_left s (t.form_comes p.body (record no_environment { captured = captured; method = called }) around (restores_slots ready.frame ∷ restores_stack z.state.stack ∷ frames)
      (with_slots (homes p) (variable_values (length p.required) (is_some p.rest) vs tail) (record ready { frame = [] })))))))))
      (w program_error_class [] frames z)

  -- a procedure by its number, and a function that a form made
  procedures : (l : ℕ) → LowerCome s l → (wrong : FlatSignals) (around : DynamicContext) → SignalsCome s l wrong around
      → (i : ℕ) (called : Option Called) (vs : List Value) (frames : List ContinuationFrame) (z : FlatState)
      → ReachesOutcome s (apply_procedure s i called vs l around frames z) (flat.apply_procedure (context_at s l) wrong i called vs around z) frames
  procedures zero t wrong around w i called vs frames z = here s
  procedures (suc k) t wrong around w i called vs frames z =
      descends k t _ around z (some s (slice_get s.program.procedures i) _ _ (λ a y. gives nil y) (λ p. flat.enter (context_at s (suc k)) wrong p [] called vs)
      (here s) (λ p. enters k t wrong around w p [] called vs frames z))

  functions : (l : ℕ) → LowerCome s l → (wrong : FlatSignals) (around : DynamicContext) → SignalsCome s l wrong around
      → (i : ℕ) (captured : List Captured) (vs : List Value) (frames : List ContinuationFrame) (z : FlatState)
      → ReachesOutcome s (apply_function s i captured vs l around frames z) (flat.apply_function (context_at s l) wrong i captured vs around z) frames
  functions zero t wrong around w i captured vs frames z = here s
  functions (suc k) t wrong around w i captured vs frames z =
      descends k t _ around z (some s (slice_get s.program.lambdas i) _ _ (λ a y. gives nil y) (λ p. flat.enter (context_at s (suc k)) wrong p captured None vs)
      (here s) (λ p. enters k t wrong around w p captured None vs frames z))

  -- generic functions: a chain with enough words
  chained : (l : ℕ) → LowerCome s l → (wrong : FlatSignals) (around : DynamicContext) → SignalsCome s l wrong around
      → (g : GenericRow) (c : Option Chain) (vs : List Value) (frames : List ContinuationFrame) (z : FlatState)
      → ReachesOutcome s (apply_chain s g c vs l around frames z) (flat.apply_chain (context_at s l) wrong g c vs around z) frames
  chained l t wrong around w g None vs frames z = w undefined_function_class (symbol (named (text s.names g.name.0)) ∷ []) frames z
  chained zero t wrong around w g (Some c) vs frames z = here s
  chained (suc k) t wrong around w g (Some c) vs frames z =
      descends k t _ around z
      (asks s s.limit 0 (16 + length vs) z _
      {follow = λ inner. with_stack z.state.stack (flat_meaning_at s.names s.program s.limit k (methods c vs) no_environment around (charged (length vs) inner))} (λ ignored inner.
      stack_left s (t.methods_come c vs around (restores_stack z.state.stack ∷ frames) (charged (length vs) inner))))

  -- at a level, with what is signalled where an application fails
  module _ (l : ℕ) (t : LowerCome s l) (wrong : FlatSignals) (around : DynamicContext) (w : SignalsCome s l wrong around) where
    generics : (i : ℕ) (vs : List Value) (frames : List ContinuationFrame) (z : FlatState)
        → ReachesOutcome s (apply_generic s i vs l around frames z) (flat.apply_generic (context_at s l) wrong i vs around z) frames
    generics i vs frames z = row (slice_get s.program.generics i)
      where
        row : (o : Option GenericRow)
            → ReachesOutcome s (some_or o (λ inner y. ended (gives nil y) inner) (λ g inner y.
            if takes g.required g.rest (length vs) then
            apply_chain s g (chain (tables s.program) g (map (class_of y.state) (take g.required vs))) vs l around inner y
            else signal_class s program_error_class [] l around inner y) frames z) (flat.apply_generic_row (context_at s l) wrong o vs around z) frames
        row None = here s
        row (Some g) =
            either s (takes g.required g.rest (length vs))
            (chained l t wrong around w g (chain (tables s.program) g (map (class_of z.state) (take g.required vs))) vs frames z)
            (w program_error_class [] frames z)

    pub domains : (v : Value) (expected : ℕ) (frames : List ContinuationFrame) (z : FlatState)
        → ReachesOutcome s (signal_domain s v expected l around frames z) (flat.signal_domain_error (context_at s l) wrong v expected around z) frames
    domains v expected frames z = w domain_error_class (v ∷ class_value s.names (tables s.program) expected ∷ []) frames z

    objects : (o : Option Object) (captured : Option (List Captured)) (f : Value) (vs : List Value) (frames : List ContinuationFrame) (z : FlatState)
        → ReachesOutcome s (apply_object s o captured f vs l around frames z) (flat.apply_object (context_at s l) wrong o captured f vs around z) frames
    objects (Some (function p)) None f vs frames z = procedures l t wrong around w p None vs frames z
    objects (Some (function p)) (Some captured) f vs frames z = functions l t wrong around w p captured vs frames z
    objects (Some (generic_function g)) captured f vs frames z = generics g vs frames z
    objects (Some (cons a d)) captured f vs frames z = domains f function_class frames z
    objects (Some (string bytes)) captured f vs frames z = domains f function_class frames z
    objects (Some (vector us)) captured f vs frames z = domains f function_class frames z
    objects (Some (instance class slots mark)) captured f vs frames z = domains f function_class frames z
    objects (Some (closure required rest body env)) captured f vs frames z = domains f function_class frames z
    objects (Some (class_object c)) captured f vs frames z = domains f function_class frames z
    objects (Some input_stream) captured f vs frames z = domains f function_class frames z
    objects (Some output_stream) captured f vs frames z = domains f function_class frames z
    objects (Some (fresh_symbol n)) captured f vs frames z = domains f function_class frames z
    objects None captured f vs frames z = domains f function_class frames z

    pub values_apply : (f : Value) (vs : List Value) (frames : List ContinuationFrame) (z : FlatState)
        → ReachesOutcome s (apply_value s f vs l around frames z) (flat.apply_value (context_at s l) wrong f vs around z) frames
    values_apply f vs frames z = objects (fetch z.state f) (captured_by f z) f vs frames z

    callees : (c : Callee) (vs : List Value) (frames : List ContinuationFrame) (z : FlatState)
        → ReachesOutcome s (apply_callee s c vs l around frames z) (flat.apply_callee (context_at s l) wrong c vs around z) frames
    callees (callee.Procedure p) vs frames z = procedures l t wrong around w p None vs frames z
    callees (callee.Generic g) vs frames z = generics g vs frames z

    pub rows_apply : (name : List ℕ) (f : Option FunctionRow) (vs : List Value) (frames : List ContinuationFrame) (z : FlatState)
        → ReachesOutcome s (apply_row s name f vs l around frames z) (flat.apply_row (context_at s l) wrong name f vs around z) frames
    rows_apply name None vs frames z = w undefined_function_class (symbol (named name) ∷ []) frames z
    rows_apply name (Some f) vs frames z = callees f.callee vs frames z

    -- the methods of a chain
    each : (ms : List ℕ) (vs : List Value) (frames : List ContinuationFrame) (z : FlatState)
        → ReachesOutcome s (apply_each s ms vs l around frames z) (flat.apply_each (context_at s l) wrong ms vs around z) frames
    each [] vs frames z = here s
    each (m ∷ ms) vs frames z =
        on s (procedures l t wrong around w m None vs (awaits (method_value ms vs l around) ∷ frames) z) (λ v after. each ms vs frames after)

    primaries : (c : Chain) (ps : List ℕ) (vs : List Value) (frames : List ContinuationFrame) (z : FlatState)
        → ReachesOutcome s (run_primary s c ps vs l around frames z) (flat.run_primary (context_at s l) wrong c ps vs around z) frames
    primaries c [] vs frames z = w control_error_class [] frames z
    primaries c (p ∷ ps) vs frames z =
        on s (each c.before vs (awaits (before_methods c p ps vs l around) ∷ frames) z) (λ ignored before.
        on s (procedures l t wrong around w p (Some (record { arguments = vs; rest = record { around = []; before = []; primary = ps; after = [] } })) vs
        (awaits (primary_method c.after vs l around) ∷ frames) before) (λ v primary.
        on s (each c.after vs (awaits (kept (value v)) ∷ frames) primary) (λ unused after. here s)))

    arounds : (c : Chain) (ms : List ℕ) (vs : List Value) (frames : List ContinuationFrame) (z : FlatState)
        → ReachesOutcome s (run_around s c ms vs l around frames z) (flat.run_around (context_at s l) wrong c ms vs around z) frames
    arounds c [] vs frames z = primaries c c.primary vs frames z
    arounds c (m ∷ ms) vs frames z = procedures l t wrong around w m (Some (record { arguments = vs; rest = record c { around = ms } })) vs frames z

    pub chains : (c : Chain) (vs : List Value) (frames : List ContinuationFrame) (z : FlatState)
        → ReachesOutcome s (run_chain s c vs l around frames z) (flat.run_chain (context_at s l) wrong c vs around z) frames
    chains c vs frames z = arounds c c.around vs frames z

  -- signals and transfers, at a level
  module _ (l : ℕ) (t : LowerCome s l) where
    -- how a handler's own application signals: under the handlers outside it
    abbrev outside : List Value → FlatSignals
    outside hs class slots inner y = new_condition (context_at s l) class slots y (λ e after. signal_under (context_at s l) hs e nil inner after)

    -- under handlers, which are those around
    pub under : (hs : List Value) (c mark : Value) (around : DynamicContext) (frames : List ContinuationFrame) (z : FlatState)
        → ReachesOutcome s (configuration (signals c mark l (record around { handlers = hs })) frames z) (signal_under (context_at s l) hs c mark (record around { handlers = hs }) z) frames
    under [] c mark around frames z = after_step s (here s)
    under (h ∷ hs) c mark around frames z =
        let within : DynamicContext = record (inside (signal_exit c mark) around z) { handlers = hs } in
        let w : SignalsCome s l (outside hs) within =
        (λ class slots outer y. makes_object s s.limit _ 0 _ y _ (λ e after. under hs e nil within outer after)) in
        after_step s (catching s (on s (values_apply l t (outside hs) within w h (c ∷ []) _ _) (λ v after. w control_error_class [] _ after)))

    pub signals_come : (around : DynamicContext) → SignalsCome s l (signal (context_at s l)) around
    signals_come around class slots frames z = makes_object s s.limit _ 0 _ z _ (λ c after. under around.handlers c nil around frames after)

    -- the answer of a primitive
    pub answers : (around : DynamicContext) (a : Answer) (frames : List ContinuationFrame) (z : FlatState)
        → ReachesOutcome s (answered s a l around frames z) (flat.answered (context_at s l) a around z) frames
    answers around (result v x) frames z = here s
    answers around (makes size besides o x) frames z = here s
    answers around (makes_symbol x) frames z = makes_object s s.limit 2 0 (fresh_symbol x.symbols) (record z { state = x }) _ (λ v after. here s)
    answers around (fails class slots x) frames z = signals_come around class slots frames (record z { state = x })
    answers around (domain_error v expected x) frames z =
        domains l t (signal (context_at s l)) around (signals_come around) v expected frames (record z { state = x })

    -- transfers
    exits_searched : (around : DynamicContext) (p : Exit → Bool) (ahead : Exit → Transition) (go : Exit → FlatAct) (frames : List ContinuationFrame)
        → ((x : Exit) (y : FlatState) → ReachesOutcome s (ahead x frames y) (go x around y) frames) → (z : FlatState)
        → ReachesOutcome s (to_exit s p ahead l around frames z) (flat.to_exit (context_at s l) p go around z) frames
    exits_searched around p ahead go frames c z =
        searching s p ahead _ (λ x y. c x y) (λ y. signals_come around control_error_class [] frames y) around.exits z

    pub transfers : (around : DynamicContext) (o : Option ℕ) (v : Value) (landing : Landing) (frames : List ContinuationFrame) (z : FlatState)
        → ReachesOutcome s (transfer s o v landing l around frames z) (flat.transfer (context_at s l) o v landing around z) frames
    transfers around None v landing frames z = signals_come around control_error_class [] frames z
    transfers around (Some e) v landing frames z = exits_searched around _ _ _ frames (λ x y. here s) z

    pub throws : (around : DynamicContext) (tag v : Value) (frames : List ContinuationFrame) (z : FlatState)
        → ReachesOutcome s (throw_to s tag v l around frames z) (flat.throw_to (context_at s l) tag v around z) frames
    throws around tag v frames z = exits_searched around _ _ _ frames (λ x y. here s) z

    pub continues : (around : DynamicContext) (c v : Value) (frames : List ContinuationFrame) (z : FlatState)
        → ReachesOutcome s (continue_with s c v l around frames z) (flat.continue_with (context_at s l) c v around z) frames
    continues around c v frames z =
        exits_searched around _ _
        (λ x inner y. if is_continuable x.kind then leaves x.number v (at_segment 0) y else signal (context_at s l) control_error_class [] inner y)
        frames (λ x y. either s (is_continuable x.kind) (here s) (signals_come around control_error_class [] frames y)) z
