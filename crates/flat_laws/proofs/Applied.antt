-- What applications, signals and transfers of flat programs come to, over the meaning one level below.
use Rattle.std.proofs.Common.{◌≡◌, ℕ, ◌+◌, Bool, true, false, List, [], ◌∷◌, ◌++◌, refl, ap, inl, inr, Option, Some, None, length, map, take, drop}
use Rattle.std.specs.Prelude.{is_some, slice_get}
use Rattle.lang_meaning.specs.declared.program.GenericRow.{GenericRow}
use Rattle.lang_meaning.specs.declared.program.FunctionRow.{FunctionRow}
use Rattle.lang_meaning.specs.declared.program.Callee.{Callee}
use Rattle.lang_meaning.specs.declared.program.Callee.TheVariants as callee
use Rattle.lang_meaning.specs.Laws.{IsExitOf}
use Rattle.lang_meaning.specs.Counts.{application_words}
use Rattle.lang_meaning.specs.Values.{Value, symbol, named, nil, object}
use Rattle.lang_meaning.specs.Objects.{Chain, Called, Object, cons, instance, function, generic_function, control_error_class, program_error_class, undefined_function_class}
use Rattle.lang_meaning.specs.State.{DynamicContext, Exit, signal_exit, Landing, at_segment, at_site, Limit}
use Rattle.lang_meaning.specs.Lookup.{text}
use Rattle.lang_meaning.specs.Classes.{class_of, fetch, chain}
use Rattle.lang_meaning.specs.Signals.{takes, marked_at, is_catch, is_signal, is_continuable}
use Rattle.flat_language.specs.declared.place.Home.{Home}
use Rattle.flat_language.specs.declared.place.Home.TheVariants.{Slot, Boxed}
use Rattle.flat_language.specs.declared.program.FlatProcedure.{FlatProcedure}
use Rattle.flat_language.specs.FlatNodes.{tables, homes, nodes}
use Rattle.flat_language.specs.FlatState.{Captured, no_environment, FlatState, FlatEvaluated, FlatAct, on_state, captured_by, leaves, exit_made, charged}
use Rattle.flat_language.specs.FlatSignals.{FlatContext, FlatTask, nothing, form, methods, FlatEvaluation, FlatSignals, descend, make_list, gathered, with_boxes, with_record, inside, marked, search, undefined_function, signal_domain_error, enter, apply_procedure, apply_function, apply_method, apply_each, run_primary, run_around, run_chain, apply_chain, apply_generic_row, apply_generic, apply_object, apply_value, apply_callee, apply_row, new_condition, signal_under, signal, to_exit, transfer, throw_to, continue_with}
use Rattle.flat_laws.specs.Blanks.{blank}
use Rattle.flat_laws.proofs.Steps.{IsKeptByFlatRules}
use Rattle.flat_laws.proofs.Combined.{ComesTo, Continues, Follows, Acts, Tasks, itself, given, sooner, on, tests, catches, some, requests, charges, made, framed, own_slots_left}

module _ {R : FlatState → FlatState → Type 0} {k : IsKeptByFlatRules R} where
  pub descends : {below : FlatTask → FlatEvaluation} → Tasks R k below → (around : DynamicContext) (z : FlatState) {next : FlatState → FlatEvaluated}
      → Follows R k around.exits next → ComesTo R k around.exits z (descend below next around z)
  descends w around z c = on (w nothing no_environment around z) (λ v after. c after)

  pub lists : (limit : Limit) (exits : List Exit) (vs : List Value) (z : FlatState) {next : Value → FlatState → FlatEvaluated}
      → Continues R k exits next → ComesTo R k exits z (make_list limit vs z next)
  lists limit exits [] z c = c nil z
  lists limit exits (v ∷ vs) z c = lists limit exits vs z (λ tail after. made limit 2 0 (cons v tail) after c)

  pub gathers : (limit : Limit) (exits : List Exit) (required : ℕ) (rest : Bool) (vs : List Value) (z : FlatState)
      {next : List Value → FlatState → FlatEvaluated}
      → ((ws : List Value) → Follows R k exits (next ws)) → ComesTo R k exits z (gathered limit required rest vs z next)
  gathers limit exits required false vs z c = c vs z
  gathers limit exits required true vs z c =
      lists limit exits (drop required vs) z (λ tail after. c (take required vs ++ tail ∷ []) after)

  pub boxes : (limit : Limit) (exits : List Exit) (hs : List Home) (z : FlatState) {next : FlatState → FlatEvaluated}
      → Follows R k exits next → ComesTo R k exits z (with_boxes limit hs z next)
  boxes limit exits [] z c = c z
  boxes limit exits (Slot ∷ hs) z c = boxes limit exits hs z c
  boxes limit exits (Boxed ∷ hs) z c =
      requests limit 1 z (λ entered. charges 1 entered (boxes limit exits hs (charged 1 entered) c))

  pub records : (limit : Limit) (exits : List Exit) (called : Option Called) (keeps : Bool) (z : FlatState) {next : FlatState → FlatEvaluated}
      → Follows R k exits next → ComesTo R k exits z (with_record limit called keeps z next)
  records limit exits None keeps z c = c z
  records limit exits (Some called) keeps z c =
      tests keeps
      (requests limit (2 + length called.arguments) z (λ entered.
      charges (2 + length called.arguments) entered (c (charged (2 + length called.arguments) entered))))
      (c z)

  -- a search
  pub searches : {X : Type 0} (exits : List Exit) (p : X → Bool) {found : X → FlatState → FlatEvaluated} {otherwise : FlatState → FlatEvaluated}
      → ((x : X) → Follows R k exits (found x)) → Follows R k exits otherwise
      → (xs : List X) (z : FlatState) → ComesTo R k exits z (search p found otherwise xs z)
  searches exits p f o [] z = o z
  searches exits p f o (x ∷ xs) z =
      tests (p x)
      (charges 1 z (f x (charged 1 z)))
      (charges 1 z (searches exits p f o xs (charged 1 z)))

  pub exit_searches : (exits : List Exit) (p : Exit → Bool) {found : Exit → FlatState → FlatEvaluated} {otherwise : FlatState → FlatEvaluated}
      → ((x : Exit) → IsExitOf x.number exits → Follows R k exits (found x)) → Follows R k exits otherwise
      → (xs : List Exit) → ((e : ℕ) → IsExitOf e xs → IsExitOf e exits) → (z : FlatState)
      → ComesTo R k exits z (search p found otherwise xs z)
  exit_searches exits p f o [] h z = o z
  exit_searches exits p f o (x ∷ xs) h z =
      tests (p x)
      (charges 1 z (f x (h x.number (inl refl)) (charged 1 z)))
      (charges 1 z (exit_searches exits p f o xs (λ e i. h e (inr i)) (charged 1 z)))

module _ {R : FlatState → FlatState → Type 0} {k : IsKeptByFlatRules R} (context : FlatContext) (w : Tasks R k context.below) where
  -- how conditions are signalled
  abbrev pub Signs : FlatSignals → Type 0
  Signs wrong = (class : ℕ) (slots : List Value) → Acts R k (wrong class slots)

  module _ (wrong : FlatSignals) (s : Signs wrong) where
    pub domain_signals : (v : Value) (expected : ℕ) → Acts R k (signal_domain_error context wrong v expected)
    domain_signals v expected around z = s _ _ around z

    pub enters : (p : FlatProcedure) (captured : List Captured) (called : Option Called) (vs : List Value)
        → Acts R k (enter context wrong p captured called vs)
    enters p captured called vs around z =
        tests (takes (length p.required) (is_some p.rest) (length vs))
        (framed context.limit (application_words (nodes p.body) + length vs) z (λ entered.
        charges (length vs) entered
        (gathers context.limit around.exits (length p.required) (is_some p.rest) vs (charged (length vs) entered) (λ ws gone.
        records context.limit around.exits called p.keeps_method gone (λ recorded.
        boxes context.limit around.exits (homes p) recorded (λ ready.
        own_slots_left (homes p) ws ready (λ inner.
        w (form p.body) (record no_environment { captured = captured; method = called }) around inner)))))))
        (s program_error_class [] around z)

    pub applies : (i : ℕ) (called : Option Called) (vs : List Value) → Acts R k (apply_procedure context wrong i called vs)
    applies i called vs around z =
        descends w around z (λ entered.
        some _ (λ a y. given a.exits nil y (k.none y)) (λ (p : FlatProcedure). enters p [] called vs) around entered)

    pub function_applies : (i : ℕ) (captured : List Captured) (vs : List Value) → Acts R k (apply_function context wrong i captured vs)
    function_applies i captured vs around z =
        descends w around z (λ entered.
        some _ (λ a y. given a.exits nil y (k.none y)) (λ (p : FlatProcedure). enters p captured None vs) around entered)

    pub method_applies : (i : ℕ) (called : Called) → Acts R k (apply_method context wrong i called)
    method_applies i called = applies i (Some called) called.arguments

    pub each_applies : (ms : List ℕ) (vs : List Value) → Acts R k (apply_each context wrong ms vs)
    each_applies [] vs around z = given around.exits nil z (k.none z)
    each_applies (m ∷ ms) vs around z = on (applies m None vs around z) (λ v after. each_applies ms vs around after)

    pub primary_runs : (c : Chain) (ps : List ℕ) (vs : List Value) → Acts R k (run_primary context wrong c ps vs)
    primary_runs c [] vs around z = s control_error_class [] around z
    primary_runs c (p ∷ ps) vs around z =
        on (each_applies c.before vs around z) (λ ignored before.
        on (method_applies p (record { arguments = vs; rest = record { around = []; before = []; primary = ps; after = [] } }) around before) (λ v primary.
        on (each_applies c.after vs around primary) (λ ignored after.
        given around.exits v after (k.none after))))

    pub around_runs : (c : Chain) (ms : List ℕ) (vs : List Value) → Acts R k (run_around context wrong c ms vs)
    around_runs c [] vs around z = primary_runs c c.primary vs around z
    around_runs c (m ∷ ms) vs around z = method_applies m (record { arguments = vs; rest = record c { around = ms } }) around z

    pub chain_runs : (c : Chain) (vs : List Value) → Acts R k (run_chain context wrong c vs)
    chain_runs c vs around z = around_runs c c.around vs around z

    pub undefined : (name : List ℕ) → Acts R k (undefined_function wrong name)
    undefined name around z = s undefined_function_class (symbol (named name) ∷ []) around z

    pub chain_applies : (g : GenericRow) (c : Option Chain) (vs : List Value) → Acts R k (apply_chain context wrong g c vs)
    chain_applies g None vs around z = undefined (text context.names g.name.0) around z
    chain_applies g (Some c) vs around z =
        descends w around z (λ entered.
        framed context.limit (16 + length vs) entered (λ inner.
        charges (length vs) inner (w (methods c vs) no_environment around (charged (length vs) inner))))

    pub generic_row_applies : (g : Option GenericRow) (vs : List Value) → Acts R k (apply_generic_row context wrong g vs)
    generic_row_applies None vs around z = given around.exits nil z (k.none z)
    generic_row_applies (Some g) vs around z =
        tests (takes g.required g.rest (length vs))
        (chain_applies g (chain (tables context.program) g (map (class_of z.state) (take g.required vs))) vs around z)
        (s program_error_class [] around z)

    pub generic_applies : (i : ℕ) (vs : List Value) → Acts R k (apply_generic context wrong i vs)
    generic_applies i vs around z = generic_row_applies (slice_get context.program.generics i) vs around z

    pub object_applies : (o : Option Object) (captured : Option (List Captured)) (f : Value) (vs : List Value)
        → Acts R k (apply_object context wrong o captured f vs)
    object_applies (Some (function p)) None f vs around z = applies p None vs around z
    object_applies (Some (function p)) (Some captured) f vs around z = function_applies p captured vs around z
    object_applies (Some (generic_function g)) captured f vs around z = generic_applies g vs around z
    object_applies o captured f vs around z = s _ _ around z

    pub value_applies : (f : Value) (vs : List Value) → Acts R k (apply_value context wrong f vs)
    value_applies f vs around z = object_applies (fetch z.state f) (captured_by f z) f vs around z

    pub callee_applies : (c : Callee) (vs : List Value) → Acts R k (apply_callee context wrong c vs)
    callee_applies (callee.Procedure p) vs around z = applies p None vs around z
    callee_applies (callee.Generic g) vs around z = generic_applies g vs around z

    pub row_applies : (name : List ℕ) (row : Option FunctionRow) (vs : List Value) → Acts R k (apply_row context wrong name row vs)
    row_applies name None vs around z = undefined name around z
    row_applies name (Some f) vs around z = callee_applies f.callee vs around z

  pub conditions : (exits : List Exit) (class : ℕ) (slots : List Value) (z : FlatState) {next : Value → FlatState → FlatEvaluated}
      → Continues R k exits next → ComesTo R k exits z (new_condition context class slots z next)
  conditions exits class slots z c = made context.limit _ 0 _ z c

  pub marks : (c mark : Value) (z : FlatState) → R z (marked c mark z)
  marks c mark z = by c (fetch z.state c) refl
    where
      by : (v : Value) (o : Option Object) → fetch z.state v ≡ o → R z (on_state (λ y. marked_at v mark o y) z)
      by (object i) (Some (instance class slots old)) h = k.change i (instance class slots mark) z (ap blank h)
      by v o h = k.none z

  -- the signals under handlers, from the outermost handler on
  pub signals_under : (hs : List Value) (c mark : Value) → Acts R k (signal_under context hs c mark)
  signals_under [] c mark around z =
      itself around.exits (leaves 0 c (at_site around.site) (exit_made (marked c mark z)))
      (k.both (marks c mark z) (k.exit (marked c mark z))) (inl refl)
  signals_under (h ∷ hs) c mark around z =
      catches z.state.exits (signal_exit c mark)
      (sooner (k.both (marks c mark z) (k.exit (marked c mark z)))
      (charges 1 (exit_made (marked c mark z))
      (on
      (value_applies (λ class slots inner y. new_condition context class slots y (λ e after. signal_under context hs e nil inner after))
      (λ class slots inner y. conditions inner.exits class slots y (λ e after. signals_under hs e nil inner after))
      h (c ∷ []) (record (inside (signal_exit c mark) around z) { handlers = hs }) (charged 1 (exit_made (marked c mark z))))
      (λ v after. conditions _ control_error_class [] after
      (λ e made. signals_under hs e nil (record (inside (signal_exit c mark) around z) { handlers = hs }) made)))))

  pub signals : Signs (signal context)
  signals class slots around z =
      conditions around.exits class slots z (λ c made. signals_under around.handlers c nil around made)

  -- transfers
  pub exit_left : (p : Exit → Bool) (go : Exit → FlatAct)
      → ((x : Exit) (around : DynamicContext) (z : FlatState) → IsExitOf x.number around.exits → ComesTo R k around.exits z (go x around z))
      → Acts R k (to_exit context p go)
  exit_left p go f around z =
      exit_searches around.exits p (λ x i y. f x around y i) (λ y. signals control_error_class [] around y) around.exits (λ e i. i) z

  leaving : (x : Exit) (v : Value) (landing : Landing) (around : DynamicContext) (z : FlatState) → IsExitOf x.number around.exits
      → ComesTo R k around.exits z (leaves x.number v landing z)
  leaving x v landing around z i = itself around.exits (leaves x.number v landing z) (k.none z) (inr i)

  pub transfers : (e : Option ℕ) (v : Value) (landing : Landing) → Acts R k (transfer context e v landing)
  transfers None v landing around z = signals control_error_class [] around z
  transfers (Some e) v landing around z = exit_left _ _ (λ x a y i. leaving x v landing a y i) around z

  pub throws : (tag v : Value) → Acts R k (throw_to context tag v)
  throws tag v around z = exit_left (λ x. is_catch tag x.kind) _ (λ x a y i. leaving x v (at_segment 0) a y i) around z

  pub continues : (c v : Value) → Acts R k (continue_with context c v)
  continues c v around z =
      exit_left (λ x. is_signal c x.kind) _
      (λ x a y i. tests (is_continuable x.kind) (leaving x v (at_segment 0) a y i) (signals control_error_class [] a y))
      around z
