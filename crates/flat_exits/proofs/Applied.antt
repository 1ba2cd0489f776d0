-- Applications, signals and transfers, over the meaning one level below.
use Rattle.std.proofs.Common.{ℕ, arith, ◌+◌, Bool, true, false, List, [], ◌∷◌, ◌++◌, Option, Some, None, length, map, take, drop}
use Rattle.std.specs.Prelude.{is_some, slice_get}
use Rattle.lang_meaning.specs.declared.program.GenericRow.{GenericRow}
use Rattle.lang_meaning.specs.declared.program.FunctionRow.{FunctionRow}
use Rattle.lang_meaning.specs.declared.program.Callee.{Callee}
use Rattle.lang_meaning.specs.declared.program.Callee.TheVariants as callee
use Rattle.lang_meaning.specs.Counts.{application_words}
use Rattle.lang_meaning.specs.Values.{Value, symbol, named, nil, object}
use Rattle.lang_meaning.specs.Objects.{Chain, Called, Object, cons, instance, function, generic_function, control_error_class, program_error_class, undefined_function_class}
use Rattle.lang_meaning.specs.State.{DynamicContext, Exit, signal_exit, Landing, at_segment, at_site, Limit}
use Rattle.lang_meaning.specs.Lookup.{text}
use Rattle.lang_meaning.specs.Classes.{class_of, fetch, chain}
use Rattle.lang_meaning.specs.Primitives.{instance_words}
use Rattle.lang_meaning.specs.Signals.{takes, marked_at, is_catch, is_signal, is_continuable}
use Rattle.flat_language.specs.declared.place.Home.{Home}
use Rattle.flat_language.specs.declared.place.Home.TheVariants.{Slot, Boxed}
use Rattle.flat_language.specs.declared.program.FlatProcedure.{FlatProcedure}
use Rattle.flat_language.specs.FlatNodes.{tables, homes, nodes}
use Rattle.flat_language.specs.FlatState.{Captured, no_environment, FlatState, FlatEvaluated, FlatAct, on_state, leaves, with_slots, captured_by, exit_made, charged}
use Rattle.flat_language.specs.FlatSignals.{FlatContext, FlatTask, nothing, form, methods, FlatEvaluation, FlatSignals, descend, make_list, gathered, with_boxes, with_record, inside, marked, search, undefined_function, signal_domain_error, enter, apply_procedure, apply_function, apply_method, apply_each, run_primary, run_around, run_chain, apply_chain, apply_generic_row, apply_generic, apply_object, apply_value, apply_callee, apply_row, new_condition, signal_under, signal, to_exit, transfer, throw_to, continue_with}
use Rattle.flat_exits.specs.Laws.{ExitsArePaid}
use Rattle.flat_exits.proofs.Combined.{ComesTo, Owes, Continues, OwesOn, Follows, Acts, Tasks, unchanged, itself, given, sooner, owes, on, tests, catches, some, requests, charges, made, made_paying, framed, slots_paid, own_slots_left}

pub descends : {below : FlatTask → FlatEvaluation} → Tasks below → (around : DynamicContext) (z : FlatState) {next : FlatState → FlatEvaluated}
    → Follows next → ComesTo z (descend below next around z)
descends w around z c = on (w nothing no_environment around z) (λ v after. c after)

pub lists : (limit : Limit) (vs : List Value) (z : FlatState) {next : Value → FlatState → FlatEvaluated} → Continues next → ComesTo z (make_list limit vs z next)
lists limit [] z c = c nil z
lists limit (v ∷ vs) z c = lists limit vs z (λ tail after. made limit 2 0 (cons v tail) after c)

pub gathers : (limit : Limit) (required : ℕ) (rest : Bool) (vs : List Value) (z : FlatState) {next : List Value → FlatState → FlatEvaluated}
    → ((ws : List Value) → Follows (next ws)) → ComesTo z (gathered limit required rest vs z next)
gathers limit required false vs z c = c vs z
gathers limit required true vs z c = lists limit (drop required vs) z (λ tail after. c (take required vs ++ tail ∷ []) after)

pub boxes : (limit : Limit) (hs : List Home) (z : FlatState) {next : FlatState → FlatEvaluated} → Follows next → ComesTo z (with_boxes limit hs z next)
boxes limit [] z c = c z
boxes limit (Slot ∷ hs) z c = boxes limit hs z c
boxes limit (Boxed ∷ hs) z c = requests limit 1 0 z (λ entered. charges 1 entered (boxes limit hs (charged 1 entered) c))

pub records : (limit : Limit) (called : Option Called) (keeps : Bool) (z : FlatState) {next : FlatState → FlatEvaluated}
    → Follows next → ComesTo z (with_record limit called keeps z next)
records limit None keeps z c = c z
records limit (Some called) keeps z c =
    tests keeps (requests limit (2 + length called.arguments) 0 z (λ entered. charges (2 + length called.arguments) entered (c (charged (2 + length called.arguments) entered)))) (c z)

-- a search
pub searches : {X : Type 0} (p : X → Bool) {found : X → FlatState → FlatEvaluated} {otherwise : FlatState → FlatEvaluated}
    → ((x : X) → Follows (found x)) → Follows otherwise → (xs : List X) (z : FlatState) → ComesTo z (search p found otherwise xs z)
searches p f o [] z = o z
searches p f o (x ∷ xs) z = tests (p x) (charges 1 z (f x (charged 1 z))) (charges 1 z (searches p f o xs (charged 1 z)))

module _ (context : FlatContext) (w : Tasks context.below) where
  -- how conditions are signalled
  abbrev pub Signs : FlatSignals → Type 0
  Signs wrong = (class : ℕ) (slots : List Value) → Acts (wrong class slots)

  module _ (wrong : FlatSignals) (s : Signs wrong) where
    pub domain_signals : (v : Value) (expected : ℕ) → Acts (signal_domain_error context wrong v expected)
    domain_signals v expected around z = s _ _ around z

    pub enters : (p : FlatProcedure) (captured : List Captured) (called : Option Called) (vs : List Value) → Acts (enter context wrong p captured called vs)
    enters p captured called vs around z =
        tests (takes (length p.required) (is_some p.rest) (length vs))
        (framed context.limit (application_words (nodes p.body) + length vs) z (λ entered.
        charges (length vs) entered
        (gathers context.limit (length p.required) (is_some p.rest) vs (charged (length vs) entered) (λ ws gone.
        records context.limit called p.keeps_method gone (λ recorded.
        boxes context.limit (homes p) recorded (λ ready.
        own_slots_left ready (λ inner.
        sooner (slots_paid (homes p) ws inner)
        (w (form p.body) (record no_environment { captured = captured; method = called }) around (with_slots (homes p) ws inner)))))))))
        (s program_error_class [] around z)

    pub applies : (i : ℕ) (called : Option Called) (vs : List Value) → Acts (apply_procedure context wrong i called vs)
    applies i called vs around z =
        descends w around z (λ entered. some _ (λ a y. given nil y (unchanged y)) (λ (p : FlatProcedure). enters p [] called vs) around entered)

    pub function_applies : (i : ℕ) (captured : List Captured) (vs : List Value) → Acts (apply_function context wrong i captured vs)
    function_applies i captured vs around z =
        descends w around z (λ entered. some _ (λ a y. given nil y (unchanged y)) (λ (p : FlatProcedure). enters p captured None vs) around entered)

    pub method_applies : (i : ℕ) (called : Called) → Acts (apply_method context wrong i called)
    method_applies i called = applies i (Some called) called.arguments

    pub each_applies : (ms : List ℕ) (vs : List Value) → Acts (apply_each context wrong ms vs)
    each_applies [] vs around z = given nil z (unchanged z)
    each_applies (m ∷ ms) vs around z = on (applies m None vs around z) (λ v after. each_applies ms vs around after)

    pub primary_runs : (c : Chain) (ps : List ℕ) (vs : List Value) → Acts (run_primary context wrong c ps vs)
    primary_runs c [] vs around z = s control_error_class [] around z
    primary_runs c (p ∷ ps) vs around z =
        on (each_applies c.before vs around z) (λ ignored before.
        on (method_applies p (record { arguments = vs; rest = record { around = []; before = []; primary = ps; after = [] } }) around before) (λ v primary.
        on (each_applies c.after vs around primary) (λ ignored after. given v after (unchanged after))))

    pub around_runs : (c : Chain) (ms : List ℕ) (vs : List Value) → Acts (run_around context wrong c ms vs)
    around_runs c [] vs around z = primary_runs c c.primary vs around z
    around_runs c (m ∷ ms) vs around z = method_applies m (record { arguments = vs; rest = record c { around = ms } }) around z

    pub chain_runs : (c : Chain) (vs : List Value) → Acts (run_chain context wrong c vs)
    chain_runs c vs around z = around_runs c c.around vs around z

    pub undefined : (name : List ℕ) → Acts (undefined_function wrong name)
    undefined name around z = s undefined_function_class (symbol (named name) ∷ []) around z

    pub chain_applies : (g : GenericRow) (c : Option Chain) (vs : List Value) → Acts (apply_chain context wrong g c vs)
    chain_applies g None vs around z = undefined (text context.names g.name.0) around z
    chain_applies g (Some c) vs around z =
        descends w around z (λ entered.
        framed context.limit (16 + length vs) entered (λ inner.
        charges (length vs) inner (w (methods c vs) no_environment around (charged (length vs) inner))))

    pub generic_row_applies : (g : Option GenericRow) (vs : List Value) → Acts (apply_generic_row context wrong g vs)
    generic_row_applies None vs around z = given nil z (unchanged z)
    generic_row_applies (Some g) vs around z =
        tests (takes g.required g.rest (length vs))
        (chain_applies g (chain (tables context.program) g (map (class_of z.state) (take g.required vs))) vs around z)
        (s program_error_class [] around z)

    pub generic_applies : (i : ℕ) (vs : List Value) → Acts (apply_generic context wrong i vs)
    generic_applies i vs around z = generic_row_applies (slice_get context.program.generics i) vs around z

    pub object_applies : (o : Option Object) (captured : Option (List Captured)) (f : Value) (vs : List Value) → Acts (apply_object context wrong o captured f vs)
    object_applies (Some (function p)) None f vs around z = applies p None vs around z
    object_applies (Some (function p)) (Some captured) f vs around z = function_applies p captured vs around z
    object_applies (Some (generic_function g)) captured f vs around z = generic_applies g vs around z
    object_applies o captured f vs around z = s _ _ around z

    pub value_applies : (f : Value) (vs : List Value) → Acts (apply_value context wrong f vs)
    value_applies f vs around z = object_applies (fetch z.state f) (captured_by f z) f vs around z

    pub callee_applies : (c : Callee) (vs : List Value) → Acts (apply_callee context wrong c vs)
    callee_applies (callee.Procedure p) vs around z = applies p None vs around z
    callee_applies (callee.Generic g) vs around z = generic_applies g vs around z

    pub row_applies : (name : List ℕ) (row : Option FunctionRow) (vs : List Value) → Acts (apply_row context wrong name row vs)
    row_applies name None vs around z = undefined name around z
    row_applies name (Some f) vs around z = callee_applies f.callee vs around z

  pub conditions : (class : ℕ) (slots : List Value) (z : FlatState) {next : Value → FlatState → FlatEvaluated} → OwesOn next → ComesTo z (new_condition context class slots z next)
  conditions class slots z c =
      made_paying context.limit (instance_words (tables context.program) class (length slots)) 0 (instance class (map Some slots) nil) z (omega arith) c

  marks : (c mark : Value) (z : FlatState) → ExitsArePaid z (marked c mark z)
  marks c mark z = by c (fetch z.state c)
    where
      by : (v : Value) (o : Option Object) → ExitsArePaid z (on_state (λ y. marked_at v mark o y) z)
      by (object i) (Some (instance class slots old)) = record { by = omega arith }
      by v o = unchanged z

  -- one exit more
  one_more : (c mark : Value) (around : DynamicContext) (z : FlatState) → Owes z (leaves 0 c (at_site around.site) (exit_made (marked c mark z)))
  one_more c mark around z = let g = marks c mark z in record { by = omega (arith, g.by) }

  one_paid : (c mark : Value) (z : FlatState) → ExitsArePaid z (charged 1 (exit_made (marked c mark z)))
  one_paid c mark z = let g = marks c mark z in record { by = omega (arith, g.by) }

  -- the signals under handlers, from the outermost handler on: at the outermost end an exit is made that nothing pays for
  pub signals_under : (hs : List Value) (c mark : Value) (around : DynamicContext) (z : FlatState) → Owes z (signal_under context hs c mark around z)
  signals_under [] c mark around z = one_more c mark around z
  signals_under (h ∷ hs) c mark around z =
      owes
      (catches z.state.exits
      (sooner (one_paid c mark z)
      (on
      (value_applies (λ class slots inner y. new_condition context class slots y (λ condition after. signal_under context hs condition nil inner after))
      (λ class slots inner y. conditions class slots y (λ condition after. signals_under hs condition nil inner after))
      h (c ∷ []) (record (inside (signal_exit c mark) around z) { handlers = hs }) (charged 1 (exit_made (marked c mark z))))
      (λ v after. conditions control_error_class [] after
      (λ condition made_then. signals_under hs condition nil (record (inside (signal_exit c mark) around z) { handlers = hs }) made_then)))))

  pub signals : Signs (signal context)
  signals class slots around z = conditions class slots z (λ c made_then. signals_under around.handlers c nil around made_then)

  -- transfers
  left_by : (x : ℕ) (v : Value) (landing : Landing) (z : FlatState) → ComesTo z (leaves x v landing z)
  left_by x v landing z = itself (leaves x v landing z) (unchanged z)

  pub exit_left : (p : Exit → Bool) (go : Exit → FlatAct) → ((x : Exit) → Acts (go x)) → Acts (to_exit context p go)
  exit_left p go f around z = searches p (λ x y. f x around y) (λ y. signals control_error_class [] around y) around.exits z

  pub transfers : (x : Option ℕ) (v : Value) (landing : Landing) → Acts (transfer context x v landing)
  transfers None v landing around z = signals control_error_class [] around z
  transfers (Some x) v landing around z = exit_left _ _ (λ y a z'. left_by y.number v landing z') around z

  pub throws : (tag v : Value) → Acts (throw_to context tag v)
  throws tag v around z = exit_left (λ x. is_catch tag x.kind) _ (λ x a y. left_by x.number v (at_segment 0) y) around z

  pub continues : (c v : Value) → Acts (continue_with context c v)
  continues c v around z =
      exit_left (λ x. is_signal c x.kind) _
      (λ x a y. tests (is_continuable x.kind) (left_by x.number v (at_segment 0) y) (signals control_error_class [] a y))
      around z
