-- Applications, signals and transfers side by side, over the meaning one level below on both sides.
use Rattle.std.specs.Prelude.{◌≡◌, ℕ, ◌+◌, ◌==◌, Bool, List, [], ◌∷◌, Option, Some, None, length, map, take, option_map, is_some, slice_get, refl}
use Rattle.std.proofs.Common.{ap, ◌∙◌}
use mathlib.Core.Path.{fun_ext}
use Rattle.lang_meaning.specs.declared.program.ProgramRows.{ProgramRows}
use Rattle.lang_meaning.specs.declared.program.Procedure.{Procedure}
use Rattle.lang_meaning.specs.declared.program.GenericRow.{GenericRow}
use Rattle.lang_meaning.specs.declared.program.FunctionRow.{FunctionRow}
use Rattle.lang_meaning.specs.declared.program.Callee.{Callee}
use Rattle.lang_meaning.specs.declared.program.Callee.TheVariants as callee
use Rattle.lang_meaning.specs.Form.{Form, parameters}
use Rattle.lang_meaning.specs.Counts.{nodes, application_words}
use Rattle.lang_meaning.specs.Values.{Value, symbol, named, nil}
use Rattle.lang_meaning.specs.Objects.{Chain, Called, Environment, no_environment, Object, cons, string, vector, instance, function, closure, generic_function, class_object, input_stream, output_stream, fresh_symbol, function_class, control_error_class, program_error_class, domain_error_class, undefined_function_class}
use Rattle.lang_meaning.specs.State.{State, DynamicContext, Exit, signal_exit, Landing, at_segment, at_site, exit, Evaluated, Act, inside, exit_made, Limit, charged, make, in_frame}
use Rattle.lang_meaning.specs.Lookup.{text, with_variables, with_values}
use Rattle.lang_meaning.specs.Classes.{class_of, fetch, chain}
use Rattle.lang_meaning.specs.InitialHeap.{class as class_key, class_value}
use Rattle.lang_meaning.specs.Primitives.{instance_words}
use Rattle.lang_meaning.specs.Signals.{Context, Task, nothing, form, methods, Evaluation, Signals, takes, marked, descend, gathered, with_record, with_boxes, enter, apply_procedure, apply_closure, apply_method, apply_each, run_primary, run_around, run_chain, undefined_function, signal_domain_error, apply_chain, apply_generic_row, apply_generic, apply_object, apply_value, apply_callee, apply_row, new_condition, signal_under, signal, to_exit, transfer, throw_to, continue_with, is_catch, is_signal, is_continuable}
use Rattle.lang_renamed.specs.Renaming.{KeepsTexts, form_by, procedure_by, function_by, generic_by, program_by}
use Rattle.lang_renamed.specs.RenamedRuns.{object_by, state_by, task_by}
use Rattle.lang_renamed.proofs.Lists.{get_by}
use Rattle.lang_renamed.proofs.Walks.{nodes_by}
use Rattle.lang_renamed.proofs.Stores.{fetch_by, class_of_by, marked_by}
use Rattle.lang_renamed.proofs.Classes.{chain_by, instance_words_by}
use Rattle.lang_renamed.proofs.Starting.{stands_by}
use Rattle.lang_renamed.proofs.Alike.{Renamed, StateRenamed, Continues, Follows, Acts, now, moved, at_state, ended, given, charges, on, tests, catches, some_by, made, framed, gathers, boxes, records, searches}

-- the meanings one level below
abbrev pub Within : (r : ℕ → ℕ) → (below below' : Task → Evaluation) → Type 0
Within r below below' = (task : Task) (env : Environment) → Acts r (below task env) (below' (task_by r task) env)

-- a program and the renamed one, each in its context
pub record Beside (r : ℕ → ℕ) : Type 0 where
  pub old : List (List ℕ)
  pub new : List (List ℕ)
  pub texts : KeepsTexts r old new
  pub program : ProgramRows
  pub limit : Limit
  pub below : Task → Evaluation
  pub higher : Task → Evaluation
  pub within : Within r below higher

module _ {r : ℕ → ℕ} (b : Beside r) where
  abbrev pub first : Context
  first = record { names = b.old; program = b.program; limit = b.limit; below = b.below }

  abbrev pub second : Context
  second = record { names = b.new; program = program_by r b.program; limit = b.limit; below = b.higher }

  -- acts in both contexts
  abbrev pub Both : (Context → Act) → Type 0
  Both act = Acts r (act first) (act second)

  -- signals of conditions
  abbrev pub Signs : (Context → Signals) → Type 0
  Signs wrong = (class : ℕ) (slots : List Value) → Both (λ context. wrong context class slots)

  pub class_value_by : (c : ℕ) → class_value b.new (program_by r b.program) c ≡ class_value b.old b.program c
  class_value_by c = stands_by r b.old b.new b.texts b.program (class_key c)

  pub descends : (around : DynamicContext) {z z' : State} {next next' : State → Evaluated} → StateRenamed r z z' → Follows r next next' →
      Renamed r (descend b.below next around z) (descend b.higher next' around z')
  descends around {z} {z'} {next} {next'} s c = on {next = λ v after. next after} {next' = λ v after. next' after} (b.within nothing no_environment around z z' s) (λ v y y' t. c y y' t)

  module _ (wrong : Context → Signals) (signs : Signs wrong) where
    pub domain_signals : (v : Value) (expected : ℕ) → Both (λ context. signal_domain_error context (wrong context) v expected)
    domain_signals v expected around z z' s =
        moved (ap (λ w. wrong second domain_error_class (v ∷ w ∷ []) around z') (class_value_by expected))
        (signs domain_error_class (v ∷ class_value b.old b.program expected ∷ []) around z z' s)

    -- the body, once its variables are there
    bodies : (required : List ℕ) (rest : Option ℕ) (body : Form) (env : Environment) (ws : List Value) (around : DynamicContext) {z z' : State} → StateRenamed r z z' →
        Renamed r (b.below (form body) (with_variables (parameters required rest) z env) around (with_values ws z))
        (b.higher (form (form_by r body)) (with_variables (parameters required rest) z' env) around (with_values ws z'))
    bodies required rest body env ws around {z} s =
        at_state (λ y. b.higher (form (form_by r body)) (with_variables (parameters required rest) y env) around (with_values ws y)) s
        (b.within (form body) (with_variables (parameters required rest) z env) around (with_values ws z) (with_values ws (state_by r z)) (now (with_values ws z)))

    -- an application of so many words
    enters_with : (size : ℕ) (required : List ℕ) (rest : Option ℕ) (body : Form) (env : Environment) (called : Option Called) (vs : List Value) (around : DynamicContext) {z z' : State} →
        StateRenamed r z z' →
        Renamed r
        (in_frame b.limit size (λ entered. gathered b.limit (length required) rest vs (charged (length vs) entered) (λ ws gone.
        with_record b.limit called body gone (λ recorded.
        with_boxes b.limit (parameters required rest) body recorded (λ ready.
        b.below (form body) (with_variables (parameters required rest) ready env) around (with_values ws ready))))) z)
        (in_frame b.limit size (λ entered. gathered b.limit (length required) rest vs (charged (length vs) entered) (λ ws gone.
        with_record b.limit called (form_by r body) gone (λ recorded.
        with_boxes b.limit (parameters required rest) (form_by r body) recorded (λ ready.
        b.higher (form (form_by r body)) (with_variables (parameters required rest) ready env) around (with_values ws ready))))) z')
    enters_with size required rest body env called vs around s =
        framed b.limit size s (λ y y' t.
        gathers b.limit (length required) rest vs (charges (length vs) t) (λ ws g g' u.
        records b.limit called body u (λ k k' l.
        boxes b.limit (parameters required rest) body l (λ m m' q. bodies required rest body env ws around q))))

    pub enters : (required : List ℕ) (rest : Option ℕ) (body : Form) (env : Environment) (called : Option Called) (vs : List Value) →
        Acts r (enter first (wrong first) required rest body env called vs) (enter second (wrong second) required rest (form_by r body) env called vs)
    enters required rest body env called vs around z z' s =
        tests (takes (length required) (is_some rest) (length vs)) (takes (length required) (is_some rest) (length vs)) refl
        (moved
        (ap (λ (n : ℕ). in_frame b.limit (application_words n + length vs) (λ entered. gathered b.limit (length required) rest vs (charged (length vs) entered) (λ ws gone.
        with_record b.limit called (form_by r body) gone (λ recorded.
        with_boxes b.limit (parameters required rest) (form_by r body) recorded (λ ready.
        b.higher (form (form_by r body)) (with_variables (parameters required rest) ready env) around (with_values ws ready))))) z') (nodes_by r body))
        (enters_with (application_words (nodes body) + length vs) required rest body env called vs around s))
        (signs program_error_class [] around z z' s)

    pub applies : (i : ℕ) (called : Option Called) (vs : List Value) → Both (λ context. apply_procedure context (wrong context) i called vs)
    applies i called vs around z z' s =
        descends around s (λ y y' t.
        some_by (procedure_by r) (slice_get b.program.procedures i) (slice_get (map (procedure_by r) b.program.procedures) i)
        (λ p. enter second (wrong second) p.required p.rest p.body (record no_environment { method = called }) called vs)
        (get_by (procedure_by r) b.program.procedures i)
        (λ a u u' l. given nil l)
        (λ (p : Procedure). enters p.required p.rest p.body (record no_environment { method = called }) called vs) around y y' t)

    pub closure_applies : (required : List ℕ) (rest : Option ℕ) (body : Form) (env : Environment) (vs : List Value) →
        Acts r (apply_closure first (wrong first) required rest body env vs) (apply_closure second (wrong second) required rest (form_by r body) env vs)
    closure_applies required rest body env vs around z z' s = descends around s (λ y y' t. enters required rest body env None vs around y y' t)

    pub method_applies : (i : ℕ) (called : Called) → Both (λ context. apply_method context (wrong context) i called)
    method_applies i called = applies i (Some called) called.arguments

    pub each_applies : (ms : List ℕ) (vs : List Value) → Both (λ context. apply_each context (wrong context) ms vs)
    each_applies [] vs around z z' s = given nil s
    each_applies (m ∷ ms) vs around z z' s = on (applies m None vs around z z' s) (λ v y y' t. each_applies ms vs around y y' t)

    primary_runs : (c : Chain) (ps : List ℕ) (vs : List Value) → Both (λ context. run_primary context (wrong context) c ps vs)
    primary_runs c [] vs around z z' s = signs control_error_class [] around z z' s
    primary_runs c (p ∷ ps) vs around z z' s =
        on (each_applies c.before vs around z z' s) (λ ignored y y' t.
        on (method_applies p (record { arguments = vs; rest = record { around = []; before = []; primary = ps; after = [] } }) around y y' t) (λ v g g' u.
        on (each_applies c.after vs around g g' u) (λ ignored h h' l. given v l)))

    around_runs : (c : Chain) (ms : List ℕ) (vs : List Value) → Both (λ context. run_around context (wrong context) c ms vs)
    around_runs c [] vs around z z' s = primary_runs c c.primary vs around z z' s
    around_runs c (m ∷ ms) vs around z z' s = method_applies m (record { arguments = vs; rest = record c { around = ms } }) around z z' s

    pub chain_runs : (c : Chain) (vs : List Value) → Both (λ context. run_chain context (wrong context) c vs)
    chain_runs c vs around z z' s = around_runs c c.around vs around z z' s

    pub undefined : (name : List ℕ) → Both (λ context. undefined_function (wrong context) name)
    undefined name around z z' s = signs undefined_function_class (symbol (named name) ∷ []) around z z' s

    chain_applies : (g : GenericRow) (c : Option Chain) (vs : List Value) →
        Acts r (apply_chain first (wrong first) g c vs) (apply_chain second (wrong second) (generic_by r g) c vs)
    chain_applies g None vs around z z' s =
        moved (ap (λ name. undefined_function (wrong second) name around z') (b.texts g.name.0)) (undefined (text b.old g.name.0) around z z' s)
    chain_applies g (Some c) vs around z z' s =
        descends around s (λ y y' t.
        framed b.limit (16 + length vs) t (λ k k' u.
        b.within (methods c vs) no_environment around (charged (length vs) k) (charged (length vs) k') (charges (length vs) u)))

    classes_by : (z : State) (vs : List Value) → map (class_of (state_by r z)) vs ≡ map (class_of z) vs
    classes_by z vs = ap (λ (f : Value → ℕ). map f vs) (fun_ext (class_of_by r z))

    row_applies_generic : (g : GenericRow) (vs : List Value) → Acts r (apply_generic_row first (wrong first) (Some g) vs) (apply_generic_row second (wrong second) (Some (generic_by r g)) vs)
    row_applies_generic g vs around z z' s =
        at_state (apply_generic_row second (wrong second) (Some (generic_by r g)) vs around) s
        (tests (takes g.required g.rest (length vs)) (takes g.required g.rest (length vs)) refl
        (moved
        (ap (λ c. apply_chain second (wrong second) (generic_by r g) c vs around (state_by r z))
        (ap (chain (program_by r b.program) (generic_by r g)) (classes_by z (take g.required vs)) ∙ chain_by r b.program g (map (class_of z) (take g.required vs))))
        (chain_applies g (chain b.program g (map (class_of z) (take g.required vs))) vs around z (state_by r z) (now z)))
        (signs program_error_class [] around z (state_by r z) (now z)))

    generic_row_applies : (g : Option GenericRow) (vs : List Value) →
        Acts r (apply_generic_row first (wrong first) g vs) (apply_generic_row second (wrong second) (option_map (generic_by r) g) vs)
    generic_row_applies None vs around z z' s = given nil s
    generic_row_applies (Some g) vs around z z' s = row_applies_generic g vs around z z' s

    pub generic_applies : (i : ℕ) (vs : List Value) → Both (λ context. apply_generic context (wrong context) i vs)
    generic_applies i vs around z z' s =
        moved (ap (λ g. apply_generic_row second (wrong second) g vs around z') (get_by (generic_by r) b.program.generics i))
        (generic_row_applies (slice_get b.program.generics i) vs around z z' s)

    object_applies : (o : Option Object) (f : Value) (vs : List Value) →
        Acts r (apply_object first (wrong first) o f vs) (apply_object second (wrong second) (option_map (object_by r) o) f vs)
    object_applies (Some (function p)) f vs around z z' s = applies p None vs around z z' s
    object_applies (Some (closure required rest body env)) f vs around z z' s = closure_applies required rest body env vs around z z' s
    object_applies (Some (generic_function g)) f vs around z z' s = generic_applies g vs around z z' s
    object_applies (Some (cons a d)) f vs around z z' s = domain_signals f function_class around z z' s
    object_applies (Some (string bytes)) f vs around z z' s = domain_signals f function_class around z z' s
    object_applies (Some (vector us)) f vs around z z' s = domain_signals f function_class around z z' s
    object_applies (Some (instance c us mark)) f vs around z z' s = domain_signals f function_class around z z' s
    object_applies (Some (class_object c)) f vs around z z' s = domain_signals f function_class around z z' s
    object_applies (Some input_stream) f vs around z z' s = domain_signals f function_class around z z' s
    object_applies (Some output_stream) f vs around z z' s = domain_signals f function_class around z z' s
    object_applies (Some (fresh_symbol n)) f vs around z z' s = domain_signals f function_class around z z' s
    object_applies None f vs around z z' s = domain_signals f function_class around z z' s

    pub value_applies : (f : Value) (vs : List Value) → Both (λ context. apply_value context (wrong context) f vs)
    value_applies f vs around z z' s =
        at_state (apply_value second (wrong second) f vs around) s
        (moved (ap (λ o. apply_object second (wrong second) o f vs around (state_by r z)) (fetch_by r z f)) (object_applies (fetch z f) f vs around z (state_by r z) (now z)))

    callee_applies : (c : Callee) (vs : List Value) → Both (λ context. apply_callee context (wrong context) c vs)
    callee_applies (callee.Procedure p) vs around z z' s = applies p None vs around z z' s
    callee_applies (callee.Generic g) vs around z z' s = generic_applies g vs around z z' s

    pub row_applies : (name : List ℕ) (row : Option FunctionRow) (vs : List Value) →
        Acts r (apply_row first (wrong first) name row vs) (apply_row second (wrong second) name (option_map (function_by r) row) vs)
    row_applies name None vs around z z' s = undefined name around z z' s
    row_applies name (Some f) vs around z z' s = callee_applies f.callee vs around z z' s

  pub conditions : (class : ℕ) (slots : List Value) {z z' : State} {next next' : Value → State → Evaluated} → StateRenamed r z z' → Continues r next next' →
      Renamed r (new_condition first class slots z next) (new_condition second class slots z' next')
  conditions class slots {z} {z'} {next} {next'} s c =
      moved (ap (λ (n : ℕ). make b.limit n 0 (instance class (map Some slots) nil) z' next') (instance_words_by r b.program class (length slots)))
      (made b.limit (instance_words b.program class (length slots)) 0 (instance class (map Some slots) nil) s c)

  marks : (c mark : Value) {z z' : State} → StateRenamed r z z' → StateRenamed r (marked c mark z) (marked c mark z')
  marks c mark {z} s = record { is = ap (marked c mark) s.is ∙ marked_by r c mark z }

  pub exits_made : {z z' : State} → StateRenamed r z z' → StateRenamed r (exit_made z) (exit_made z')
  exits_made s = record { is = ap exit_made s.is }

  -- the signals under handlers, from the outermost handler on
  pub signals_under : (hs : List Value) (c mark : Value) → Both (λ context. signal_under context hs c mark)
  signals_under [] c mark around z z' s = ended (exit 0 c (at_site around.site)) (exits_made (marks c mark s))
  signals_under (h ∷ hs) c mark around z z' s =
      at_state (signal_under second (h ∷ hs) c mark around) s
      (catches z.exits
      (on
      (value_applies (λ context class slots inner y. new_condition context class slots y (λ e after. signal_under context hs e nil inner after))
      (λ class slots inner y y' t. conditions class slots t (λ e k k' u. signals_under hs e nil inner k k' u))
      h (c ∷ []) (record (inside (signal_exit c mark) around z) { handlers = hs }) (charged 1 (exit_made (marked c mark z))) (charged 1 (exit_made (marked c mark (state_by r z))))
      (charges 1 (exits_made (marks c mark (now z)))))
      (λ v y y' t. conditions control_error_class [] t
      (λ e k k' u. signals_under hs e nil (record (inside (signal_exit c mark) around z) { handlers = hs }) k k' u))))

  pub signals : Signs signal
  signals class slots around z z' s = conditions class slots s (λ c y y' t. signals_under around.handlers c nil around y y' t)

  -- transfers
  exit_left : (p : Exit → Bool) (go go' : Exit → Act) → ((x : Exit) → Acts r (go x) (go' x)) → Acts r (to_exit first p go) (to_exit second p go')
  exit_left p go go' f around z z' s =
      searches p (λ x y y' t. f x around y y' t) (λ y y' t. signals control_error_class [] around y y' t) around.exits s

  pub transfers : (e : Option ℕ) (v : Value) (landing : Landing) → Both (λ context. transfer context e v landing)
  transfers None v landing around z z' s = signals control_error_class [] around z z' s
  transfers (Some e) v landing around z z' s = exit_left (λ x. x.number == e) _ _ (λ x a y y' t. ended (exit x.number v landing) t) around z z' s

  pub throws : (tag v : Value) → Both (λ context. throw_to context tag v)
  throws tag v around z z' s = exit_left (λ x. is_catch tag x.kind) _ _ (λ x a y y' t. ended (exit x.number v (at_segment 0)) t) around z z' s

  pub continues : (c v : Value) → Both (λ context. continue_with context c v)
  continues c v around z z' s =
      exit_left (λ x. is_signal c x.kind) _ _
      (λ x a y y' t. tests (is_continuable x.kind) (is_continuable x.kind) refl (ended (exit x.number v (at_segment 0)) t) (signals control_error_class [] a y y' t))
      around z z' s
