-- Applications, signals and transfers of a program and of it made flat, over the meanings one level below on both sides.
use Rattle.std.proofs.Common.{◌≡◌, ℕ, ◌+◌, ◌≤◌, ◌==◌, Bool, true, List, [], ◌∷◌, ◌++◌, refl, sym, ap, subst, ◌∙◌, ⊎_elim, Option, Some, None, length, map, take, drop, arith, length-append}
use Rattle.std.proofs.lemmas.List.{length-take-le}
use Rattle.std.specs.Prelude.{⊤, is_some, slice_get, option_to_list, nat_le, if◌then◌else◌}
use Rattle.std.proofs.lemmas.Bool.{eqb-true, leb-true}
use Rattle.lang_meaning.specs.declared.program.ProgramRows.{ProgramRows}
use Rattle.lang_meaning.specs.declared.program.Procedure.{Procedure}
use Rattle.lang_meaning.specs.declared.program.GenericRow.{GenericRow}
use Rattle.lang_meaning.specs.declared.program.FunctionRow.{FunctionRow}
use Rattle.lang_meaning.specs.declared.program.Callee.{Callee}
use Rattle.lang_meaning.specs.declared.program.Callee.TheVariants as callee
use Rattle.lang_meaning.specs.declared.capture.Capture.TheVariants.{Method}
use Rattle.lang_meaning.specs.Form.{Form, Forms, parameters}
use Rattle.lang_meaning.specs.Counts as core_counts
use Rattle.lang_meaning.specs.Counts.{application_words}
use Rattle.lang_meaning.specs.Captured.{captures}
use Rattle.lang_meaning.specs.Values.{Value, integer, character, symbol, named, nil, object}
use Rattle.lang_meaning.specs.Objects.{Chain, Called, Environment, no_environment, Object, cons, string, vector, instance, function, closure, generic_function, class_object, input_stream, output_stream, fresh_symbol, control_error_class, program_error_class, undefined_function_class}
use Rattle.lang_meaning.specs.State.{State, gives, DynamicContext, Exit, signal_exit, Landing, at_segment, at_site, exit, Evaluated, Act, inside, Limit, charged}
use Rattle.lang_meaning.specs.Lookup.{text}
use Rattle.lang_meaning.specs.Classes.{class_of, chain}
use Rattle.lang_meaning.specs.Signals.{Context, Task, nothing, form, turn, methods, Evaluation, Signals, takes, marked, marked_at, descend, make_list, gathered, with_record, enter, apply_procedure, apply_closure, apply_method, apply_each, run_primary, run_around, run_chain, with_some, undefined_function, signal_domain_error, apply_chain, apply_generic_row, apply_generic, apply_object, apply_value, apply_callee, apply_row, new_condition, signal_under, signal, to_exit, transfer, throw_to, continue_with, answered, is_catch, is_signal, is_continuable}
use Rattle.lang_meaning.specs.Primitives.{Answer, result, makes, makes_symbol, fails, domain_error}
use Rattle.lang_meaning.specs.Meaning.{context_of}
use Rattle.flat_language.specs.declared.place.CapturedKind.{CapturedKind}
use Rattle.flat_language.specs.declared.place.MethodPlace.TheVariants as method_place
use Rattle.flat_language.specs.FlatForm.{FlatForm}
use Rattle.flat_language.specs.FlatNodes as flat_nodes
use Rattle.flat_language.specs.declared.program.FlatProcedure.{FlatProcedure}
use Rattle.flat_language.specs.declared.program.FlatProgram.{FlatProgram}
use Rattle.flat_language.specs.FlatNodes.{homes}
use Rattle.flat_language.specs.FlatState.{FrameSlot, Captured, FlatEnvironment, FlatState, FlatEvaluated, FlatAct, under, captured_by}
use Rattle.flat_language.specs.FlatState as flat_state
use Rattle.flat_language.specs.FlatSignals as flat_signals
use Rattle.flat_language.specs.FlatSignals.{FlatContext, FlatTask, FlatEvaluation, FlatSignals}
use Rattle.flat_language.specs.FlatMeaning as flat_meaning
use Rattle.flat_language.specs.Scope.{Scope, home_of, homes_of, no_scope}
use Rattle.flat_language.specs.Flatten.{flat, flat_forms, flat_procedure, body_scope, home_of_rest}
use Rattle.flat_language.proofs.Alike.{VariableKind, World, alone, Later, BindingsMatch, flat_around, Matches, Sound, SoundForms, ClosureAlike, SameObject, SameFunction, Beside, twin, Sim, Continues, Follows, Acts}
use Rattle.flat_language.proofs.Combined.{kept_itself, itself, bound_later, at_twin, step, charges, exits_made, sooner, ends, given, on, tests, chosen, catches, requests, made, framed, searches, one_changed}
use Rattle.flat_language.proofs.Environments.{binds_alone, length-homes}
use Rattle.flat_language.proofs.Nodes.{nodes_same}
use Rattle.flat_language.proofs.Answers.{bare, cons_datum, instance_datum, symbol_datum, class_same, Twins, AnswersAlike, moved, state_of, MakesDatum}

at_most : (m n : ℕ) → nat_le m n ≡ true → m ≤ n
at_most m n h = leb-true m n h

-- equal lengths and homes of the variables of a function

length-parameters : (required : List ℕ) (rest : Option ℕ) → length (parameters required rest) ≡ length required + length (option_to_list rest)
length-parameters required rest = length-append required (option_to_list rest)

homes_append : (vs us : List ℕ) (body : Form) → homes_of (vs ++ us) body ≡ homes_of vs body ++ homes_of us body
homes_append [] us body = refl
homes_append (v ∷ vs) us body = ap (λ hs. home_of v body ∷ hs) (homes_append vs us body)

rest_homes : (rest : Option ℕ) (body : Form) → option_to_list (home_of_rest rest body) ≡ homes_of (option_to_list rest) body
rest_homes None body = refl
rest_homes (Some v) body = refl

pub all_homes : (required : List ℕ) (rest : Option ℕ) (body : Form)
    → homes_of required body ++ option_to_list (home_of_rest rest body) ≡ homes_of (parameters required rest) body
all_homes required rest body =
    ap (λ hs. homes_of required body ++ hs) (rest_homes rest body) ∙ sym (homes_append required (option_to_list rest) body)

rest_same : (rest : Option ℕ) (body : Form) → is_some (home_of_rest rest body) ≡ is_some rest
rest_same None body = refl
rest_same (Some v) body = refl

module _ {ps : List FlatProcedure} where
  pub lists : {w : World} (limit : Limit) (vs : List Value) (z : State) (y : FlatState) → Beside ps w z y
      → {next : Value → State → Evaluated} {next' : Value → FlatState → FlatEvaluated} → Continues ps w next next'
      → Sim ps w (make_list limit vs z next) (flat_signals.make_list limit vs y next')
  lists limit [] z y b c = c nil z y b
  lists limit (v ∷ vs) z y b c =
      lists limit vs z y b (λ tail after later a. made limit 2 0 (cons v tail) (cons_datum v tail) after later a c)

  gathers : {w : World} (limit : Limit) (required : List ℕ) (rest : Option ℕ) (vs : List Value) → takes (length required) (is_some rest) (length vs) ≡ true
      → (z : State) (y : FlatState) → Beside ps w z y
      → {next : List Value → State → Evaluated} {next' : List Value → FlatState → FlatEvaluated}
      → ((ws : List Value) → length ws ≡ length (parameters required rest) → Follows ps w (next ws) (next' ws))
      → Sim ps w (gathered limit (length required) rest vs z next) (flat_signals.gathered limit (length required) (is_some rest) vs y next')
  gathers limit required None vs h z y b c =
      c vs (sym (eqb-true (length required) (length vs) h) ∙ (let e : length required ≡ length required + 0 = omega arith in e) ∙ sym (length-parameters required None)) z y b
  gathers limit required (Some rest) vs h z y b c =
      lists limit (drop (length required) vs) z y b (λ tail after later a.
      c (take (length required) vs ++ tail ∷ [])
      (length-append (take (length required) vs) (tail ∷ [])
      ∙ ap (λ n. n + 1) (length-take-le (length required) vs (at_most (length required) (length vs) h))
      ∙ sym (length-parameters required (Some rest)))
      after later a)

  records : {w : World} (limit : Limit) (called : Option Called) (body : Form) (z : State) (y : FlatState) → Beside ps w z y
      → {next : State → Evaluated} {next' : FlatState → FlatEvaluated} → Follows ps w next next'
      → Sim ps w (with_record limit called body z next) (flat_signals.with_record limit called (captures Method body) y next')
  records limit None body z y b c = c z y b
  records limit (Some called) body z y b c =
      tests (captures Method body)
      (requests limit (2 + length called.arguments) 0 z y b (λ entered later a.
      c _ _ (charges (2 + length called.arguments) a)))
      (c z y b)

  pub marks : {w : World} {z : State} {y : FlatState} (c mark : Value) → Beside ps w z y → Beside ps w (marked c mark z) (flat_signals.marked c mark y)
  marks {w} {z} {y} (object i) mark b = at_twin (λ now. Beside ps w (marked (object i) mark z) (flat_signals.marked (object i) mark now)) b (λ t.
      ⊎_elim
      (λ (s : SameObject ps (slice_get z.store i) (slice_get b.store i) (under i b.captured)).
      subst (λ o. Beside ps w (marked_at (object i) mark (slice_get z.store i) z) (flat_state.on_state (λ x. marked_at (object i) mark o x) (twin ps z b.store b.boxes b.frame b.captured))) (sym s.same)
      (same_mark t (slice_get z.store i)))
      (λ (f : SameFunction ps b.world.kinds (slice_get z.store i) (slice_get b.store i) (under i b.captured)).
      subst (λ o. Beside ps w (marked_at (object i) mark o z) (flat_state.on_state (λ x. marked_at (object i) mark (slice_get b.store i) x) (twin ps z b.store b.boxes b.frame b.captured))) (sym f.one)
      (subst (λ o. Beside ps w z (flat_state.on_state (λ x. marked_at (object i) mark o x) (twin ps z b.store b.boxes b.frame b.captured))) (sym f.other) t))
      (b.related.objects i))
    where
      same_mark : Beside ps w z (twin ps z b.store b.boxes b.frame b.captured) → (o : Option Object)
          → Beside ps w (marked_at (object i) mark o z) (flat_state.on_state (λ x. marked_at (object i) mark o x) (twin ps z b.store b.boxes b.frame b.captured))
      same_mark t (Some (instance c us old)) = one_changed i (instance c us mark) (instance_datum c us mark) t
      same_mark t (Some (cons a d)) = t
      same_mark t (Some (string bytes)) = t
      same_mark t (Some (vector us)) = t
      same_mark t (Some (function p)) = t
      same_mark t (Some (closure required rest body env)) = t
      same_mark t (Some (generic_function g)) = t
      same_mark t (Some (class_object c)) = t
      same_mark t (Some input_stream) = t
      same_mark t (Some output_stream) = t
      same_mark t (Some (fresh_symbol n)) = t
      same_mark t None = t
  marks (integer n) mark b = b
  marks (character n) mark b = b
  marks (symbol n) mark b = b
  marks nil mark b = b

pub twins_of : {ps : List FlatProcedure} {w : World} {z : State} {y : FlatState} (x : Beside ps w z y) → Twins ps x.world x.frame x.captured z y.state
twins_of x = record { store = x.store; boxes = x.boxes; is = ap (λ (q : FlatState). q.state) x.is; related = x.related }

of_twins : {ps : List FlatProcedure} {w u : World} {frame : List FrameSlot} {cs : List (ℕ × List Captured)} {z q : State} → Later w u → Twins ps u frame cs z q
    → (y : FlatState) → y.frame ≡ frame × y.captured ≡ cs → Beside ps w z (record y { state = q })
of_twins {ps} {w} {u} {frame} {cs} {z} {q} l t y e = record {
  world = u;
  later = l;
  store = t.store;
  boxes = t.boxes;
  frame = frame;
  captured = cs;
  related = t.related;
  is = ap (λ (x : State). record y { state = x }) t.is
      ∙ ap (λ f. record { state = record z { store = t.store; variables = t.boxes }; frame = f; captured = y.captured }) e.0
      ∙ ap (λ c. record { state = record z { store = t.store; variables = t.boxes }; frame = frame; captured = c }) e.1;
}

-- the two meanings one level below, task by task
pub record BelowAlike (ps : List FlatProcedure) (low : Task → Evaluation) (low' : FlatTask → FlatEvaluation) : Type 0 where
  pub nothing_alike : (w : World) → Acts ps w (low nothing no_environment) (low' flat_signals.nothing flat_state.no_environment)
  pub forms_alike : (s : Scope) (n : ℕ) (f : Form) → Sound ps s n f → (w : World) (env : Environment) (e : FlatEnvironment) → Matches w s env e
      → Acts ps w (low (form f) env) (low' (flat_signals.form (flat s n f)) e)
  pub turns_alike : (s : Scope) (m n exit : ℕ) (rest all : Forms) → SoundForms ps s m rest → SoundForms ps s n all
      → (w : World) (env : Environment) (e : FlatEnvironment) → Matches w s env e
      → Acts ps w (low (turn exit rest all) env) (low' (flat_signals.turn exit (flat_forms s m rest) (flat_forms s n all)) e)
  pub methods_alike : (c : Chain) (vs : List Value) (w : World)
      → Acts ps w (low (methods c vs) no_environment) (low' (flat_signals.methods c vs) flat_state.no_environment)

-- a procedure and what it was made
pub record ProcedureMatch (ps : List FlatProcedure) (p : Procedure) (q : FlatProcedure) : Type 0 where
  pub first : ℕ
  pub is : q ≡ flat_procedure no_scope first [] p.required p.rest p.body
  pub sound : Sound ps (body_scope p.required p.rest p.body no_scope) first p.body

abbrev pub ProceduresMatch : List FlatProcedure → Option Procedure → Option FlatProcedure → Type 0
ProceduresMatch ps None None = ⊤
ProceduresMatch ps None (Some q) = ⊥
ProceduresMatch ps (Some p) None = ⊥
ProceduresMatch ps (Some p) (Some q) = ProcedureMatch ps p q

pub no_scope_matches : (ks : List VariableKind) (called : Option Called)
    → Matches (alone ks) no_scope (record no_environment { method = called }) (record flat_state.no_environment { method = called })
no_scope_matches ks called = record {
  variables = λ v k h. absurd (cc h);
  exits = λ x p h. absurd (cc h);
  method = λ p h. subst (λ q. flat_state.method_of q (record flat_state.no_environment { method = called }) ≡ called) (let e : method_place.Own ≡ p = cc h in e) refl;
  slots = refl;
  own = refl;
}

-- what an application of a flat procedure is, by the number of its required arguments, whether it has a rest variable, and its nodes
abbrev entered_as : FlatContext → FlatProcedure → FlatSignals → List Captured → Option Called → List Value → DynamicContext → FlatState → ℕ → Bool → ℕ → FlatEvaluated
entered_as context p wrong captured called vs around y n r k =
    if takes n r (length vs) then
    flat_state.in_frame context.limit (application_words k + length vs)
    (λ entered. flat_signals.gathered context.limit n r vs (flat_state.charged (length vs) entered) (λ ws gone.
    flat_signals.with_record context.limit called p.keeps_method gone (λ recorded.
    flat_signals.with_boxes context.limit (homes p) recorded (λ ready.
    flat_state.in_own_frame (λ inner.
    context.below (flat_signals.form p.body) (record flat_state.no_environment { captured = captured; method = called }) around (flat_state.with_slots (homes p) ws inner))
    ready))))
    y
    else wrong program_error_class [] around y

classes_same : {ps : List FlatProcedure} {w : World} {z : State} {y : FlatState} → Beside ps w z y → (vs : List Value)
    → map (class_of y.state) vs ≡ map (class_of z) vs
classes_same x [] = refl
classes_same {ps} {w} {z} {y} x (v ∷ vs) =
    ap (λ c. c ∷ map (class_of y.state) vs) (class_same ps x.world x.frame x.captured (twins_of x) v)
    ∙ ap (λ cs. class_of z v ∷ cs) (classes_same x vs)

chain_same : (program : ProgramRows) (g : GenericRow) (cs : List ℕ) → chain (bare program) g cs ≡ chain program g cs
chain_same program g cs = refl

-- a program and what it was made, with the meanings one level below: procedure by procedure, and task by task
pub record Both : Type 0 where
  pub names : List (List ℕ)
  pub program : ProgramRows
  pub procedures : List FlatProcedure
  pub lambdas : List FlatProcedure
  pub main : List FlatForm
  pub limit : Limit
  pub low : Task → Evaluation
  pub low' : FlatTask → FlatEvaluation
  pub alike : BelowAlike lambdas low low'
  pub all : (i : ℕ) → ProceduresMatch lambdas (slice_get program.procedures i) (slice_get procedures i)

abbrev pub rows : Both → FlatProgram
rows r = record {
  literals = r.program.literals;
  procedures = r.procedures;
  lambdas = r.lambdas;
  classes = r.program.classes;
  generics = r.program.generics;
  functions = r.program.functions;
  main = r.main;
  sites = r.program.sites;
}

abbrev pub core_context : Both → Context
core_context r = context_of r.names r.program r.limit r.low

abbrev pub flat_context : Both → FlatContext
flat_context r = flat_meaning.context_of r.names (rows r) r.limit r.low'

module _ (r : Both) where
  descends : {w : World} (around : DynamicContext) (bound : BindingsMatch w around) (z : State) (y : FlatState) → Beside r.lambdas w z y → {next : State → Evaluated} {next' : FlatState → FlatEvaluated} → Follows r.lambdas w next next'
      → Sim r.lambdas w (descend r.low next around z) (flat_signals.descend r.low' next' (flat_around around bound) y)
  descends {w} around bound z y x c = on (r.alike.nothing_alike w around bound z y x) (λ v after later a. c after later a)

  abbrev pub Signs : Signals → FlatSignals → Type 0
  Signs wrong wrong' = (w : World) (class : ℕ) (slots : List Value) → Acts r.lambdas w (wrong class slots) (wrong' class slots)

  module _ (wrong : Signals) (wrong' : FlatSignals) (s : Signs wrong wrong') where
    pub domain_signals : (w : World) (v : Value) (expected : ℕ) → Acts r.lambdas w (signal_domain_error (core_context r) wrong v expected) (flat_signals.signal_domain_error (flat_context r) wrong' v expected)
    domain_signals w v expected around bound z y x = s w _ _ around bound z y x

    pub enters : (c : Scope) (first : ℕ) (kinds : List CapturedKind) (required : List ℕ) (rest : Option ℕ) (body : Form) → Sound r.lambdas (body_scope required rest body c) first body
        → (w : World) (env : Environment) (captured : List Captured) (called : Option Called) → Matches (alone w.kinds) c env (record flat_state.no_environment { captured = captured; method = called })
        → (vs : List Value)
        → Acts r.lambdas w (enter (core_context r) wrong required rest body env called vs) (flat_signals.enter (flat_context r) wrong' (flat_procedure c first kinds required rest body) captured called vs)
    enters c first kinds required rest body sound w env captured called m vs around bound z y x =
        let p : FlatProcedure = flat_procedure c first kinds required rest body in
        let source : Evaluated = enter (core_context r) wrong required rest body env called vs around z in
        subst (λ n. Sim r.lambdas w source (entered_as (flat_context r) p wrong' captured called vs (flat_around around bound) y n (is_some (home_of_rest rest body)) (flat_nodes.nodes (flat (body_scope required rest body c) first body))))
        (sym (length-homes required body))
        (subst (λ more. Sim r.lambdas w source (entered_as (flat_context r) p wrong' captured called vs (flat_around around bound) y (length required) more (flat_nodes.nodes (flat (body_scope required rest body c) first body))))
        (sym (rest_same rest body))
        (subst (λ k. Sim r.lambdas w source (entered_as (flat_context r) p wrong' captured called vs (flat_around around bound) y (length required) (is_some rest) k))
        (sym (nodes_same (body_scope required rest body c) first body))
        (chosen (takes (length required) (is_some rest) (length vs))
        (λ h. framed r.limit (application_words (core_counts.nodes body) + length vs) z y x (λ entered later a.
        gathers r.limit required rest vs h (charged (length vs) entered) (flat_state.charged (length vs) later) (charges (length vs) a) (λ ws len gone gone' g.
        records r.limit called body gone gone' g (λ recorded recorded' a_record.
        binds_alone r.limit m (kept_itself w.kinds) (parameters required rest) body (homes p) (all_homes required rest body) ws len
        {run = λ inner. r.low (form body) inner} (r.low' (flat_signals.form p.body) (record flat_state.no_environment { captured = captured; method = called }))
        (λ u inner n. r.alike.forms_alike (body_scope required rest body c) first body sound u inner _ n)
        around bound recorded recorded' a_record))))
        (λ h. s w program_error_class [] around bound z y x))))

    procedure_enters : (o : Option Procedure) (q : Option FlatProcedure) → ProceduresMatch r.lambdas o q → (w : World) (called : Option Called) (vs : List Value)
        → Acts r.lambdas w
        (with_some o (λ a z. gives nil z) (λ p. enter (core_context r) wrong p.required p.rest p.body (record no_environment { method = called }) called vs))
        (flat_signals.with_some q (λ a y. flat_state.gives nil y) (λ p. flat_signals.enter (flat_context r) wrong' p [] called vs))
    procedure_enters None None t w called vs around bound z y x = given nil x
    procedure_enters None (Some q) t w called vs around bound z y x = absurd t
    procedure_enters (Some p) None t w called vs around bound z y x = absurd t
    procedure_enters (Some p) (Some q) t w called vs around bound z y x =
        subst (λ (f : FlatProcedure). Sim r.lambdas w
        (enter (core_context r) wrong p.required p.rest p.body (record no_environment { method = called }) called vs around z)
        (flat_signals.enter (flat_context r) wrong' f [] called vs (flat_around around bound) y))
        (sym t.is)
        (enters no_scope t.first [] p.required p.rest p.body t.sound w (record no_environment { method = called }) [] called (no_scope_matches w.kinds called) vs around bound z y x)

    pub applies : (w : World) (i : ℕ) (called : Option Called) (vs : List Value)
        → Acts r.lambdas w (apply_procedure (core_context r) wrong i called vs) (flat_signals.apply_procedure (flat_context r) wrong' i called vs)
    applies w i called vs around bound z y x =
        descends around bound z y x (λ entered later a.
        procedure_enters (slice_get r.program.procedures i) (slice_get r.procedures i) (r.all i) w called vs around bound entered later a)

    pub function_applies : (u : World) (required : List ℕ) (rest : Option ℕ) (body : Form) (env : Environment) (p : ℕ) (cs : List Captured)
        → ClosureAlike r.lambdas u.kinds required rest body env p cs → (w : World) → Later w u → (vs : List Value) (around : DynamicContext) (bound : BindingsMatch u around) (z : State) (y : FlatState)
        → Beside r.lambdas u z y
        → Sim r.lambdas w (apply_closure (core_context r) wrong required rest body env vs around z) (flat_signals.apply_function (flat_context r) wrong' p cs vs (flat_around around bound) y)
    function_applies u required rest body env p cs alike w l vs around bound z y x =
        sooner l (descends around bound z y x (λ entered later a.
        subst (λ (o : Option FlatProcedure). Sim r.lambdas u
        (enter (core_context r) wrong required rest body env None vs around entered)
        (flat_signals.with_some o (λ c d. flat_state.gives nil d) (λ q. flat_signals.enter (flat_context r) wrong' q cs None vs) (flat_around around bound) later))
        (sym alike.there)
        (enters alike.scope alike.first alike.kinds required rest body alike.sound u env cs None alike.environment vs around bound entered later a)))

    pub method_applies : (w : World) (i : ℕ) (called : Called)
        → Acts r.lambdas w (apply_method (core_context r) wrong i called) (flat_signals.apply_method (flat_context r) wrong' i called)
    method_applies w i called = applies w i (Some called) called.arguments

    each_applies : (w : World) (ms : List ℕ) (vs : List Value)
        → Acts r.lambdas w (apply_each (core_context r) wrong ms vs) (flat_signals.apply_each (flat_context r) wrong' ms vs)
    each_applies w [] vs around bound z y x = given nil x
    each_applies w (m ∷ ms) vs around bound z y x =
        on (applies w m None vs around bound z y x) (λ v after later a. each_applies w ms vs around bound after later a)

    primary_runs : (w : World) (c : Chain) (qs : List ℕ) (vs : List Value)
        → Acts r.lambdas w (run_primary (core_context r) wrong c qs vs) (flat_signals.run_primary (flat_context r) wrong' c qs vs)
    primary_runs w c [] vs around bound z y x = s w control_error_class [] around bound z y x
    primary_runs w c (p ∷ qs) vs around bound z y x =
        on (each_applies w c.before vs around bound z y x) (λ ignored before before' f.
        on (method_applies w p (record { arguments = vs; rest = record { around = []; before = []; primary = qs; after = [] } }) around bound before before' f) (λ v primary primary' g.
        on (each_applies w c.after vs around bound primary primary' g) (λ ignored after after' h.
        given v h)))

    around_runs : (w : World) (c : Chain) (ms : List ℕ) (vs : List Value)
        → Acts r.lambdas w (run_around (core_context r) wrong c ms vs) (flat_signals.run_around (flat_context r) wrong' c ms vs)
    around_runs w c [] vs around bound z y x = primary_runs w c c.primary vs around bound z y x
    around_runs w c (m ∷ ms) vs around bound z y x = method_applies w m (record { arguments = vs; rest = record c { around = ms } }) around bound z y x

    pub chain_runs : (w : World) (c : Chain) (vs : List Value)
        → Acts r.lambdas w (run_chain (core_context r) wrong c vs) (flat_signals.run_chain (flat_context r) wrong' c vs)
    chain_runs w c vs around bound z y x = around_runs w c c.around vs around bound z y x

    pub undefined : (w : World) (name : List ℕ)
        → Acts r.lambdas w (undefined_function wrong name) (flat_signals.undefined_function wrong' name)
    undefined w name around bound z y x = s w undefined_function_class (symbol (named name) ∷ []) around bound z y x

    chain_applies : (w : World) (g : GenericRow) (c : Option Chain) (vs : List Value)
        → Acts r.lambdas w (apply_chain (core_context r) wrong g c vs) (flat_signals.apply_chain (flat_context r) wrong' g c vs)
    chain_applies w g None vs around bound z y x = undefined w (text r.names g.name.0) around bound z y x
    chain_applies w g (Some c) vs around bound z y x =
        descends around bound z y x (λ entered later a.
        framed r.limit (16 + length vs) entered later a (λ inner inner' i.
        r.alike.methods_alike c vs w around bound (charged (length vs) inner) (flat_state.charged (length vs) inner') (charges (length vs) i)))

    generic_row_applies : (w : World) (g : Option GenericRow) (vs : List Value)
        → Acts r.lambdas w (apply_generic_row (core_context r) wrong g vs) (flat_signals.apply_generic_row (flat_context r) wrong' g vs)
    generic_row_applies w None vs around bound z y x = given nil x
    generic_row_applies w (Some g) vs around bound z y x =
        tests (takes g.required g.rest (length vs))
        (subst (λ cs. Sim r.lambdas w
        (apply_chain (core_context r) wrong g (chain r.program g (map (class_of z) (take g.required vs))) vs around z)
        (flat_signals.apply_chain (flat_context r) wrong' g (chain (bare r.program) g cs) vs (flat_around around bound) y))
        (sym (classes_same x (take g.required vs)))
        (subst (λ o. Sim r.lambdas w
        (apply_chain (core_context r) wrong g (chain r.program g (map (class_of z) (take g.required vs))) vs around z)
        (flat_signals.apply_chain (flat_context r) wrong' g o vs (flat_around around bound) y))
        (sym (chain_same r.program g (map (class_of z) (take g.required vs))))
        (chain_applies w g (chain r.program g (map (class_of z) (take g.required vs))) vs around bound z y x)))
        (s w program_error_class [] around bound z y x)

    pub generic_applies : (w : World) (i : ℕ) (vs : List Value)
        → Acts r.lambdas w (apply_generic (core_context r) wrong i vs) (flat_signals.apply_generic (flat_context r) wrong' i vs)
    generic_applies w i vs around bound z y x = generic_row_applies w (slice_get r.program.generics i) vs around bound z y x

    object_applies : (w : World) (o : Option Object) (t : Option (List Captured))
        → ((required : List ℕ) (rest : Option ℕ) (body : Form) (env : Environment) → o ≡ Some (closure required rest body env) → ⊥)
        → ((p : ℕ) → o ≡ Some (function p) → t ≡ None) → (f : Value) (vs : List Value)
        → Acts r.lambdas w (apply_object (core_context r) wrong o f vs) (flat_signals.apply_object (flat_context r) wrong' o t f vs)
    object_applies w (Some (function p)) t plain bare_one f vs around bound z y x =
        subst (λ c. Sim r.lambdas w (apply_procedure (core_context r) wrong p None vs around z) (flat_signals.apply_object (flat_context r) wrong' (Some (function p)) c f vs (flat_around around bound) y))
        (sym (bare_one p refl)) (applies w p None vs around bound z y x)
    object_applies w (Some (closure required rest body env)) t plain bare_one f vs around bound z y x = absurd (plain required rest body env refl)
    object_applies w (Some (generic_function g)) t plain bare_one f vs around bound z y x = generic_applies w g vs around bound z y x
    object_applies w (Some (cons a d)) t plain bare_one f vs around bound z y x = s w _ _ around bound z y x
    object_applies w (Some (string bytes)) t plain bare_one f vs around bound z y x = s w _ _ around bound z y x
    object_applies w (Some (vector us)) t plain bare_one f vs around bound z y x = s w _ _ around bound z y x
    object_applies w (Some (instance c us mark)) t plain bare_one f vs around bound z y x = s w _ _ around bound z y x
    object_applies w (Some (class_object c)) t plain bare_one f vs around bound z y x = s w _ _ around bound z y x
    object_applies w (Some input_stream) t plain bare_one f vs around bound z y x = s w _ _ around bound z y x
    object_applies w (Some output_stream) t plain bare_one f vs around bound z y x = s w _ _ around bound z y x
    object_applies w (Some (fresh_symbol n)) t plain bare_one f vs around bound z y x = s w _ _ around bound z y x
    object_applies w None t plain bare_one f vs around bound z y x = s w _ _ around bound z y x

    pub value_applies : (w : World) (f : Value) (vs : List Value)
        → Acts r.lambdas w (apply_value (core_context r) wrong f vs) (flat_signals.apply_value (flat_context r) wrong' f vs)
    value_applies w (integer n) vs around bound z y x = s w _ _ around bound z y x
    value_applies w (character n) vs around bound z y x = s w _ _ around bound z y x
    value_applies w (symbol n) vs around bound z y x = s w _ _ around bound z y x
    value_applies w nil vs around bound z y x = s w _ _ around bound z y x
    value_applies w (object i) vs around bound z y x =
        at_twin (λ now. Sim r.lambdas w (apply_value (core_context r) wrong (object i) vs around z) (flat_signals.apply_value (flat_context r) wrong' (object i) vs (flat_around around bound) now)) x (λ t.
        let now : FlatState = twin r.lambdas z x.store x.boxes x.frame x.captured in
        ⊎_elim
        (λ (e : SameObject r.lambdas (slice_get z.store i) (slice_get x.store i) (under i x.captured)).
        subst (λ o. Sim r.lambdas w
        (apply_object (core_context r) wrong (slice_get z.store i) (object i) vs around z)
        (flat_signals.apply_object (flat_context r) wrong' o (under i x.captured) (object i) vs (flat_around around bound) now))
        (sym e.same)
        (object_applies w (slice_get z.store i) (under i x.captured) e.plain e.bare (object i) vs around bound z now t))
        (λ (e : SameFunction r.lambdas x.world.kinds (slice_get z.store i) (slice_get x.store i) (under i x.captured)).
        subst (λ o. Sim r.lambdas w
        (apply_object (core_context r) wrong o (object i) vs around z)
        (flat_signals.apply_object (flat_context r) wrong' (slice_get x.store i) (under i x.captured) (object i) vs (flat_around around bound) now))
        (sym e.one)
        (subst (λ o. Sim r.lambdas w
        (apply_closure (core_context r) wrong e.required e.rest e.body e.env vs around z)
        (flat_signals.apply_object (flat_context r) wrong' o (under i x.captured) (object i) vs (flat_around around bound) now))
        (sym e.other)
        (subst (λ o. Sim r.lambdas w
        (apply_closure (core_context r) wrong e.required e.rest e.body e.env vs around z)
        (flat_signals.apply_object (flat_context r) wrong' (Some (function e.procedure)) o (object i) vs (flat_around around bound) now))
        (sym e.under)
        (function_applies x.world e.required e.rest e.body e.env e.procedure e.captured e.alike w x.later vs around (bound_later around.bindings x.later.kinds bound) z now (here t)))))
        (x.related.objects i))
      where
        here : Beside r.lambdas w z (twin r.lambdas z x.store x.boxes x.frame x.captured) → Beside r.lambdas x.world z (twin r.lambdas z x.store x.boxes x.frame x.captured)
        here t = record { world = x.world; later = itself x.world; store = x.store; boxes = x.boxes; frame = x.frame; captured = x.captured; related = x.related; is = refl }

    callee_applies : (w : World) (c : Callee) (vs : List Value)
        → Acts r.lambdas w (apply_callee (core_context r) wrong c vs) (flat_signals.apply_callee (flat_context r) wrong' c vs)
    callee_applies w (callee.Procedure p) vs around bound z y x = applies w p None vs around bound z y x
    callee_applies w (callee.Generic g) vs around bound z y x = generic_applies w g vs around bound z y x

    pub row_applies : (w : World) (name : List ℕ) (row : Option FunctionRow) (vs : List Value)
        → Acts r.lambdas w (apply_row (core_context r) wrong name row vs) (flat_signals.apply_row (flat_context r) wrong' name row vs)
    row_applies w name None vs around bound z y x = undefined w name around bound z y x
    row_applies w name (Some f) vs around bound z y x = callee_applies w f.callee vs around bound z y x

  pub conditions : (w : World) (class : ℕ) (slots : List Value) (z : State) (y : FlatState) → Beside r.lambdas w z y
      → {next : Value → State → Evaluated} {next' : Value → FlatState → FlatEvaluated} → Continues r.lambdas w next next'
      → Sim r.lambdas w (new_condition (core_context r) class slots z next) (flat_signals.new_condition (flat_context r) class slots y next')
  conditions w class slots z y x c = made r.limit _ 0 _ (instance_datum class (map Some slots) nil) z y x c

  pub exits_same : {w : World} {z : State} {y : FlatState} → Beside r.lambdas w z y → y.state.exits ≡ z.exits
  exits_same x = ap (λ (q : FlatState). q.state.exits) x.is

  -- the signals under handlers, from the outermost handler on
  pub signals_under : (w : World) (hs : List Value) (c mark : Value)
      → Acts r.lambdas w (signal_under (core_context r) hs c mark) (flat_signals.signal_under (flat_context r) hs c mark)
  signals_under w [] c mark around bound z y x = ends (exit 0 c (at_site around.site)) (exits_made (marks c mark x))
  signals_under w (h ∷ hs) c mark around bound z y x =
      at_twin (λ now. Sim r.lambdas w (signal_under (core_context r) (h ∷ hs) c mark around z) (flat_signals.signal_under (flat_context r) (h ∷ hs) c mark (flat_around around bound) now)) x (λ t.
      catches z.exits
      (on
      (value_applies
      (λ class slots inner q. new_condition (core_context r) class slots q (λ e after. signal_under (core_context r) hs e nil inner after))
      (λ class slots inner q. flat_signals.new_condition (flat_context r) class slots q (λ e after. flat_signals.signal_under (flat_context r) hs e nil inner after))
      (λ u class slots inner bound_inner p q g. conditions u class slots p q g (λ e after later a. signals_under u hs e nil inner bound_inner after later a))
      w h (c ∷ []) (record (inside (signal_exit c mark) around z) { handlers = hs }) bound _ _ (charges 1 (exits_made (marks c mark t))))
      (λ v after later a. conditions w control_error_class [] after later a
      (λ e made_one made_other m. signals_under w hs e nil (record (inside (signal_exit c mark) around z) { handlers = hs }) bound made_one made_other m))))

  pub signals : Signs (signal (core_context r)) (flat_signals.signal (flat_context r))
  signals w class slots around bound z y x =
      conditions w class slots z y x (λ c made_one made_other m. signals_under w around.handlers c nil around bound made_one made_other m)

  -- the answer of a primitive
  answers_as : (w u : World) (frame : List FrameSlot) (cs : List (ℕ × List Captured)) → Later w u → (a : Answer) (q : State) → Twins r.lambdas u frame cs (state_of a) q → MakesDatum a
      → (around : DynamicContext) (bound : BindingsMatch w around) (z : State) (y : FlatState) → y.frame ≡ frame × y.captured ≡ cs
      → Sim r.lambdas w (answered (core_context r) a around z) (flat_signals.answered (flat_context r) (moved q a) (flat_around around bound) y)
  answers_as w u frame cs l (result v a) q t d around bound z y e = given v (of_twins l t y e)
  answers_as w u frame cs l (makes size besides o a) q t d around bound z y e =
      made r.limit size besides o d a _ (of_twins l t y e) (λ v after later g. given v g)
  answers_as w u frame cs l (makes_symbol a) q t d around bound z y e =
      subst (λ n. Sim r.lambdas w (answered (core_context r) (makes_symbol a) around z)
      (flat_state.make r.limit 2 0 (fresh_symbol n) (record y { state = q }) (λ v after. flat_state.gives v (flat_state.on_state (λ (x : State). record x { symbols = x.symbols + 1 }) after))))
      (sym (ap (λ (x : State). x.symbols) t.is))
      (made r.limit 2 0 (fresh_symbol a.symbols) (symbol_datum a.symbols) a _ (of_twins l t y e)
      (λ v after later g. given v (step (λ (x : State). record x { symbols = x.symbols + 1 }) g (λ x. refl) (λ x. refl) (λ x os vs. refl))))
  answers_as w u frame cs l (fails class slots a) q t d around bound z y e = signals w class slots around bound a _ (of_twins l t y e)
  answers_as w u frame cs l (domain_error v expected a) q t d around bound z y e =
      domain_signals (signal (core_context r)) (flat_signals.signal (flat_context r)) signals w v expected around bound a _ (of_twins l t y e)

  pub answers : (w u : World) (frame : List FrameSlot) (cs : List (ℕ × List Captured)) → Later w u → (a a' : Answer) → AnswersAlike r.lambdas u frame cs a a'
      → (around : DynamicContext) (bound : BindingsMatch w around) (z : State) (y : FlatState) → y.frame ≡ frame × y.captured ≡ cs
      → Sim r.lambdas w (answered (core_context r) a around z) (flat_signals.answered (flat_context r) a' (flat_around around bound) y)
  answers w u frame cs l a a' same around bound z y e =
      subst (λ c. Sim r.lambdas w (answered (core_context r) a around z) (flat_signals.answered (flat_context r) c (flat_around around bound) y)) (sym same.same)
      (answers_as w u frame cs l a (state_of a') same.twins same.datum around bound z y e)

  -- transfers
  exits_found : (w : World) (p : Exit → Bool) {go : Exit → Act} (go' : Exit → FlatAct) → ((e : Exit) → Acts r.lambdas w (go e) (go' e))
      → Acts r.lambdas w (to_exit (core_context r) p go) (flat_signals.to_exit (flat_context r) p go')
  exits_found w p go' g around bound z y x =
      searches p (λ e after later a. g e around bound after later a) (λ after later a. signals w control_error_class [] around bound after later a) around.exits z y x

  pub transfers : (w : World) (o : Option ℕ) (v : Value) (landing : Landing)
      → Acts r.lambdas w (transfer (core_context r) o v landing) (flat_signals.transfer (flat_context r) o v landing)
  transfers w None v landing around bound z y x = signals w control_error_class [] around bound z y x
  transfers w (Some e) v landing around bound z y x =
      exits_found w (λ q. q.number == e) (λ q inner after. flat_state.leaves q.number v landing after) (λ q inner bound_inner after later a. ends (exit q.number v landing) a) around bound z y x

  pub throws : (w : World) (tag v : Value) → Acts r.lambdas w (throw_to (core_context r) tag v) (flat_signals.throw_to (flat_context r) tag v)
  throws w tag v around bound z y x =
      exits_found w (λ q. is_catch tag q.kind) (λ q inner after. flat_state.leaves q.number v (at_segment 0) after) (λ q inner bound_inner after later a. ends (exit q.number v (at_segment 0)) a) around bound z y x

  pub continues : (w : World) (c v : Value) → Acts r.lambdas w (continue_with (core_context r) c v) (flat_signals.continue_with (flat_context r) c v)
  continues w c v around bound z y x =
      exits_found w (λ q. is_signal c q.kind)
      (λ q inner after.
      if is_continuable q.kind then flat_state.leaves q.number v (at_segment 0) after else flat_signals.signal (flat_context r) control_error_class [] inner after)
      (λ q inner bound_inner after later a.
      tests (is_continuable q.kind) (ends (exit q.number v (at_segment 0)) a) (signals w control_error_class [] inner bound_inner after later a)) around bound z y x
