-- Forms, and tasks, of a program and of it made flat.
use Rattle.std.proofs.Common.{◌≡◌, ℕ, zero, suc, ◌+◌, ◌-◌, Bool, false, List, [], ◌∷◌, ◌++◌, refl, sym, ap, subst, ◌∙◌, inr, Option, Some, None, length, map, arith, length-append}
use Rattle.std.specs.Str.{bytes_eq}
use Rattle.std.specs.Prelude.{slice_get, if◌then◌else◌}
use Rattle.lang_meaning.specs.declared.capture.Capture.{Capture}
use Rattle.lang_meaning.specs.declared.program.LiteralRow.{LiteralRow}
use Rattle.lang_meaning.specs.declared.program.LiteralRow.TheVariants as row
use Rattle.lang_meaning.specs.Form.{Form, Forms, ClauseForms, MaybeForm, BindingForms, DynamicForms}
use Rattle.lang_meaning.specs.Form as core
use Rattle.lang_meaning.specs.Counts as core_counts
use Rattle.lang_meaning.specs.Values.{Value, integer, character, symbol, named, nil, object, truth, is_true}
use Rattle.lang_meaning.specs.Objects.{Called, Environment, no_environment, Object, cons, string, vector, instance, generic_function, class_object, input_stream, output_stream, fresh_symbol, closure, function, function_class, list_class, serious_condition_class, control_error_class, unbound_variable_class}
use Rattle.lang_meaning.specs.State.{State, DynamicContext, block_exit, catch_exit, Landing, at_segment, value, Evaluated, gives, Act, inside, exit_made, charged, caught, Limit, make, stored}
use Rattle.lang_meaning.specs.Lookup.{text, is_in, under_text, under_number, value_at, set_at, numbered, with_values, with_exit}
use Rattle.lang_meaning.specs.Classes.{fetch, is_condition}
use Rattle.lang_meaning.specs.Literals.{function_row}
use Rattle.lang_meaning.specs.InitialHeap.{function_value}
use Rattle.lang_meaning.specs.Primitives.{primitive, is_function}
use Rattle.lang_meaning.specs.Signals.{nothing, turn, unbound_variable, signal_domain_error, with_some, search, transfer, signal, apply_value}
use Rattle.lang_meaning.specs.Meaning.{Spread, mean_literal, mean_global, set_global_to, mean_dynamic, set_dynamic_to, mean_apply, mean_call_value, mean_signal, with_handler_value, mean_next, turned, unless_nil, from_segment, segment_of, with_turns, bound_variables, bound_names, spread, spread_at, place_of_site, mean, mean_sequence, mean_arguments, mean_clauses, mean_body, mean_bindings, mean_dynamics, mean_task, is_next}
use Rattle.flat_language.specs.FlatMeaning.{mean as flat_mean, mean_sequence as flat_sequence, mean_arguments as flat_arguments, mean_clauses as flat_clauses_mean, mean_body as flat_body_mean, mean_bindings as flat_bindings_mean, mean_dynamics as flat_dynamics_mean}
use Rattle.flat_language.specs.FlatForm.{FlatForms}
use Rattle.flat_language.specs.declared.program.FlatProcedure.{FlatProcedure}
use Rattle.flat_language.specs.FlatState.{Captured, FlatEnvironment, FlatState, FlatEvaluated, FlatAct, under, captured_part, method_of, exit_of, value_of, set_to}
use Rattle.flat_language.specs.FlatState as flat_state
use Rattle.flat_language.specs.FlatSignals.{FlatContext, FlatTask, FlatEvaluation}
use Rattle.flat_language.specs.FlatSignals as flat_signals
use Rattle.flat_language.specs.FlatMeaning as flat_meaning
use Rattle.flat_language.specs.Scope.{Scope, homes_of, home_of, with_bound, with_around, known_or, exit_or, method_or, flat_parts, kinds_of, seen, method_place_of, exit_place_of}
use Rattle.flat_language.specs.Flatten.{functions, functions_of_values, functions_of_body, functions_of_dynamics, flat, flat_forms, flat_clauses, flat_body, flat_bindings, flat_dynamics}
use Rattle.flat_language.proofs.Alike.{VariableKind, boxed, World, StandsIn, Later, SameBindings, BindingsAlike, BindingsMatch, flat_around, Matches, IsAround, IsInMethod, Sound, SoundForms, SoundClauses, SoundBody, SoundValues, SoundDynamics, ClosureAlike, ObjectsAlike, Beside, twin, Sim, Follows, Acts}
use Rattle.flat_language.proofs.Combined.{now, kept_after, kept_more, bound_later, after_that, matches_kept, matches_later, at_twin, step, charges, exits_made, sooner, given, on, tests, lands_on, catches, cleans, some, requests, dynamics_made}
use Rattle.flat_language.proofs.NewSlots.{boxes_from, with_new_dynamics}
use Rattle.flat_language.proofs.Environments.{binds, around_matches, value_same, box_value, variable_set, place_set, seen_matches, under_first, under_after}
use Rattle.flat_language.proofs.Lists.{equal_or_not, unequal, pushed, behind}
use Rattle.flat_language.proofs.Nodes.{length-parts, forms_counted, clauses_counted, bindings_counted, dynamics_counted}
use Rattle.flat_language.proofs.Answers.{bare, observed, function_same, condition_same, primitives_alike}
use Rattle.flat_language.proofs.Applied.{Both, BelowAlike, core_context, flat_context, twins_of, domain_signals, value_applies, signals_under, signals, answers, transfers, throws, continues, chain_runs, row_applies, undefined}

-- what `apply` does, by whether its function is one and by what is spread from its list
abbrev applied_as : FlatContext → Value → Value → DynamicContext → FlatState → Bool → Spread → FlatEvaluated
applied_as context f list around y b s =
    if b then
    (if s.proper then flat_signals.apply_value context (flat_signals.signal context) f s.elements around (flat_state.charged (length s.elements) y)
    else flat_signals.signal_domain_error context (flat_signals.signal context) list list_class around (flat_state.charged (length s.elements) y))
    else flat_signals.signal_domain_error context (flat_signals.signal context) f function_class around y

closure_later : {ps : List FlatProcedure} {ks ls : List VariableKind} {required : List ℕ} {rest : Option ℕ} {body : Form} {env : Environment} {p : ℕ} {cs : List Captured} → StandsIn ks ls
    → ClosureAlike ps ks required rest body env p cs → ClosureAlike ps ls required rest body env p cs
closure_later l a = record { scope = a.scope; first = a.first; kinds = a.kinds; there = a.there; sound = a.sound; environment = matches_kept l refl a.environment }

-- what is spread from a list is the same on both sides
spread_alike : (others others' : ℕ → Value → Spread) → ((i : ℕ) (d : Value) → others' i d ≡ others i d) → (seen : List ℕ) (i : ℕ) (o : Option Object)
    → spread_at others' seen (object i) o ≡ spread_at others seen (object i) o
spread_alike others others' h seen i (Some (cons a d)) =
    ap (λ (q : Spread). let r : Spread = (if is_in i seen then record { elements = []; proper = false } else record { elements = a ∷ q.elements; proper = q.proper }) in r) (h i d)
spread_alike others others' h seen i (Some (string bytes)) = refl
spread_alike others others' h seen i (Some (vector us)) = refl
spread_alike others others' h seen i (Some (instance c us mark)) = refl
spread_alike others others' h seen i (Some (function p)) = refl
spread_alike others others' h seen i (Some (closure required rest body env)) = refl
spread_alike others others' h seen i (Some (generic_function g)) = refl
spread_alike others others' h seen i (Some (class_object c)) = refl
spread_alike others others' h seen i (Some input_stream) = refl
spread_alike others others' h seen i (Some output_stream) = refl
spread_alike others others' h seen i (Some (fresh_symbol n)) = refl
spread_alike others others' h seen i None = refl

spread_same : {ps : List FlatProcedure} {w : World} {z : State} {y : FlatState} → Beside ps w z y → (n : ℕ) (seen : List ℕ) (v : Value)
    → spread n y.state seen v ≡ spread n z seen v
spread_same x zero seen v = refl
spread_same x (suc n) seen (integer i) = refl
spread_same x (suc n) seen (character i) = refl
spread_same x (suc n) seen (symbol i) = refl
spread_same x (suc n) seen nil = refl
spread_same {ps} {w} {z} {y} x (suc n) seen (object i) =
    spread_alike (λ j d. spread n z (j ∷ seen) d) (λ j d. spread n y.state (j ∷ seen) d) (λ j d. spread_same x n (j ∷ seen) d) seen i (fetch y.state (object i))
    ∙ observed ps x.world x.frame x.captured (twins_of x) (λ o. spread_at (λ j d. spread n z (j ∷ seen) d) seen (object i) o) (λ a b c d e. refl) (object i)

-- the segments from one on, made flat
record Segments (ps : List FlatProcedure) (s : Scope) (i : ℕ) (fs : Forms) (flats : FlatForms) : Type 0 where
  first : ℕ
  is : flats ≡ flat_forms s first (from_segment i fs)
  sound : SoundForms ps s first (from_segment i fs)

segments : (ps : List FlatProcedure) (s : Scope) (n i : ℕ) (fs : Forms) → SoundForms ps s n fs → Segments ps s i fs (flat_meaning.from_segment i (flat_forms s n fs))
unfolding flat
segments ps s n zero fs t = record { first = n; is = refl; sound = t }
segments ps s n (suc i) core.no_form t = record { first = n; is = refl; sound = t }
segments ps s n (suc i) (core.form_and f fs) t =
    let rest : Segments ps s i fs (flat_meaning.from_segment i (flat_forms s (n + functions f) fs)) = segments ps s (n + functions f) i fs t.1 in
    record { first = rest.first; is = rest.is; sound = rest.sound }

names_same : (names : List (List ℕ)) (s : Scope) (n : ℕ) (ds : DynamicForms) → flat_meaning.bound_names names (flat_dynamics s n ds) ≡ bound_names names ds
unfolding flat
names_same names s n core.no_dynamic = refl
names_same names s n (core.dynamic_and name f ds) = ap (λ ns. text names name ∷ ns) (names_same names s (n + functions f) ds)

pub homes_same : (s : Scope) (n : ℕ) (body : Form) (bs : BindingForms) → flat_meaning.binding_homes (flat_bindings s n body bs) ≡ homes_of (bound_variables bs) body
unfolding flat
homes_same s n body core.no_binding = refl
homes_same s n body (core.binding_and v f bs) = ap (λ hs. home_of v body ∷ hs) (homes_same s (n + functions f) body bs)

length-mapped : {X Y : Type 0} (f : X → Y) (xs : List X) → length (map f xs) ≡ length xs
length-mapped f [] = refl
length-mapped f (x ∷ xs) = ap suc (length-mapped f xs)

one_more : (vs : List Value) (u : Value) (k : ℕ) → length (vs ++ u ∷ []) + k ≡ length vs + suc k
one_more vs u k = ap (λ n. n + k) (length-append vs (u ∷ [])) ∙ (let q : (length vs + 1) + k ≡ length vs + suc k = omega arith in q)

-- new dynamic bindings, of variables with new boxes
numbered_same : (ks : List VariableKind) (ns : List (List ℕ)) (vs : List Value) → length vs ≡ length ns → (i j : ℕ)
    → ((m : ℕ) (k : VariableKind) → slice_get (boxes_from j vs) m ≡ Some k → slice_get ks (i + m) ≡ Some k)
    → (bs cs : List (List ℕ × ℕ)) → SameBindings ks bs cs → SameBindings ks (numbered ns i ++ bs) (numbered ns j ++ cs)
numbered_same ks [] vs len i j h bs cs e = e
numbered_same ks (n ∷ ns) [] len i j h bs cs e = absurd (cc len)
numbered_same ks (n ∷ ns) (v ∷ vs) len i j h bs cs e = (
  refl,
  (let q : i + 0 ≡ i = omega arith in subst (λ m. slice_get ks m ≡ Some (boxed j)) q (h 0 (boxed j) refl)),
  numbered_same ks ns vs (omega (arith, len)) (i + 1) (j + 1)
      (λ m k g. let q : i + suc m ≡ (i + 1) + m = omega arith in subst (λ l. slice_get ks l ≡ Some k) q (h (suc m) k g)) bs cs e,
)

module _ {ps : List FlatProcedure} where
  -- a function is made
  with_function : {w : World} {z : State} {y : FlatState} (required : List ℕ) (rest : Option ℕ) (body : Form) (env : Environment) (p : ℕ) (cs : List Captured)
      → (b : Beside ps w z y) → ClosureAlike ps b.world.kinds required rest body env p cs
      → Beside ps w (stored (closure required rest body env) z)
      (record y { state = stored (function p) y.state; captured = (length y.state.store, cs) ∷ y.captured })
  with_function {w} {z} {y} required rest body env p cs b alike = record {
    world = b.world;
    later = b.later;
    store = b.store ++ function p ∷ [];
    boxes = b.boxes;
    frame = b.frame;
    captured = (length b.store, cs) ∷ b.captured;
    related = record {
      values = b.related.values;
      lengths = length-append b.store (function p ∷ []) ∙ ap (λ n. n + 1) b.related.lengths ∙ sym (length-append z.store (closure required rest body env ∷ []));
      objects = λ i.
          pushed (λ o o'. ObjectsAlike ps b.world.kinds o o' (under i ((length b.store, cs) ∷ b.captured))) z.store b.store (closure required rest body env) (function p) i b.related.lengths
          (λ e. inr (record {
            required = required;
            rest = rest;
            body = body;
            env = env;
            procedure = p;
            captured = cs;
            one = refl;
            other = refl;
            under = equal_or_not i (length b.store)
                (λ is t. under_first i (length b.store) cs b.captured t)
                (λ f. absurd (unequal i (length b.store) f (e ∙ sym b.related.lengths)));
            alike = alike;
          }))
          (λ apart.
          subst (λ t. ObjectsAlike ps b.world.kinds (slice_get z.store i) (slice_get b.store i) t)
          (sym (under_after i (length b.store) cs b.captured (equal_or_not i (length b.store) (λ is t. absurd (apart (is ∙ b.related.lengths))) (λ f. f))))
          (b.related.objects i));
    };
    is = ap (λ (x : FlatState). record x { state = stored (function p) x.state; captured = (length x.state.store, cs) ∷ x.captured }) b.is;
  }

  function_made : {w : World} (limit : Limit) (required : List ℕ) (rest : Option ℕ) (body : Form) (env : Environment) (p : ℕ) (cs : List Captured)
      (k : ℕ) → length cs ≡ k → (z : State) (y : FlatState) → Beside ps w z y → ClosureAlike ps w.kinds required rest body env p cs
      → Sim ps w (make limit (2 + k) 0 (closure required rest body env) z (λ v after. gives v after))
      (flat_state.make_closure limit p cs y (λ v after. flat_state.gives v after))
  function_made {w} limit required rest body env p cs k len z y b alike =
      subst (λ l. Sim ps w (make limit (2 + l) 0 (closure required rest body env) z (λ v after. gives v after))
      (flat_state.make_closure limit p cs y (λ v after. flat_state.gives v after))) len
      (requests limit (2 + length cs) 0 z y b (λ entered later a.
      record {
        beside = with_function required rest body env p cs (charges (2 + length cs + 0) a) (closure_later (charges (2 + length cs + 0) a).later.kinds alike);
        same = ap (λ n. value (object n)) (ap (λ (x : FlatState). length x.state.store) a.is ∙ a.related.lengths);
      }))

module _ (r : Both) where
  literals : (w : World) (id : ℕ) (o : Option LiteralRow) → Acts r.lambdas w (mean_literal (core_context r) id o) (flat_meaning.mean_literal (flat_context r) id o)
  literals w id None around bound z y x = given nil x
  literals w id (Some (row.Datum d)) around bound z y x = given _ x
  literals w id (Some (row.Class c)) around bound z y x = given _ x
  literals w id (Some (row.Function name)) around bound z y x =
      some (function_row r.names r.program.functions (text r.names name.0))
      (flat_signals.undefined_function (flat_signals.signal (flat_context r)) (text r.names name.0))
      (λ f a y. flat_state.gives (function_value r.names (bare r.program) (text r.names name.0)) y)
      (undefined r (signal (core_context r)) (flat_signals.signal (flat_context r)) (signals r) w (text r.names name.0))
      (λ f a bound_a c d e. given (function_value r.names r.program (text r.names name.0)) e)
      around bound z y x

  unbound : (w : World) (name : List ℕ) → Acts r.lambdas w (unbound_variable (signal (core_context r)) name) (flat_signals.unbound_variable (flat_signals.signal (flat_context r)) name)
  unbound w name = signals r w unbound_variable_class (symbol (named name) ∷ [])

  globals : (w : World) (name : List ℕ) → Acts r.lambdas w (mean_global (core_context r) name) (flat_meaning.mean_global (flat_context r) name)
  globals w name around bound z y x =
      at_twin (λ q. Sim r.lambdas w (mean_global (core_context r) name around z) (flat_meaning.mean_global (flat_context r) name (flat_around around bound) q)) x (λ t.
      some (under_text name z.globals) (flat_signals.unbound_variable (flat_signals.signal (flat_context r)) name) (λ v a y. flat_state.gives v y) (unbound w name) (λ v a bound_a c d e. given v e) around bound z _ t)

  globals_set : (w : World) (name : List ℕ) (v : Value) → Acts r.lambdas w (set_global_to (core_context r) name v) (flat_meaning.set_global_to (flat_context r) name v)
  globals_set w name v around bound z y x =
      at_twin (λ q. Sim r.lambdas w (set_global_to (core_context r) name v around z) (flat_meaning.set_global_to (flat_context r) name v (flat_around around bound) q)) x (λ t.
      some (under_text name z.globals) (flat_signals.unbound_variable (flat_signals.signal (flat_context r)) name)
      (λ old a y. flat_state.gives v (flat_state.on_state (λ (q : State). record q { globals = (name, v) ∷ q.globals }) y)) (unbound w name)
      (λ old a bound_a c d e. given v (step (λ (q : State). record q { globals = (name, v) ∷ q.globals }) e (λ q. refl) (λ q. refl) (λ q os vs. refl))) around bound z _ t)

  -- the outermost dynamic value, and the innermost binding
  outermost : (w : World) (name : List ℕ) {next : Value → Act} (next' : Value → FlatAct) → ((v : Value) → Acts r.lambdas w (next v) (next' v))
      → (around : DynamicContext) (bound : BindingsMatch w around) (z : State) (y : FlatState) → Beside r.lambdas w z y
      → Sim r.lambdas w (with_some (under_text name z.dynamics) (unbound_variable (signal (core_context r)) name) next around z)
      (flat_signals.with_some (under_text name y.state.dynamics) (flat_signals.unbound_variable (flat_signals.signal (flat_context r)) name) next' (flat_around around bound) y)
  outermost w name {next} next' c around bound z y x =
      at_twin (λ q. Sim r.lambdas w (with_some (under_text name z.dynamics) (unbound_variable (signal (core_context r)) name) next around z)
      (flat_signals.with_some (under_text name q.state.dynamics) (flat_signals.unbound_variable (flat_signals.signal (flat_context r)) name) next' (flat_around around bound) q)) x (λ t.
      some (under_text name z.dynamics) (flat_signals.unbound_variable (flat_signals.signal (flat_context r)) name) next' (unbound w name) c around bound z _ t)

  -- a search among bindings of the same names
  bindings_searched : (w : World) (name : List ℕ) {found : List ℕ × ℕ → State → Evaluated} {found' : List ℕ × ℕ → FlatState → FlatEvaluated}
      {otherwise : State → Evaluated} {otherwise' : FlatState → FlatEvaluated}
      → ((b c : List ℕ × ℕ) → slice_get w.kinds b.1 ≡ Some (boxed c.1) → Follows r.lambdas w (found b) (found' c)) → Follows r.lambdas w otherwise otherwise'
      → (bs cs : List (List ℕ × ℕ)) → SameBindings w.kinds bs cs → (z : State) (y : FlatState) → Beside r.lambdas w z y
      → Sim r.lambdas w (search (λ (b : List ℕ × ℕ). bytes_eq name b.0) found otherwise bs z)
      (flat_signals.search (λ (c : List ℕ × ℕ). bytes_eq name c.0) found' otherwise' cs y)
  bindings_searched w name f o [] [] e z y x = o z y x
  bindings_searched w name f o [] (c ∷ cs) e z y x = absurd e
  bindings_searched w name f o (b ∷ bs) [] e z y x = absurd e
  bindings_searched w name {found} {found'} {otherwise} {otherwise'} f o (b ∷ bs) (c ∷ cs) e z y x =
      subst (λ n. Sim r.lambdas w (search (λ (b : List ℕ × ℕ). bytes_eq name b.0) found otherwise (b ∷ bs) z)
      (if bytes_eq name n then found' c (flat_state.charged 1 y)
      else flat_signals.search (λ (c : List ℕ × ℕ). bytes_eq name c.0) found' otherwise' cs (flat_state.charged 1 y)))
      (sym e.0)
      (tests (bytes_eq name b.0)
      (f b c e.1 (charged 1 z) _ (charges 1 x))
      (bindings_searched w name f o bs cs e.2 (charged 1 z) _ (charges 1 x)))

  dynamics : (w : World) (name : List ℕ) → Acts r.lambdas w (mean_dynamic (core_context r) name) (flat_meaning.mean_dynamic (flat_context r) name)
  dynamics w name around bound z y x =
      bindings_searched w name
      (λ b c h after later a.
      subst (λ v. Sim r.lambdas w (gives (value_at (Some b.1) after) after) (flat_state.gives v later)) (sym (box_value b.1 c.1 h a)) (given (value_at (Some b.1) after) a))
      (λ c d e. outermost w name (λ v a y. flat_state.gives v y) (λ v a bound_a f g h. given v h) around bound c d e)
      around.bindings bound.bindings bound.same z y x

  dynamics_set : (w : World) (name : List ℕ) (v : Value) → Acts r.lambdas w (set_dynamic_to (core_context r) name v) (flat_meaning.set_dynamic_to (flat_context r) name v)
  dynamics_set w name v around bound z y x =
      bindings_searched w name
      (λ b c h after later a. given v (variable_set b.1 c.1 v h a))
      (λ c d e. outermost w name (λ old a y. flat_state.gives v (flat_state.on_state (λ (q : State). record q { dynamics = (name, v) ∷ q.dynamics }) y)) (λ old a bound_a f g h.
      given v (step (λ (q : State). record q { dynamics = (name, v) ∷ q.dynamics }) h (λ q. refl) (λ q. refl) (λ q os vs. refl))) around bound c d e)
      around.bindings bound.bindings bound.same z y x

  values_apply : (w : World) (f : Value) (vs : List Value) → Acts r.lambdas w (apply_value (core_context r) (signal (core_context r)) f vs) (flat_signals.apply_value (flat_context r) (flat_signals.signal (flat_context r)) f vs)
  values_apply w f vs = value_applies r (signal (core_context r)) (flat_signals.signal (flat_context r)) (signals r) w f vs

  domains : (w : World) (v : Value) (expected : ℕ) → Acts r.lambdas w (signal_domain_error (core_context r) (signal (core_context r)) v expected) (flat_signals.signal_domain_error (flat_context r) (flat_signals.signal (flat_context r)) v expected)
  domains w v expected = domain_signals r (signal (core_context r)) (flat_signals.signal (flat_context r)) (signals r) w v expected

  lists_apply : (w : World) (f list : Value) → Acts r.lambdas w (mean_apply (core_context r) f list) (flat_meaning.mean_apply (flat_context r) f list)
  lists_apply w f list around bound z y x =
      subst (λ b. Sim r.lambdas w (mean_apply (core_context r) f list around z) (applied_as (flat_context r) f list (flat_around around bound) y b (spread (length y.state.store + 1) y.state [] list)))
      (sym (function_same r.lambdas x.world x.frame x.captured (twins_of x) f))
      (subst (λ s. Sim r.lambdas w (mean_apply (core_context r) f list around z) (applied_as (flat_context r) f list (flat_around around bound) y (is_function (fetch z f)) s))
      (sym (spread_same x (length y.state.store + 1) [] list ∙ ap (λ n. spread (n + 1) z [] list) (ap (λ (q : FlatState). length q.state.store) x.is ∙ x.related.lengths)))
      (tests (is_function (fetch z f))
      (tests (spread (length z.store + 1) z [] list).proper
      (values_apply w f _ around bound _ _ (charges (length (spread (length z.store + 1) z [] list).elements) x))
      (domains w list list_class around bound _ _ (charges (length (spread (length z.store + 1) z [] list).elements) x)))
      (domains w f function_class around bound z y x)))

  calls : (w : World) (vs : List Value) → Acts r.lambdas w (mean_call_value (core_context r) vs) (flat_meaning.mean_call_value (flat_context r) vs)
  calls w [] around bound z y x = given nil x
  calls w (f ∷ vs) around bound z y x = values_apply w f vs around bound z y x

  condition_signals : (w : World) (c mark : Value) → Acts r.lambdas w (mean_signal (core_context r) c mark) (flat_meaning.mean_signal (flat_context r) c mark)
  condition_signals w c mark around bound z y x =
      subst (λ b. Sim r.lambdas w (mean_signal (core_context r) c mark around z)
      (if b then flat_signals.signal_under (flat_context r) around.handlers c mark (flat_around around bound) y
      else flat_signals.signal_domain_error (flat_context r) (flat_signals.signal (flat_context r)) c serious_condition_class (flat_around around bound) y))
      (sym (condition_same r.lambdas x.world x.frame x.captured (twins_of x) r.program c))
      (tests (is_condition r.program z c)
      (signals_under r w around.handlers c mark around bound z y x)
      (domains w c serious_condition_class around bound z y x))

  handlers : (w : World) (h : Value) (around : DynamicContext) (bound : BindingsMatch w around) (z : State) (y : FlatState) → Beside r.lambdas w z y
      → {body : Act} (body' : FlatAct) → Acts r.lambdas w body body'
      → Sim r.lambdas w (with_handler_value (core_context r) h body around z) (flat_meaning.with_handler_value (flat_context r) h body' (flat_around around bound) y)
  handlers w h around bound z y x {body} body' c =
      subst (λ b. Sim r.lambdas w (with_handler_value (core_context r) h body around z)
      (if b then body' (record (flat_around around bound) { handlers = h ∷ around.handlers }) y
      else flat_signals.signal_domain_error (flat_context r) (flat_signals.signal (flat_context r)) h function_class (flat_around around bound) y))
      (sym (function_same r.lambdas x.world x.frame x.captured (twins_of x) h))
      (tests (is_function (fetch z h)) (c (record around { handlers = h ∷ around.handlers }) bound z y x)
      (domains w h function_class around bound z y x))

  nexts : (w : World) (m : Option Called) → Acts r.lambdas w (mean_next (core_context r) m) (flat_meaning.mean_next (flat_context r) m)
  nexts w None around bound z y x = signals r w control_error_class [] around bound z y x
  nexts w (Some called) around bound z y x =
      chain_runs r (signal (core_context r)) (flat_signals.signal (flat_context r)) (signals r) w called.rest called.arguments around bound z y x

  turns : (s : Scope) (n i : ℕ) (all : Forms) → SoundForms r.lambdas s n all → (w : World) (env : Environment) (e : FlatEnvironment) → Matches w s env e
      → (around : DynamicContext) (bound : BindingsMatch w around) {a : Evaluated} {b : FlatEvaluated} → Sim r.lambdas w a b
      → Sim r.lambdas w (turned (core_context r) i all env around a) (flat_meaning.turned (flat_context r) i (flat_forms s n all) e (flat_around around bound) b)
  turns s n i all t w env e m around bound x =
      lands_on i
      (λ v landing z y b.
      let g : Segments r.lambdas s (segment_of landing) all (flat_meaning.from_segment (segment_of landing) (flat_forms s n all)) = segments r.lambdas s n (segment_of landing) all t in
      subst (λ fs. Sim r.lambdas w (r.low (turn i (from_segment (segment_of landing) all) all) env around z) (r.low' (flat_signals.turn i fs (flat_forms s n all)) e (flat_around around bound) y))
      (sym g.is)
      (r.alike.turns_alike s g.first n i (from_segment (segment_of landing) all) all g.sound t w env e m around bound z y b))
      (on x (λ v after later a. given nil a))

  truths : {w : World} (v : Value) {a b : Evaluated} {c d : FlatEvaluated} → Sim r.lambdas w a c → Sim r.lambdas w b d
      → Sim r.lambdas w (unless_nil v a b) (flat_meaning.unless_nil v c d)
  truths v x y = tests (is_true v) x y

  exit_same : (w : World) (s : Scope) (env : Environment) (e : FlatEnvironment) → Matches w s env e → (x : ℕ) → IsAround s x
      → exit_of (exit_place_of s x) e ≡ under_number x env.exits
  exit_same w s env e m x t =
      ap (λ q. exit_of (exit_or q) e) t.there ∙ (m.exits x t.place t.there).other ∙ sym (m.exits x t.place t.there).one

  method_same : (w : World) (s : Scope) (env : Environment) (e : FlatEnvironment) → Matches w s env e → IsInMethod s
      → method_of (method_place_of s) e ≡ env.method
  method_same w s env e m t = ap (λ q. method_of (method_or q) e) t.there ∙ m.method t.place t.there

  transfers_to : (w : World) (o o' : Option ℕ) → o' ≡ o → (v : Value) (landing : Landing)
      → Acts r.lambdas w (transfer (core_context r) o v landing) (flat_signals.transfer (flat_context r) o' v landing)
  transfers_to w o o' h v landing around bound z y x =
      subst (λ q. Sim r.lambdas w (transfer (core_context r) o v landing around z) (flat_signals.transfer (flat_context r) q v landing (flat_around around bound) y)) (sym h)
      (transfers r w o v landing around bound z y x)

  captures_alike : {w : World} {z : State} {y : FlatState} (s : Scope) (n : ℕ) (required : List ℕ) (rest : Option ℕ) (body : Form) (parts : List Capture)
      → Sound r.lambdas s n (core.lambda required rest body parts)
      → (env : Environment) (e : FlatEnvironment) → Matches w s env e → (x : Beside r.lambdas w z y)
      → ClosureAlike r.lambdas x.world.kinds required rest body env n (map (captured_part e y) (flat_parts s parts))
  captures_alike {w} {z} {y} s n required rest body parts t env e m x = record {
    scope = seen s parts;
    first = n + 1;
    kinds = kinds_of s parts;
    there = t.1;
    sound = t.2;
    environment = seen_matches (matches_later x.later m) x.related.values y (ap (λ (q : FlatState). q.frame) x.is) parts t.0;
  }

  mutual
    unfolding mean flat_mean flat

    pub means : (s : Scope) (n : ℕ) (f : Form) → Sound r.lambdas s n f → (w : World) (env : Environment) (e : FlatEnvironment) → Matches w s env e
        → Acts r.lambdas w (mean (core_context r) f env) (flat_mean (flat_context r) (flat s n f) e)
    means s n (core.literal id) t w env e m around bound z y x = literals w id _ around bound _ _ (charges 1 x)
    means s n (core.local v) t w env e m around bound z y x =
        subst (λ q. Sim r.lambdas w (gives (value_at (under_number v env.variables) z) (charged 1 z)) (flat_state.gives (value_of (known_or q).place e y) (flat_state.charged 1 y)))
        (sym t.there)
        (subst (λ u. Sim r.lambdas w (gives (value_at (under_number v env.variables) z) (charged 1 z)) (flat_state.gives u (flat_state.charged 1 y)))
        (sym (value_same e t.known (under_number v env.variables) x (m.variables v t.known t.there)))
        (given (value_at (under_number v env.variables) z) (charges 1 x)))
    means s n (core.set_local v f) t w env e m around bound z y x =
        on (means s n f t.1 w env e m around bound _ _ (charges 1 x)) (λ u after later a.
        subst (λ q. Sim r.lambdas w (gives u (set_at (under_number v env.variables) u after)) (flat_state.gives u (set_to (known_or q).place u e later)))
        (sym t.0.there)
        (given u (place_set e t.0.known (under_number v env.variables) t.0.free a (m.variables v t.0.known t.0.there) u)))
    means s n (core.global name) t w env e m around bound z y x = globals w (text r.names name) around bound _ _ (charges 2 x)
    means s n (core.set_global name f) t w env e m around bound z y x =
        on (means s n f t w env e m around bound _ _ (charges 2 x)) (λ u after later a. globals_set w (text r.names name) u around bound after later a)
    means s n (core.def_global name f) t w env e m around bound z y x =
        on (means s n f t w env e m around bound _ _ (charges 2 x)) (λ u after later a.
        given _ (step (λ (q : State). record q { globals = (text r.names name, u) ∷ q.globals }) a (λ q. refl) (λ q. refl) (λ q os vs. refl)))
    means s n (core.clauses cs) t w env e m around bound z y x =
        subst (λ k. Sim r.lambdas w (mean (core_context r) (core.clauses cs) env around z) (flat_clauses_mean (flat_context r) (flat_clauses s n cs) e (flat_around around bound) (flat_state.charged (1 + k) y)))
        (sym (clauses_counted s n cs))
        (clauses_mean s n cs t w env e m around bound _ _ (charges (1 + core_counts.count_clauses cs) x))
    means s n (core.sequence fs) t w env e m around bound z y x = sequence_means nil s n fs t w env e m around bound _ _ (charges 1 x)
    means s n (core.let_form bs body) t w env e m around bound z y x =
        subst (λ k. Sim r.lambdas w (mean (core_context r) (core.let_form bs body) env around z)
        (flat_bindings_mean (flat_context r) (flat_bindings s n body bs) [] e (flat_around around bound) (flat_state.charged (1 + k) y) (λ vs after.
        flat_signals.with_boxes r.limit (flat_meaning.binding_homes (flat_bindings s n body bs)) after (λ ready.
        flat_state.in_new_slots (flat_meaning.binding_homes (flat_bindings s n body bs)) vs (λ inner.
        flat_mean (flat_context r) (flat (with_bound (bound_variables bs) body s) (n + functions_of_values bs) body) e (flat_around around bound) inner) ready))))
        (sym (bindings_counted s n body bs))
        (bindings_mean s n body bs t.0 [] w env e m around bound _ _ (charges (1 + core_counts.count_bindings bs) x) (λ vs len after later a.
        binds r.limit m (bound_variables bs) body (flat_meaning.binding_homes (flat_bindings s n body bs)) (homes_same s n body bs) vs
        (len ∙ (let q : 0 + length (bound_variables bs) ≡ length (bound_variables bs) = omega arith in q))
        {run = λ inner. mean (core_context r) body inner} (flat_mean (flat_context r) (flat (with_bound (bound_variables bs) body s) (n + functions_of_values bs) body) e)
        (λ u inner i. means (with_bound (bound_variables bs) body s) (n + functions_of_values bs) body t.1 u inner e i)
        around bound after later a))
    means s n (core.lambda required rest body parts) t w env e m around bound z y x =
        subst (λ k. Sim r.lambdas w (mean (core_context r) (core.lambda required rest body parts) env around z)
        (flat_state.make_closure r.limit n (map (captured_part e y) (flat_parts s parts)) (flat_state.charged (1 + k) y) (λ v after. flat_state.gives v after)))
        (sym (length-parts s parts))
        (sooner x.later
        (function_made r.limit required rest body env n (map (captured_part e y) (flat_parts s parts)) (length parts)
        (length-mapped (captured_part e y) (flat_parts s parts) ∙ length-parts s parts)
        _ _ (charges (1 + length parts) (now x))
        (captures_alike s n required rest body parts t env e m x)))
    means s n (core.call name fs) t w env e m around bound z y x =
        subst (λ k. Sim r.lambdas w (mean (core_context r) (core.call name fs) env around z)
        (flat_arguments (flat_context r) (flat_forms s n fs) [] e (flat_around around bound) (flat_state.charged (2 + k) y) (λ vs after.
        flat_signals.apply_row (flat_context r) (flat_signals.signal (flat_context r)) (text r.names name) (function_row r.names r.program.functions (text r.names name)) vs (flat_around around bound) after)))
        (sym (forms_counted s n fs))
        (arguments_mean s n fs t [] w env e m around bound _ _ (charges (2 + core_counts.count_forms fs) x) (λ vs after later a.
        row_applies r (signal (core_context r)) (flat_signals.signal (flat_context r)) (signals r) w (text r.names name) _ vs around bound after later a))
    means s n (core.call_value fs) t w env e m around bound z y x =
        subst (λ k. Sim r.lambdas w (mean (core_context r) (core.call_value fs) env around z)
        (flat_arguments (flat_context r) (flat_forms s n fs) [] e (flat_around around bound) (flat_state.charged (1 + k) y) (λ vs after. flat_meaning.mean_call_value (flat_context r) vs (flat_around around bound) after)))
        (sym (forms_counted s n fs))
        (arguments_mean s n fs t [] w env e m around bound _ _ (charges (1 + core_counts.count_forms fs) x) (λ vs after later a.
        calls w vs around bound after later a))
    means s n (core.apply f list) t w env e m around bound z y x =
        on (means s n f t.0 w env e m around bound _ _ (charges 1 x)) (λ u after later a.
        on (means s (n + functions f) list t.1 w env e m around bound after later a) (λ v ready ready' c. lists_apply w u v around bound ready ready' c))
    means s n (core.prim which fs) t w env e m around bound z y x =
        subst (λ k. Sim r.lambdas w (mean (core_context r) (core.prim which fs) env around z)
        (flat_arguments (flat_context r) (flat_forms s n fs) [] e (flat_around around bound) (flat_state.charged (1 + k) y) (λ vs after.
        flat_signals.answered (flat_context r) (primitive r.names (bare r.program) which vs after.state) (flat_around around bound) after)))
        (sym (forms_counted s n fs))
        (arguments_mean s n fs t [] w env e m around bound _ _ (charges (1 + core_counts.count_forms fs) x) (λ vs after later a.
        answers r w a.world a.frame a.captured a.later (primitive r.names r.program which vs after) (primitive r.names (bare r.program) which vs later.state)
        (primitives_alike r.lambdas a.world a.frame a.captured r.names r.program which vs after later.state (twins_of a)) around bound after later
        (ap (λ (q : FlatState). q.frame) a.is, ap (λ (q : FlatState). q.captured) a.is)))
    means s n (core.while_form test body) t w env e m around bound z y x =
        on (means s n test t.0 w env e m around bound _ _ (charges 1 x)) (λ v after later a.
        truths v
        (on (means s (n + functions test) body t.1 w env e m around bound after later a) (λ ignored again again' c.
        r.alike.forms_alike s n (core.while_form test body) t w env e m around bound again again' c))
        (given nil a))
    means s n (core.block v body) t w env e m around bound z y x =
        at_twin (λ q. Sim r.lambdas w (mean (core_context r) (core.block v body) env around z) (flat_mean (flat_context r) (flat s n (core.block v body)) e (flat_around around bound) q)) x (λ a.
        catches z.exits
        (means (with_around v s) n body t w (with_exit v z env) (flat_meaning.with_exit (twin r.lambdas z x.store x.boxes x.frame x.captured) e) (around_matches m v z (twin r.lambdas z x.store x.boxes x.frame x.captured) refl)
        (inside block_exit around z) bound _ _ (exits_made (charges 2 a))))
    means s n (core.return_from v f) t w env e m around bound z y x =
        on (means s n f t.1 w env e m around bound _ _ (charges 1 x)) (λ u after later a.
        transfers_to w (under_number v env.exits) (exit_of (exit_place_of s v) e) (exit_same w s env e m v t.0) u (at_segment 0) around bound after later a)
    means s n (core.tagbody v fs) t w env e m around bound z y x =
        at_twin (λ q. Sim r.lambdas w (mean (core_context r) (core.tagbody v fs) env around z) (flat_mean (flat_context r) (flat s n (core.tagbody v fs)) e (flat_around around bound) q)) x (λ a.
        let after_exit : FlatEnvironment = flat_meaning.with_exit (twin r.lambdas z x.store x.boxes x.frame x.captured) e in
        subst (λ k. Sim r.lambdas w (mean (core_context r) (core.tagbody v fs) env around z)
        (flat_meaning.turned (flat_context r) z.exits (flat_forms (with_around v s) n fs) after_exit (flat_around around bound)
        (flat_sequence (flat_context r) nil (flat_forms (with_around v s) n fs) after_exit (with_turns z.exits (flat_around around bound))
        (flat_state.exit_made (flat_state.charged (2 + (k - 1)) (twin r.lambdas z x.store x.boxes x.frame x.captured))))))
        (sym (forms_counted (with_around v s) n fs))
        (turns (with_around v s) n z.exits fs t w (with_exit v z env) after_exit (around_matches m v z (twin r.lambdas z x.store x.boxes x.frame x.captured) refl) around bound
        (sequence_means nil (with_around v s) n fs t w (with_exit v z env) after_exit (around_matches m v z (twin r.lambdas z x.store x.boxes x.frame x.captured) refl) (with_turns z.exits around) bound
        _ _ (exits_made (charges (2 + (core_counts.count_forms fs - 1)) a)))))
    means s n (core.go v segment) t w env e m around bound z y x =
        transfers_to w (under_number v env.exits) (exit_of (exit_place_of s v) e) (exit_same w s env e m v t) nil (at_segment segment) around bound _ _ (charges 1 x)
    means s n (core.catch_form tag body) t w env e m around bound z y x =
        on (means s n tag t.0 w env e m around bound _ _ (charges 2 x)) (λ v after later a.
        at_twin (λ q. Sim r.lambdas w (caught after.exits (mean (core_context r) body env (inside (catch_exit v) around after) (exit_made after)))
        (flat_state.caught q.state.exits (flat_mean (flat_context r) (flat s (n + functions tag) body) e (flat_signals.inside (catch_exit v) (flat_around around bound) q) (flat_state.exit_made q)))) a (λ c.
        catches after.exits (means s (n + functions tag) body t.1 w env e m (inside (catch_exit v) around after) bound _ _ (exits_made c))))
    means s n (core.throw tag f) t w env e m around bound z y x =
        on (means s n tag t.0 w env e m around bound _ _ (charges 1 x)) (λ v after later a.
        on (means s (n + functions tag) f t.1 w env e m around bound after later a) (λ u ready ready' c.
        throws r w v u around bound ready ready' c))
    means s n (core.unwind f cleanup) t w env e m around bound z y x =
        cleans around bound (λ within after. flat_mean (flat_context r) (flat s (n + functions f) cleanup) e within after) (λ within bound_within after later a. means s (n + functions f) cleanup t.1 w env e m within bound_within after later a)
        (means s n f t.0 w env e m around bound _ _ (charges 2 x))
    means s n (core.dynamic_let ds body) t w env e m around bound z y x =
        subst (λ k. Sim r.lambdas w (mean (core_context r) (core.dynamic_let ds body) env around z)
        (flat_dynamics_mean (flat_context r) (flat_dynamics s n ds) [] e (flat_around around bound) (flat_state.charged (1 + k) y) (λ vs after.
        flat_mean (flat_context r) (flat s (n + functions_of_dynamics ds) body) e
        (record around { bindings = numbered (flat_meaning.bound_names r.names (flat_dynamics s n ds)) (length after.state.variables) ++ bound.bindings })
        (flat_state.with_values vs after))))
        (sym (dynamics_counted s n ds))
        (dynamics_mean s n ds t.0 [] w env e m around bound _ _ (charges (1 + core_counts.count_dynamics ds) x) (λ vs len after later a.
        subst (λ ns. Sim r.lambdas w
        (mean (core_context r) body env (record around { bindings = numbered (bound_names r.names ds) (length after.variables) ++ around.bindings }) (with_values vs after))
        (flat_mean (flat_context r) (flat s (n + functions_of_dynamics ds) body) e
        (record around { bindings = numbered ns (length later.state.variables) ++ bound.bindings })
        (flat_state.with_values vs later)))
        (sym (names_same r.names s n ds))
        (subst (λ j. Sim r.lambdas w
        (mean (core_context r) body env (record around { bindings = numbered (bound_names r.names ds) (length after.variables) ++ around.bindings }) (with_values vs after))
        (flat_mean (flat_context r) (flat s (n + functions_of_dynamics ds) body) e
        (record around { bindings = numbered (bound_names r.names ds) j ++ bound.bindings })
        (flat_state.with_values vs later)))
        (sym (ap (λ (q : FlatState). length q.state.variables) a.is))
        (let u : World = with_new_dynamics a.world vs (length after.variables) (length a.boxes) in
        let l : Later a.world u = record { kinds = kept_more a.world.kinds (boxes_from (length a.boxes) vs); own = refl; start = refl } in
        let now : BindingsAlike u.kinds around.bindings = bound_later around.bindings (kept_after a.later.kinds l.kinds) bound in
        sooner (after_that a.later l)
        (means s (n + functions_of_dynamics ds) body t.1 u env e (matches_later (after_that a.later l) m)
        (record around { bindings = numbered (bound_names r.names ds) (length after.variables) ++ around.bindings })
        (record {
          bindings = numbered (bound_names r.names ds) (length a.boxes) ++ bound.bindings;
          same = numbered_same u.kinds (bound_names r.names ds) vs (len ∙ (let q : 0 + length (bound_names r.names ds) ≡ length (bound_names r.names ds) = omega arith in q))
              (length after.variables) (length a.boxes)
              (λ k o g. subst (λ i. slice_get u.kinds (i + k) ≡ Some o) a.related.values.count (behind a.world.kinds (boxes_from (length a.boxes) vs) k ∙ g))
              around.bindings bound.bindings now.same;
        })
        _ _ (dynamics_made vs a))))))
    means s n (core.dynamic name) t w env e m around bound z y x = dynamics w (text r.names name) around bound _ _ (charges 2 x)
    means s n (core.set_dynamic name f) t w env e m around bound z y x =
        on (means s n f t w env e m around bound _ _ (charges 2 x)) (λ u after later a. dynamics_set w (text r.names name) u around bound after later a)
    means s n (core.def_dynamic name f) t w env e m around bound z y x =
        on (means s n f t w env e m around bound _ _ (charges 2 x)) (λ u after later a.
        given _ (step (λ (q : State). record q { dynamics = (text r.names name, u) ∷ q.dynamics }) a (λ q. refl) (λ q. refl) (λ q os vs. refl)))
    means s n (core.with_handler handler body) t w env e m around bound z y x =
        on (means s n handler t.0 w env e m around bound _ _ (charges 2 x)) (λ h after later a.
        handlers w h around bound after later a (λ within ready. flat_mean (flat_context r) (flat s (n + functions handler) body) e within ready) (λ within bound_within ready ready' c. means s (n + functions handler) body t.1 w env e m within bound_within ready ready' c))
    means s n (core.signal_form condition mark) t w env e m around bound z y x =
        on (means s n condition t.0 w env e m around bound _ _ (charges 1 x)) (λ c after later a.
        on (means s (n + functions condition) mark t.1 w env e m around bound after later a) (λ v ready ready' d. condition_signals w c v around bound ready ready' d))
    means s n (core.continue_form condition f) t w env e m around bound z y x =
        on (means s n condition t.0 w env e m around bound _ _ (charges 1 x)) (λ c after later a.
        on (means s (n + functions condition) f t.1 w env e m around bound after later a) (λ v ready ready' d. continues r w c v around bound ready ready' d))
    means s n core.next_method t w env e m around bound z y x =
        subst (λ o. Sim r.lambdas w (mean (core_context r) core.next_method env around z) (flat_meaning.mean_next (flat_context r) o (flat_around around bound) (flat_state.charged 1 y)))
        (sym (method_same w s env e m t))
        (nexts w env.method around bound _ _ (charges 1 x))
    means s n core.has_next t w env e m around bound z y x =
        subst (λ o. Sim r.lambdas w (mean (core_context r) core.has_next env around z) (flat_state.gives (truth (is_next o)) (flat_state.charged 1 y)))
        (sym (method_same w s env e m t))
        (given (truth (is_next env.method)) (charges 1 x))
    means s n (core.sited site f) t w env e m around bound z y x =
        means s n f t w env e m (record around { site = place_of_site r.program.sites site }) bound z y x

    sequence_means : (last : Value) (s : Scope) (n : ℕ) (fs : Forms) → SoundForms r.lambdas s n fs → (w : World) (env : Environment) (e : FlatEnvironment) → Matches w s env e
        → Acts r.lambdas w (mean_sequence (core_context r) last fs env) (flat_sequence (flat_context r) last (flat_forms s n fs) e)
    sequence_means last s n core.no_form t w env e m around bound z y x = given last x
    sequence_means last s n (core.form_and f fs) t w env e m around bound z y x =
        on (means s n f t.0 w env e m around bound z y x) (λ v after later a. sequence_means v s (n + functions f) fs t.1 w env e m around bound after later a)

    arguments_mean : (s : Scope) (n : ℕ) (fs : Forms) → SoundForms r.lambdas s n fs → (vs : List Value) (w : World) (env : Environment) (e : FlatEnvironment) → Matches w s env e
        → (around : DynamicContext) (bound : BindingsMatch w around) (z : State) (y : FlatState) → Beside r.lambdas w z y
        → {next : List Value → State → Evaluated} {next' : List Value → FlatState → FlatEvaluated} → ((us : List Value) → Follows r.lambdas w (next us) (next' us))
        → Sim r.lambdas w (mean_arguments (core_context r) fs vs env around z next) (flat_arguments (flat_context r) (flat_forms s n fs) vs e (flat_around around bound) y next')
    arguments_mean s n core.no_form t vs w env e m around bound z y x c = c vs z y x
    arguments_mean s n (core.form_and f fs) t vs w env e m around bound z y x c =
        on (means s n f t.0 w env e m around bound z y x) (λ v after later a.
        arguments_mean s (n + functions f) fs t.1 (vs ++ v ∷ []) w env e m around bound after later a c)

    clauses_mean : (s : Scope) (n : ℕ) (cs : ClauseForms) → SoundClauses r.lambdas s n cs → (w : World) (env : Environment) (e : FlatEnvironment) → Matches w s env e
        → Acts r.lambdas w (mean_clauses (core_context r) cs env) (flat_clauses_mean (flat_context r) (flat_clauses s n cs) e)
    clauses_mean s n core.no_clause t w env e m around bound z y x = given nil x
    clauses_mean s n (core.clause_and test body cs) t w env e m around bound z y x =
        on (means s n test t.0 w env e m around bound z y x) (λ v after later a.
        truths v (body_means v s (n + functions test) body t.1 w env e m around bound after later a)
        (clauses_mean s (n + (functions test + functions_of_body body)) cs t.2 w env e m around bound after later a))

    body_means : (v : Value) (s : Scope) (n : ℕ) (b : MaybeForm) → SoundBody r.lambdas s n b → (w : World) (env : Environment) (e : FlatEnvironment) → Matches w s env e
        → Acts r.lambdas w (mean_body (core_context r) v b env) (flat_body_mean (flat_context r) v (flat_body s n b) e)
    body_means v s n core.no_body t w env e m around bound z y x = given v x
    body_means v s n (core.with_body f) t w env e m around bound z y x = means s n f t w env e m around bound z y x

    bindings_mean : (s : Scope) (n : ℕ) (body : Form) (bs : BindingForms) → SoundValues r.lambdas s n bs → (vs : List Value) (w : World) (env : Environment) (e : FlatEnvironment) → Matches w s env e
        → (around : DynamicContext) (bound : BindingsMatch w around) (z : State) (y : FlatState) → Beside r.lambdas w z y
        → {next : List Value → State → Evaluated} {next' : List Value → FlatState → FlatEvaluated}
        → ((us : List Value) → length us ≡ length vs + length (bound_variables bs) → Follows r.lambdas w (next us) (next' us))
        → Sim r.lambdas w (mean_bindings (core_context r) bs vs env around z next) (flat_bindings_mean (flat_context r) (flat_bindings s n body bs) vs e (flat_around around bound) y next')
    bindings_mean s n body core.no_binding t vs w env e m around bound z y x c = c vs (let q : length vs ≡ length vs + 0 = omega arith in q) z y x
    bindings_mean s n body (core.binding_and v f bs) t vs w env e m around bound z y x c =
        on (means s n f t.0 w env e m around bound z y x) (λ u after later a.
        bindings_mean s (n + functions f) body bs t.1 (vs ++ u ∷ []) w env e m around bound after later a (λ us len. c us (len ∙ one_more vs u (length (bound_variables bs)))))

    dynamics_mean : (s : Scope) (n : ℕ) (ds : DynamicForms) → SoundDynamics r.lambdas s n ds → (vs : List Value) (w : World) (env : Environment) (e : FlatEnvironment) → Matches w s env e
        → (around : DynamicContext) (bound : BindingsMatch w around) (z : State) (y : FlatState) → Beside r.lambdas w z y
        → {next : List Value → State → Evaluated} {next' : List Value → FlatState → FlatEvaluated}
        → ((us : List Value) → length us ≡ length vs + length (bound_names r.names ds) → Follows r.lambdas w (next us) (next' us))
        → Sim r.lambdas w (mean_dynamics (core_context r) ds vs env around z next) (flat_dynamics_mean (flat_context r) (flat_dynamics s n ds) vs e (flat_around around bound) y next')
    dynamics_mean s n core.no_dynamic t vs w env e m around bound z y x c = c vs (let q : length vs ≡ length vs + 0 = omega arith in q) z y x
    dynamics_mean s n (core.dynamic_and name f ds) t vs w env e m around bound z y x c =
        on (means s n f t.0 w env e m around bound z y x) (λ u after later a.
        dynamics_mean s (n + functions f) ds t.1 (vs ++ u ∷ []) w env e m around bound after later a (λ us len. c us (len ∙ one_more vs u (length (bound_names r.names ds)))))

  tasks_nothing : (w : World) → Acts r.lambdas w (mean_task (core_context r) nothing no_environment) (flat_meaning.mean_task (flat_context r) flat_signals.nothing flat_state.no_environment)
  tasks_nothing w around bound z y x = given nil x

  -- tasks, at one level more
  pub tasks_alike : BelowAlike r.lambdas (mean_task (core_context r)) (flat_meaning.mean_task (flat_context r))
  tasks_alike = record {
    nothing_alike = tasks_nothing;
    forms_alike = means;
    turns_alike = λ s m n i rest all t u w env e q around bound z y x.
        turns s n i all u w env e q around bound
        (sequence_means nil s m rest t w env e q (with_turns i around) bound z y x);
    methods_alike = λ c vs w. chain_runs r (signal (core_context r)) (flat_signals.signal (flat_context r)) (signals r) w c vs;
  }
