-- Forms and tasks side by side, over the meaning one level below on both sides: one line a form.
use Rattle.std.specs.Prelude.{◌≡◌, ℕ, zero, suc, ◌+◌, List, [], ◌∷◌, ◌++◌, Option, Some, None, if◌then◌else◌, length, map, option_map, slice_get, refl}
use Rattle.std.specs.Str.{bytes_eq}
use Rattle.std.proofs.Common.{ap, ◌∙◌}
use Rattle.lang_meaning.specs.declared.program.LiteralRow.{LiteralRow}
use Rattle.lang_meaning.specs.declared.program.LiteralRow.TheVariants as row
use Rattle.lang_meaning.specs.Form.{Form, literal, local, set_local, global, set_global, def_global, clauses, sequence, let_form, lambda, call, call_value, apply, prim, while_form, block, return_from, tagbody, go, catch_form, throw, unwind, dynamic_let, dynamic, set_dynamic, def_dynamic, with_handler, signal_form, continue_form, next_method, has_next, sited}
use Rattle.lang_meaning.specs.Form.{Forms, no_form, form_and, ClauseForms, no_clause, clause_and, MaybeForm, no_body, with_body}
use Rattle.lang_meaning.specs.Form.{BindingForms, no_binding, binding_and, DynamicForms, no_dynamic, dynamic_and}
use Rattle.lang_meaning.specs.Counts.{own_nodes}
use Rattle.lang_meaning.specs.Values.{Value, symbol, named, nil, truth, is_true}
use Rattle.lang_meaning.specs.Objects.{Called, Environment, closure, fresh_symbol, function_class, list_class, serious_condition_class, control_error_class, unbound_variable_class}
use Rattle.lang_meaning.specs.State.{State, DynamicContext, block_exit, catch_exit, at_segment, Evaluated, gives, Act, caught, inside, exit_made, charged}
use Rattle.lang_meaning.specs.Lookup.{text, under_text, under_number, value_at, set_at, numbered, with_variables, with_values, with_exit}
use Rattle.lang_meaning.specs.Classes.{fetch, is_condition}
use Rattle.lang_meaning.specs.Literals.{function_row}
use Rattle.lang_meaning.specs.InitialHeap.{function_of, literal_value, function_value}
use Rattle.lang_meaning.specs.Primitives.{Answer, result, makes, makes_symbol, fails, domain_error, is_function, primitive}
use Rattle.lang_meaning.specs.Signals.{Context, nothing, form, turn, methods, with_some, with_boxes, signal_domain_error, undefined_function, unbound_variable, signal, answered, apply_value, apply_row}
use Rattle.lang_meaning.specs.Meaning.{charged_for, place_of_site, unless_nil, from_segment, segment_of, with_turns, bound_variables, bound_names, Spread, spread, is_next, mean_literal, mean_global, set_global_to, mean_dynamic, set_dynamic_to, mean_apply, mean_call_value, mean_signal, with_handler_value, mean_next, turned, mean, mean_sequence, mean_arguments, mean_clauses, mean_body, mean_bindings, mean_dynamics, mean_task}
use Rattle.lang_renamed.specs.Renaming.{form_by, forms_by, clauses_by, body_by, bindings_by, dynamics_by, literal_by, function_by, program_by}
use Rattle.lang_renamed.specs.RenamedRuns.{state_by}
use Rattle.lang_renamed.proofs.Lists.{both, get_by}
use Rattle.lang_renamed.proofs.Walks.{own_by}
use Rattle.lang_renamed.proofs.Stores.{function_by_value, spread_by}
use Rattle.lang_renamed.proofs.Classes.{condition_by}
use Rattle.lang_renamed.proofs.Starting.{stands_by, literal_value_by, row_by}
use Rattle.lang_renamed.proofs.Alike.{Renamed, StateRenamed, ContinuesAll, Acts, now, moved, at_state, given, charges, on, tests, lands_on, catches, cleans, some, some_by, made, boxes, searches}
use Rattle.lang_renamed.proofs.Applying as applying
use Rattle.lang_renamed.proofs.Applying.{Beside, first, second, Both, Within, class_value_by, domain_signals, undefined, row_applies, chain_runs, exits_made, signals_under, signals, transfers, throws, continues}
use Rattle.lang_renamed.proofs.Answering.{answer_by, primitive_by}

from_by : (r : ℕ → ℕ) (n : ℕ) (fs : Forms) → from_segment n (forms_by r fs) ≡ forms_by r (from_segment n fs)
from_by r zero fs = refl
from_by r (suc n) no_form = refl
from_by r (suc n) (form_and f fs) = from_by r n fs

bound_by : (r : ℕ → ℕ) (bs : BindingForms) → bound_variables (bindings_by r bs) ≡ bound_variables bs
bound_by r no_binding = refl
bound_by r (binding_and v f bs) = ap (λ (vs : List ℕ). v ∷ vs) (bound_by r bs)

module _ {r : ℕ → ℕ} (b : Beside r) where
  names_bound_by : (bs : DynamicForms) → bound_names b.new (dynamics_by r bs) ≡ bound_names b.old bs
  names_bound_by no_dynamic = refl
  names_bound_by (dynamic_and n f bs) = both (λ (t : List ℕ) (ts : List (List ℕ)). t ∷ ts) _ _ _ _ (b.texts n) (names_bound_by bs)

  charges_for : (f : Form) {z z' : State} → StateRenamed r z z' → StateRenamed r (charged_for f z) (charged_for (form_by r f) z')
  charges_for f {z} {z'} s = record { is = ap (λ n. charged n z') (own_by r f) ∙ ap (charged (own_nodes f)) s.is }

  answers : (a : Answer) (around : DynamicContext) (y y' : State) → Renamed r (answered (first b) a around y) (answered (second b) (answer_by r a) around y')
  answers (result v z) around y y' = given v (now z)
  answers (makes size besides o z) around y y' = made b.limit size besides o (now z) (λ v k k' t. given v t)
  answers (makes_symbol z) around y y' =
      made b.limit 2 0 (fresh_symbol z.symbols) (now z) (λ v k k' t. given v (record { is = ap (λ (x : State). record x { symbols = x.symbols + 1 }) t.is }))
  answers (fails c vs z) around y y' = signals b c vs around z (state_by r z) (now z)
  answers (domain_error v expected z) around y y' = domain_signals b signal (signals b) v expected around z (state_by r z) (now z)

  domains : (v : Value) (expected : ℕ) → Both b (λ context. signal_domain_error context (signal context) v expected)
  domains = domain_signals b signal (signals b)

  -- the function of a name as a value
  functions : (name : List ℕ) →
      Acts r
      (with_some (function_row b.old b.program.functions name) (undefined_function (signal (first b)) name) (λ f a y. gives (function_value b.old b.program name) y))
      (with_some (function_row b.new (map (function_by r) b.program.functions) name) (undefined_function (signal (second b)) name)
      (λ f a y. gives (function_value b.new (program_by r b.program) name) y))
  functions name =
      some_by (function_by r) (function_row b.old b.program.functions name) (function_row b.new (map (function_by r) b.program.functions) name)
      (λ f a y. gives (function_value b.new (program_by r b.program) name) y) (row_by r b.old b.new b.texts b.program.functions name)
      (undefined b signal (signals b) name)
      (λ f a y y' t. moved (ap (λ v. gives v y') (stands_by r b.old b.new b.texts b.program (function_of name))) (given (function_value b.old b.program name) t))

  literals_row : (id : ℕ) (x : Option LiteralRow) → Acts r (mean_literal (first b) id x) (mean_literal (second b) id (option_map (literal_by r) x))
  literals_row id None around z z' s = given nil s
  literals_row id (Some (row.Datum d)) around z z' s =
      moved (ap (λ v. gives v z') (literal_value_by r b.old b.new b.texts b.program id d)) (given (literal_value b.old b.program id d) s)
  literals_row id (Some (row.Class c)) around z z' s = moved (ap (λ v. gives v z') (class_value_by b c)) (given _ s)
  literals_row id (Some (row.Function name)) around z z' s =
      moved
      (ap (λ t. with_some (function_row b.new (map (function_by r) b.program.functions) t) (undefined_function (signal (second b)) t)
      (λ f a y. gives (function_value b.new (program_by r b.program) t) y) around z') (b.texts name.0))
      (functions (text b.old name.0) around z z' s)

  literals : (id : ℕ) → Acts r (mean_literal (first b) id (slice_get b.program.literals id)) (mean_literal (second b) id (slice_get (map (literal_by r) b.program.literals) id))
  literals id around z z' s =
      moved (ap (λ x. mean_literal (second b) id x around z') (get_by (literal_by r) b.program.literals id)) (literals_row id (slice_get b.program.literals id) around z z' s)

  -- ---- variables

  unbound : (name : List ℕ) → Both b (λ context. unbound_variable (signal context) name)
  unbound name = signals b unbound_variable_class (symbol (named name) ∷ [])

  globals : (name : List ℕ) → Both b (λ context. mean_global context name)
  globals name around z z' s =
      at_state (mean_global (second b) name around) s
      (some (under_text name z.globals) (unbound name) (λ v a y y' t. given v t) around z (state_by r z) (now z))

  global_set : (name : List ℕ) (v : Value) {z z' : State} → StateRenamed r z z' →
      StateRenamed r (record z { globals = (name, v) ∷ z.globals }) (record z' { globals = (name, v) ∷ z'.globals })
  global_set name v s = record { is = ap (λ (y : State). record y { globals = (name, v) ∷ y.globals }) s.is }

  globals_set : (name : List ℕ) (v : Value) → Both b (λ context. set_global_to context name v)
  globals_set name v around z z' s =
      at_state (set_global_to (second b) name v around) s
      (some (under_text name z.globals) (unbound name) (λ old a y y' t. given v (global_set name v t)) around z (state_by r z) (now z))

  variable_value : (i : Option ℕ) {z z' : State} → StateRenamed r z z' → Renamed r (gives (value_at i z) z) (gives (value_at i z') z')
  variable_value (Some i) {z} s = at_state (λ y. gives (value_at (Some i) y) y) s (given (value_at (Some i) z) (now z))
  variable_value None s = given nil s

  -- the charge changes no variable
  local_value : (i : Option ℕ) (z : State) → Renamed r (gives (value_at i z) (charged 1 z)) (gives (value_at i (state_by r z)) (charged 1 (state_by r z)))
  local_value (Some i) z = given (value_at (Some i) z) (charges 1 (now z))
  local_value None z = given nil (charges 1 (now z))

  variable_set : (i : Option ℕ) (v : Value) {z z' : State} → StateRenamed r z z' → StateRenamed r (set_at i v z) (set_at i v z')
  variable_set (Some i) v s = record { is = ap (set_at (Some i) v) s.is }
  variable_set None v s = s

  outermost : (name : List ℕ) → Both b (λ context around z. with_some (under_text name z.dynamics) (unbound_variable (signal context) name) (λ v a x. gives v x) around z)
  outermost name around z z' s =
      at_state (λ y. with_some (under_text name y.dynamics) (unbound_variable (signal (second b)) name) (λ v a x. gives v x) around y) s
      (some (under_text name z.dynamics) (unbound name) (λ v a y y' t. given v t) around z (state_by r z) (now z))

  dynamics : (name : List ℕ) → Both b (λ context. mean_dynamic context name)
  dynamics name around z z' s =
      searches (λ (x : List ℕ × ℕ). bytes_eq name x.0) (λ x y y' t. variable_value (Some x.1) t) (λ y y' t. outermost name around y y' t) around.bindings s

  dynamic_set : (name : List ℕ) (v : Value) {z z' : State} → StateRenamed r z z' →
      StateRenamed r (record z { dynamics = (name, v) ∷ z.dynamics }) (record z' { dynamics = (name, v) ∷ z'.dynamics })
  dynamic_set name v s = record { is = ap (λ (y : State). record y { dynamics = (name, v) ∷ y.dynamics }) s.is }

  outermost_set : (name : List ℕ) (v : Value) →
      Both b (λ context around z. with_some (under_text name z.dynamics) (unbound_variable (signal context) name) (λ old a x. gives v (record x { dynamics = (name, v) ∷ x.dynamics })) around z)
  outermost_set name v around z z' s =
      at_state (λ y. with_some (under_text name y.dynamics) (unbound_variable (signal (second b)) name) (λ old a x. gives v (record x { dynamics = (name, v) ∷ x.dynamics })) around y) s
      (some (under_text name z.dynamics) (unbound name) (λ old a y y' t. given v (dynamic_set name v t)) around z (state_by r z) (now z))

  dynamics_set : (name : List ℕ) (v : Value) → Both b (λ context. set_dynamic_to context name v)
  dynamics_set name v around z z' s =
      searches (λ (x : List ℕ × ℕ). bytes_eq name x.0) (λ x y y' t. given v (variable_set (Some x.1) v t)) (λ y y' t. outermost_set name v around y y' t) around.bindings s

  -- ---- applications

  value_applies : (f : Value) (vs : List Value) → Both b (λ context. apply_value context (signal context) f vs)
  value_applies f vs = applying.value_applies b signal (signals b) f vs

  named_applies : (name : List ℕ) (vs : List Value) →
      Acts r (apply_row (first b) (signal (first b)) name (function_row b.old b.program.functions name) vs)
      (apply_row (second b) (signal (second b)) name (function_row b.new (map (function_by r) b.program.functions) name) vs)
  named_applies name vs around z z' s =
      moved (ap (λ x. apply_row (second b) (signal (second b)) name x vs around z') (row_by r b.old b.new b.texts b.program.functions name))
      (row_applies b signal (signals b) name (function_row b.old b.program.functions name) vs around z z' s)

  abbrev apply_spread : Context → Value → Value → Spread → Act
  apply_spread context f list x around z =
      if x.proper then apply_value context (signal context) f x.elements around (charged (length x.elements) z)
      else signal_domain_error context (signal context) list list_class around (charged (length x.elements) z)

  spreads_apply : (f list : Value) (x : Spread) → Both b (λ context. apply_spread context f list x)
  spreads_apply f list x around z z' s =
      tests x.proper x.proper refl (value_applies f x.elements around _ _ (charges (length x.elements) s)) (domains list list_class around _ _ (charges (length x.elements) s))

  lists_apply : (f list : Value) → Both b (λ context. mean_apply context f list)
  lists_apply f list around z z' s =
      at_state (mean_apply (second b) f list around) s
      (tests (is_function (fetch z f)) (is_function (fetch (state_by r z) f)) (function_by_value r z f)
      (moved (ap (λ x. apply_spread (second b) f list x around (state_by r z)) (spread_by r z list))
      (spreads_apply f list (spread (length z.store + 1) z [] list) around z (state_by r z) (now z)))
      (domains f function_class around z (state_by r z) (now z)))

  calls : (vs : List Value) → Both b (λ context. mean_call_value context vs)
  calls [] around z z' s = given nil s
  calls (f ∷ vs) around z z' s = value_applies f vs around z z' s

  condition_signals : (c mark : Value) → Both b (λ context. mean_signal context c mark)
  condition_signals c mark around z z' s =
      at_state (mean_signal (second b) c mark around) s
      (tests (is_condition b.program z c) (is_condition (program_by r b.program) (state_by r z) c) (condition_by r b.program z c)
      (signals_under b around.handlers c mark around z (state_by r z) (now z))
      (domains c serious_condition_class around z (state_by r z) (now z)))

  handlers : (h : Value) {body body' : Act} → Acts r body body' → Acts r (with_handler_value (first b) h body) (with_handler_value (second b) h body')
  handlers h {body} {body'} c around z z' s =
      at_state (with_handler_value (second b) h body' around) s
      (tests (is_function (fetch z h)) (is_function (fetch (state_by r z) h)) (function_by_value r z h)
      (c (record around { handlers = h ∷ around.handlers }) z (state_by r z) (now z))
      (domains h function_class around z (state_by r z) (now z)))

  nexts : (called : Option Called) → Both b (λ context. mean_next context called)
  nexts None = signals b control_error_class []
  nexts (Some called) = chain_runs b signal (signals b) called.rest called.arguments

  turns : (e : ℕ) (all : Forms) (env : Environment) (around : DynamicContext) {x y : Evaluated} → Renamed r x y →
      Renamed r (turned (first b) e all env around x) (turned (second b) e (forms_by r all) env around y)
  turns e all env around p =
      lands_on e
      (λ v landing z z' s.
      moved (ap (λ fs. b.higher (turn e fs (forms_by r all)) env around z') (from_by r (segment_of landing) all))
      (b.within (turn e (from_segment (segment_of landing) all) all) env around z z' s))
      (on p (λ v z z' s. given nil s))

  truths : (v : Value) {x y x' y' : Evaluated} → Renamed r x y → Renamed r x' y' → Renamed r (unless_nil v x x') (unless_nil v y y')
  truths v p p' = tests (is_true v) (is_true v) refl p p'

  -- a body, once the variables of its bindings are there
  abbrev Means : Form → Type 0
  Means f = (env : Environment) → Acts r (mean (first b) f env) (mean (second b) (form_by r f) env)

  lets : (xs : List ℕ) (body : Form) → Means body → (vs : List Value) (env : Environment) (around : DynamicContext) {z z' : State} → StateRenamed r z z' →
      Renamed r (with_boxes b.limit xs body z (λ ready. mean (first b) body (with_variables xs ready env) around (with_values vs ready)))
      (with_boxes b.limit xs (form_by r body) z' (λ ready. mean (second b) (form_by r body) (with_variables xs ready env) around (with_values vs ready)))
  lets xs body m vs env around s =
      boxes b.limit xs body s (λ y y' t.
      at_state (λ ready. mean (second b) (form_by r body) (with_variables xs ready env) around (with_values vs ready)) t
      (m (with_variables xs y env) around (with_values vs y) (with_values vs (state_by r y)) (now (with_values vs y))))

  dynamic_lets : (names : List (List ℕ)) (body : Form) → Means body → (vs : List Value) (env : Environment) (around : DynamicContext) {z z' : State} → StateRenamed r z z' →
      Renamed r (mean (first b) body env (record around { bindings = numbered names (length z.variables) ++ around.bindings }) (with_values vs z))
      (mean (second b) (form_by r body) env (record around { bindings = numbered names (length z'.variables) ++ around.bindings }) (with_values vs z'))
  dynamic_lets names body m vs env around {z} s =
      at_state (λ y. mean (second b) (form_by r body) env (record around { bindings = numbered names (length y.variables) ++ around.bindings }) (with_values vs y)) s
      (m env (record around { bindings = numbered names (length z.variables) ++ around.bindings }) (with_values vs z) (with_values vs (state_by r z)) (now (with_values vs z)))

  catches_tag : (body : Form) → Means body → (tag : Value) (env : Environment) (around : DynamicContext) {z z' : State} → StateRenamed r z z' →
      Renamed r (caught z.exits (mean (first b) body env (inside (catch_exit tag) around z) (exit_made z)))
      (caught z'.exits (mean (second b) (form_by r body) env (inside (catch_exit tag) around z') (exit_made z')))
  catches_tag body m tag env around {z} s =
      at_state (λ y. caught y.exits (mean (second b) (form_by r body) env (inside (catch_exit tag) around y) (exit_made y))) s
      (catches z.exits (m env (inside (catch_exit tag) around z) (exit_made z) (exit_made (state_by r z)) (exits_made b (now z))))

  primitives : (which : _) (vs : List Value) → Both b (λ context around z. answered context (primitive context.names context.program which vs z) around z)
  primitives which vs around z z' s =
      at_state (λ y. answered (second b) (primitive b.new (program_by r b.program) which vs y) around y) s
      (moved (ap (λ a. answered (second b) a around (state_by r z)) (primitive_by r b.old b.new b.texts b.program which vs z))
      (answers (primitive b.old b.program which vs z) around z (state_by r z)))

  mutual
    unfolding mean

    pub means : (f : Form) (env : Environment) → Acts r (mean (first b) f env) (mean (second b) (form_by r f) env)
    means (literal id) env around z z' s = literals id around _ _ (charges_for (literal id) s)
    means (local v) env around z z' s = at_state (mean (second b) (local v) env around) s
        (local_value (under_number v env.variables) z)
    means (set_local v f) env around z z' s =
        on (means f env around _ _ (charges_for (set_local v f) s)) (λ x y y' t. given x (variable_set (under_number v env.variables) x t))
    means (global n) env around z z' s =
        moved (ap (λ name. mean_global (second b) name around (charged 2 z')) (b.texts n)) (globals (text b.old n) around _ _ (charges_for (global n) s))
    means (set_global n f) env around z z' s =
        on (means f env around _ _ (charges_for (set_global n f) s)) (λ x y y' t.
        moved (ap (λ name. set_global_to (second b) name x around y') (b.texts n)) (globals_set (text b.old n) x around y y' t))
    means (def_global n f) env around z z' s =
        on (means f env around _ _ (charges_for (def_global n f) s)) (λ x y y' t.
        moved (ap (λ name. gives (symbol (named name)) (record y' { globals = (name, x) ∷ y'.globals })) (b.texts n))
        (given (symbol (named (text b.old n))) (global_set (text b.old n) x t)))
    means (clauses cs) env around z z' s = clauses_mean cs env around _ _ (charges_for (clauses cs) s)
    means (sequence fs) env around z z' s = sequence_means nil fs env around _ _ (charges_for (sequence fs) s)
    means (let_form bs body) env around z z' s =
        bindings_mean bs [] env around (charges_for (let_form bs body) s) (λ vs y y' t.
        moved
        (ap (λ xs. with_boxes b.limit xs (form_by r body) y' (λ ready. mean (second b) (form_by r body) (with_variables xs ready env) around (with_values vs ready))) (bound_by r bs))
        (lets (bound_variables bs) body (λ e. means body e) vs env around t))
    means (lambda required rest body parts) env around z z' s =
        made b.limit (2 + length parts) 0 (closure required rest body env) (charges_for (lambda required rest body parts) s) (λ v y y' t. given v t)
    means (call n fs) env around z z' s =
        arguments_mean fs [] env around (charges_for (call n fs) s) (λ vs y y' t.
        moved (ap (λ name. apply_row (second b) (signal (second b)) name (function_row b.new (map (function_by r) b.program.functions) name) vs around y') (b.texts n))
        (named_applies (text b.old n) vs around y y' t))
    means (call_value fs) env around z z' s =
        arguments_mean fs [] env around (charges_for (call_value fs) s) (λ vs y y' t. calls vs around y y' t)
    means (apply f list) env around z z' s =
        on (means f env around _ _ (charges_for (apply f list) s)) (λ function y y' t.
        on (means list env around y y' t) (λ v k k' u. lists_apply function v around k k' u))
    means (prim which fs) env around z z' s =
        arguments_mean fs [] env around (charges_for (prim which fs) s) (λ vs y y' t. primitives which vs around y y' t)
    means (while_form test body) env around z z' s =
        on (means test env around _ _ (charges_for (while_form test body) s)) (λ v y y' t.
        truths v
        (on (means body env around y y' t) (λ ignored k k' u. b.within (form (while_form test body)) env around k k' u))
        (given nil t))
    means (block x body) env around z z' s =
        at_state (mean (second b) (block x (form_by r body)) env around) s
        (catches z.exits (means body (with_exit x z env) (inside block_exit around z) _ _ (exits_made b (charges 2 (now z)))))
    means (return_from x f) env around z z' s =
        on (means f env around _ _ (charges_for (return_from x f) s)) (λ v y y' t. transfers b (under_number x env.exits) v (at_segment 0) around y y' t)
    means (tagbody x segments) env around z z' s =
        at_state (mean (second b) (tagbody x (forms_by r segments)) env around) s
        (turns z.exits segments (with_exit x z env) around
        (sequence_means nil segments (with_exit x z env) (with_turns z.exits around) _ _ (exits_made b (charges_for (tagbody x segments) (now z)))))
    means (go x segment) env around z z' s = transfers b (under_number x env.exits) nil (at_segment segment) around _ _ (charges_for (go x segment) s)
    means (catch_form tag body) env around z z' s =
        on (means tag env around _ _ (charges_for (catch_form tag body) s)) (λ v y y' t. catches_tag body (λ e. means body e) v env around t)
    means (throw tag f) env around z z' s =
        on (means tag env around _ _ (charges_for (throw tag f) s)) (λ v y y' t.
        on (means f env around y y' t) (λ x k k' u. throws b v x around k k' u))
    means (unwind f cleanup) env around z z' s =
        cleans around (λ within y y' t. means cleanup env within y y' t) (means f env around _ _ (charges_for (unwind f cleanup) s))
    means (dynamic_let bs body) env around z z' s =
        dynamics_mean bs [] env around (charges_for (dynamic_let bs body) s) (λ vs y y' t.
        moved
        (ap (λ names. mean (second b) (form_by r body) env (record around { bindings = numbered names (length y'.variables) ++ around.bindings }) (with_values vs y')) (names_bound_by bs))
        (dynamic_lets (bound_names b.old bs) body (λ e. means body e) vs env around t))
    means (dynamic n) env around z z' s =
        moved (ap (λ name. mean_dynamic (second b) name around (charged 2 z')) (b.texts n)) (dynamics (text b.old n) around _ _ (charges_for (dynamic n) s))
    means (set_dynamic n f) env around z z' s =
        on (means f env around _ _ (charges_for (set_dynamic n f) s)) (λ x y y' t.
        moved (ap (λ name. set_dynamic_to (second b) name x around y') (b.texts n)) (dynamics_set (text b.old n) x around y y' t))
    means (def_dynamic n f) env around z z' s =
        on (means f env around _ _ (charges_for (def_dynamic n f) s)) (λ x y y' t.
        moved (ap (λ name. gives (symbol (named name)) (record y' { dynamics = (name, x) ∷ y'.dynamics })) (b.texts n))
        (given (symbol (named (text b.old n))) (dynamic_set (text b.old n) x t)))
    means (with_handler handler body) env around z z' s =
        on (means handler env around _ _ (charges_for (with_handler handler body) s)) (λ h y y' t.
        handlers h (λ within k k' u. means body env within k k' u) around y y' t)
    means (signal_form condition continuable) env around z z' s =
        on (means condition env around _ _ (charges_for (signal_form condition continuable) s)) (λ c y y' t.
        on (means continuable env around y y' t) (λ mark k k' u. condition_signals c mark around k k' u))
    means (continue_form condition f) env around z z' s =
        on (means condition env around _ _ (charges_for (continue_form condition f) s)) (λ c y y' t.
        on (means f env around y y' t) (λ v k k' u. continues b c v around k k' u))
    means next_method env around z z' s = nexts env.method around _ _ (charges_for next_method s)
    means has_next env around z z' s = given (truth (is_next env.method)) (charges_for has_next s)
    means (sited site f) env around z z' s = means f env (record around { site = place_of_site b.program.sites site }) z z' s

    sequence_means : (last : Value) (fs : Forms) (env : Environment) → Acts r (mean_sequence (first b) last fs env) (mean_sequence (second b) last (forms_by r fs) env)
    sequence_means last no_form env around z z' s = given last s
    sequence_means last (form_and f fs) env around z z' s = on (means f env around z z' s) (λ v y y' t. sequence_means v fs env around y y' t)

    arguments_mean : (fs : Forms) (vs : List Value) (env : Environment) (around : DynamicContext) {z z' : State} {next next' : List Value → State → Evaluated} → StateRenamed r z z' →
        ContinuesAll r next next' → Renamed r (mean_arguments (first b) fs vs env around z next) (mean_arguments (second b) (forms_by r fs) vs env around z' next')
    arguments_mean no_form vs env around {z} {z'} s c = c vs z z' s
    arguments_mean (form_and f fs) vs env around {z} {z'} s c = on (means f env around z z' s) (λ v y y' t. arguments_mean fs (vs ++ v ∷ []) env around t c)

    clauses_mean : (cs : ClauseForms) (env : Environment) → Acts r (mean_clauses (first b) cs env) (mean_clauses (second b) (clauses_by r cs) env)
    clauses_mean no_clause env around z z' s = given nil s
    clauses_mean (clause_and test body cs) env around z z' s =
        on (means test env around z z' s) (λ v y y' t. truths v (body_means v body env around y y' t) (clauses_mean cs env around y y' t))

    body_means : (v : Value) (m : MaybeForm) (env : Environment) → Acts r (mean_body (first b) v m env) (mean_body (second b) v (body_by r m) env)
    body_means v no_body env around z z' s = given v s
    body_means v (with_body f) env around z z' s = means f env around z z' s

    bindings_mean : (bs : BindingForms) (vs : List Value) (env : Environment) (around : DynamicContext) {z z' : State} {next next' : List Value → State → Evaluated} → StateRenamed r z z' →
        ContinuesAll r next next' → Renamed r (mean_bindings (first b) bs vs env around z next) (mean_bindings (second b) (bindings_by r bs) vs env around z' next')
    bindings_mean no_binding vs env around {z} {z'} s c = c vs z z' s
    bindings_mean (binding_and x f bs) vs env around {z} {z'} s c = on (means f env around z z' s) (λ v y y' t. bindings_mean bs (vs ++ v ∷ []) env around t c)

    dynamics_mean : (bs : DynamicForms) (vs : List Value) (env : Environment) (around : DynamicContext) {z z' : State} {next next' : List Value → State → Evaluated} → StateRenamed r z z' →
        ContinuesAll r next next' → Renamed r (mean_dynamics (first b) bs vs env around z next) (mean_dynamics (second b) (dynamics_by r bs) vs env around z' next')
    dynamics_mean no_dynamic vs env around {z} {z'} s c = c vs z z' s
    dynamics_mean (dynamic_and n f bs) vs env around {z} {z'} s c = on (means f env around z z' s) (λ v y y' t. dynamics_mean bs (vs ++ v ∷ []) env around t c)

  pub tasks : Within r (mean_task (first b)) (mean_task (second b))
  tasks nothing env around z z' s = given nil s
  tasks (form f) env around z z' s = means f env around z z' s
  tasks (turn e rest all) env around z z' s = turns e all env around (sequence_means nil rest env (with_turns e around) z z' s)
  tasks (methods c vs) env around z z' s = chain_runs b signal (signals b) c vs around z z' s
