-- Forms and tasks side by side, over the meaning one level below on both sides: one line a form.
use Rattle.std.proofs.Common.{ℕ, ◌+◌, ◌-◌, List, [], ◌∷◌, ◌++◌, Option, Some, None, length}
use Rattle.std.specs.Str.{bytes_eq}
use Rattle.lang_meaning.specs.declared.program.LiteralRow.{LiteralRow}
use Rattle.lang_meaning.specs.declared.program.LiteralRow.TheVariants as row
use Rattle.lang_meaning.specs.Form.{Form, literal, local, set_local, global, set_global, def_global, clauses, sequence, let_form, lambda, call, call_value, apply, prim, while_form, block, return_from, tagbody, go, catch_form, throw, unwind, dynamic_let, dynamic, set_dynamic, def_dynamic, with_handler, signal_form, continue_form, next_method, has_next, sited}
use Rattle.lang_meaning.specs.Form.{Forms, no_form, form_and, ClauseForms, no_clause, clause_and, MaybeForm, no_body, with_body}
use Rattle.lang_meaning.specs.Form.{BindingForms, no_binding, binding_and, DynamicForms, no_dynamic, dynamic_and}
use Rattle.lang_meaning.specs.Counts.{count_forms, count_clauses, count_bindings, count_dynamics}
use Rattle.lang_meaning.specs.Values.{Value, symbol, named, nil, is_true}
use Rattle.lang_meaning.specs.Objects.{Called, Environment, fresh_symbol, function_class, list_class, serious_condition_class, control_error_class, unbound_variable_class}
use Rattle.lang_meaning.specs.State.{State, DynamicContext, Exit, block_exit, tagbody_exit, catch_exit, at_segment, Evaluated, Act, inside, exit_made, charged}
use Rattle.lang_meaning.specs.Lookup.{text, under_text, under_number, value_at, set_at, numbered, with_variables, with_values, with_exit}
use Rattle.lang_meaning.specs.Classes.{fetch, is_condition}
use Rattle.lang_meaning.specs.Literals.{function_row}
use Rattle.lang_meaning.specs.InitialHeap.{function_value}
use Rattle.lang_meaning.specs.Primitives.{Answer, result, makes, makes_symbol, fails, domain_error, is_function, primitive}
use Rattle.lang_meaning.specs.Signals.{Task, nothing, form, turn, methods, signal_domain_error, signal, answered, apply_value, unbound_variable}
use Rattle.lang_meaning.specs.Meaning.{place_of_site, unless_nil, from_segment, segment_of, bound_variables, bound_names, with_turns, spread, mean_literal, mean_global, set_global_to, mean_dynamic, set_dynamic_to, mean_apply, mean_call_value, mean_signal, with_handler_value, mean_next, turned, mean, mean_sequence, mean_arguments, mean_clauses, mean_body, mean_bindings, mean_dynamics, mean_task}
use Rattle.lang_meaning.proofs.Steps.{IsKeptByRules}
use Rattle.lang_meaning.proofs.Compared.{Extends, Follows, Acts, Beside, second, Both, given, sooner, on, tests, lands_on, catches, cleans, some, charges, made}
use Rattle.lang_meaning.proofs.Applied as applied
use Rattle.lang_meaning.proofs.Applied.{Signs, domain_signals, undefined, row_applies, chain_runs, boxes, signals, signals_under, searches, transfers, throws, continues}
use Rattle.lang_meaning.proofs.Answers.{state_of, primitive_kept}

module _ {R : State → State → Type 0} {k : IsKeptByRules R} (b : Beside R k) where
  answers : (a : Answer) (around : DynamicContext) (y z : State) → R z (state_of a)
      → Extends R k around.exits z (answered b.context a around y) (answered (second b) a around y)
  answers (result v after) around y z g = given around.exits v after g
  answers (makes size besides o after) around y z g =
      sooner g (made b.context.limit size besides o after (λ v made. given around.exits v made (k.none made)))
  answers (makes_symbol after) around y z g =
      sooner g (made b.context.limit 2 0 (fresh_symbol after.symbols) after
      (λ v made. given around.exits v (record made { symbols = made.symbols + 1 }) (k.symbol made)))
  answers (fails class vs after) around y z g =
      sooner g (signals b class vs around after)
  answers (domain_error v expected after) around y z g =
      sooner g (domain_signals b signal (signals b) v expected around after)

  wrongs : Signs b signal
  wrongs = signals b

  domains : (v : Value) (expected : ℕ) → Both b (λ context. signal_domain_error context (signal context) v expected)
  domains = domain_signals b signal wrongs

  literals : (id : ℕ) (r : Option LiteralRow) → Both b (λ context. mean_literal context id r)
  literals id None around z = given around.exits nil z (k.none z)
  literals id (Some (row.Datum d)) around z = given around.exits _ z (k.none z)
  literals id (Some (row.Class c)) around z = given around.exits _ z (k.none z)
  literals id (Some (row.Function name)) around z =
      some (function_row b.context.names b.context.program.functions (text b.context.names name.0))
      (undefined b signal wrongs (text b.context.names name.0))
      (λ f a y. given a.exits (function_value b.context.names b.context.program (text b.context.names name.0)) y (k.none y))
      around z

  unbound : (name : List ℕ)
      → Both b (λ context. unbound_variable (signal context) name)
  unbound name = wrongs unbound_variable_class (symbol (named name) ∷ [])

  globals : (name : List ℕ) → Both b (λ context. mean_global context name)
  globals name around z =
      some (under_text name z.globals) (unbound name)
      (λ v a y. given a.exits v y (k.none y)) around z

  globals_set : (name : List ℕ) (v : Value) → Both b (λ context. set_global_to context name v)
  globals_set name v around z =
      some (under_text name z.globals) (unbound name)
      (λ old a y. given a.exits v (record y { globals = (name, v) ∷ y.globals }) (k.globals _ y)) around z

  dynamics : (name : List ℕ) → Both b (λ context. mean_dynamic context name)
  dynamics name around z =
      searches around.exits (λ (b : List ℕ × ℕ). bytes_eq name b.0)
      (λ b y. given around.exits (value_at (Some b.1) y) y (k.none y))
      (λ y. some (under_text name y.dynamics) (unbound name)
      (λ v a x. given a.exits v x (k.none x)) around y)
      around.bindings z

  variable_set : (i : Option ℕ) (v : Value) (z : State) → R z (set_at i v z)
  variable_set (Some i) v z = k.set i v z
  variable_set None v z = k.none z

  dynamics_set : (name : List ℕ) (v : Value) → Both b (λ context. set_dynamic_to context name v)
  dynamics_set name v around z =
      searches around.exits (λ (b : List ℕ × ℕ). bytes_eq name b.0)
      (λ b y. given around.exits v (set_at (Some b.1) v y) (variable_set (Some b.1) v y))
      (λ y. some (under_text name y.dynamics) (unbound name)
      (λ old a x. given a.exits v (record x { dynamics = (name, v) ∷ x.dynamics }) (k.dynamics _ x)) around y)
      around.bindings z

  value_applies : (f : Value) (vs : List Value)
      → Both b (λ context. apply_value context (signal context) f vs)
  value_applies f vs = applied.value_applies b signal wrongs f vs

  lists_apply : (f list : Value) → Both b (λ context. mean_apply context f list)
  lists_apply f list around z =
      tests (is_function (fetch z f))
      (tests (spread (length z.store + 1) z [] list).proper
      (charges (length (spread (length z.store + 1) z [] list).elements) z (value_applies f _ around _))
      (charges (length (spread (length z.store + 1) z [] list).elements) z (domains list list_class around _)))
      (domains f function_class around z)

  calls : (vs : List Value) → Both b (λ context. mean_call_value context vs)
  calls [] around z = given around.exits nil z (k.none z)
  calls (f ∷ vs) around z = value_applies f vs around z

  condition_signals : (c mark : Value) → Both b (λ context. mean_signal context c mark)
  condition_signals c mark around z =
      tests (is_condition b.context.program z c)
      (signals_under b around.handlers c mark around z)
      (domains c serious_condition_class around z)

  handlers : (h : Value) (around : DynamicContext) (z : State) {body body' : Act} → Acts R k body body'
      → Extends R k around.exits z (with_handler_value b.context h body around z) (with_handler_value (second b) h body' around z)
  handlers h around z c =
      tests (is_function (fetch z h)) (c (record around { handlers = h ∷ around.handlers }) z)
      (domains h function_class around z)

  nexts : (m : Option Called) → Both b (λ context. mean_next context m)
  nexts None around z = wrongs control_error_class [] around z
  nexts (Some called) around z = chain_runs b signal wrongs called.rest called.arguments around z

  turns : (e : ℕ) (all : Forms) (env : Environment) (around : DynamicContext) {y : State} {r s : Evaluated}
      → Extends R k (with_turns e around).exits y r s
      → Extends R k around.exits y (turned b.context e all env around r) (turned (second b) e all env around s)
  turns e all env around x =
      lands_on e tagbody_exit
      (λ v landing z. b.within (turn e (from_segment (segment_of landing) all) all) env around z)
      (on x (λ v after. given _ nil after (k.none after)))

  truths : {exits : List Exit} {z : State} (v : Value) {r s r' s' : Evaluated} → Extends R k exits z r s → Extends R k exits z r' s'
      → Extends R k exits z (unless_nil v r r') (unless_nil v s s')
  truths v x x' = tests (is_true v) x x'

  mutual
    unfolding mean

    pub means : (f : Form) (env : Environment) → Both b (λ context. mean context f env)
    means (literal id) env around z = charges 1 z (literals id _ around (charged 1 z))
    means (local v) env around z = given around.exits _ (charged 1 z) (k.charge 1 z)
    means (set_local v f) env around z =
        charges 1 z (on (means f env around (charged 1 z)) (λ x after.
        given around.exits x (set_at (under_number v env.variables) x after) (variable_set (under_number v env.variables) x after)))
    means (global n) env around z = charges 2 z (globals (text b.context.names n) around (charged 2 z))
    means (set_global n f) env around z =
        charges 2 z (on (means f env around (charged 2 z)) (λ x after. globals_set (text b.context.names n) x around after))
    means (def_global n f) env around z =
        charges 2 z (on (means f env around (charged 2 z)) (λ x after.
        given around.exits _ _ (k.globals _ after)))
    means (clauses cs) env around z =
        charges (1 + count_clauses cs) z (clauses_mean cs env around (charged (1 + count_clauses cs) z))
    means (sequence fs) env around z = charges 1 z (sequence_means nil fs env around (charged 1 z))
    means (let_form bs body) env around z =
        charges (1 + count_bindings bs) z
        (bindings_mean bs [] env around (charged (1 + count_bindings bs) z) (λ vs after.
        boxes b.context.limit around.exits (bound_variables bs) body after (λ ready.
        sooner (k.values vs ready)
        (means body (with_variables (bound_variables bs) ready env) around (with_values vs ready)))))
    means (lambda required rest body parts) env around z =
        charges (1 + length parts) z
        (made b.context.limit _ 0 _ _ (λ v after. given around.exits v after (k.none after)))
    means (call n fs) env around z =
        charges (2 + count_forms fs) z
        (arguments_mean fs [] env around (charged (2 + count_forms fs) z) (λ vs after.
        row_applies b signal wrongs (text b.context.names n) _ vs around after))
    means (call_value fs) env around z =
        charges (1 + count_forms fs) z
        (arguments_mean fs [] env around (charged (1 + count_forms fs) z) (λ vs after. calls vs around after))
    means (apply f list) env around z =
        charges 1 z
        (on (means f env around (charged 1 z)) (λ function after.
        on (means list env around after) (λ v ready. lists_apply function v around ready)))
    means (prim which fs) env around z =
        charges (1 + count_forms fs) z
        (arguments_mean fs [] env around (charged (1 + count_forms fs) z) (λ vs after.
        answers (primitive b.context.names b.context.program which vs after) around after after (primitive_kept R k b.context.names b.context.program which vs after)))
    means (while_form test body) env around z =
        charges 1 z
        (on (means test env around (charged 1 z)) (λ v after.
        truths v
        (on (means body env around after) (λ ignored again. b.within (form (while_form test body)) env around again))
        (given around.exits nil after (k.none after))))
    means (block x body) env around z =
        catches z.exits block_exit
        (charges 2 z (sooner (k.exit (charged 2 z))
        (means body (with_exit x z env) (inside block_exit around z) (exit_made (charged 2 z)))))
    means (return_from x f) env around z =
        charges 1 z
        (on (means f env around (charged 1 z)) (λ v after.
        transfers b (under_number x env.exits) v (at_segment 0) around after))
    means (tagbody x segments) env around z =
        turns z.exits segments (with_exit x z env) around
        (charges (2 + (count_forms segments - 1)) z (sooner (k.exit (charged (2 + (count_forms segments - 1)) z))
        (sequence_means nil segments (with_exit x z env) (with_turns z.exits around) _)))
    means (go x segment) env around z =
        charges 1 z
        (transfers b (under_number x env.exits) nil (at_segment segment) around (charged 1 z))
    means (catch_form tag body) env around z =
        charges 2 z
        (on (means tag env around (charged 2 z)) (λ v after.
        catches after.exits (catch_exit v)
        (sooner (k.exit after) (means body env (inside (catch_exit v) around after) (exit_made after)))))
    means (throw tag f) env around z =
        charges 1 z
        (on (means tag env around (charged 1 z)) (λ v after.
        on (means f env around after) (λ x ready.
        throws b v x around ready)))
    means (unwind f cleanup) env around z =
        cleans around (λ within after. means cleanup env within after)
        (charges 2 z (means f env around (charged 2 z)))
    means (dynamic_let bs body) env around z =
        charges (1 + count_dynamics bs) z
        (dynamics_mean bs [] env around (charged (1 + count_dynamics bs) z) (λ vs after.
        sooner (k.values vs after)
        (means body env (record around { bindings = numbered (bound_names b.context.names bs) (length after.variables) ++ around.bindings })
        (with_values vs after))))
    means (dynamic n) env around z = charges 2 z (dynamics (text b.context.names n) around (charged 2 z))
    means (set_dynamic n f) env around z =
        charges 2 z (on (means f env around (charged 2 z)) (λ x after. dynamics_set (text b.context.names n) x around after))
    means (def_dynamic n f) env around z =
        charges 2 z (on (means f env around (charged 2 z)) (λ x after.
        given around.exits _ _ (k.dynamics _ after)))
    means (with_handler handler body) env around z =
        charges 2 z
        (on (means handler env around (charged 2 z)) (λ h after.
        handlers h around after (λ within ready. means body env within ready)))
    means (signal_form condition continuable) env around z =
        charges 1 z
        (on (means condition env around (charged 1 z)) (λ c after.
        on (means continuable env around after) (λ mark ready. condition_signals c mark around ready)))
    means (continue_form condition f) env around z =
        charges 1 z
        (on (means condition env around (charged 1 z)) (λ c after.
        on (means f env around after) (λ v ready.
        continues b c v around ready)))
    means next_method env around z = charges 1 z (nexts env.method around (charged 1 z))
    means has_next env around z = given around.exits _ (charged 1 z) (k.charge 1 z)
    means (sited site f) env around z = means f env (record around { site = place_of_site b.context.program.sites site }) z

    sequence_means : (last : Value) (fs : Forms) (env : Environment)
        → Both b (λ context. mean_sequence context last fs env)
    sequence_means last no_form env around z = given around.exits last z (k.none z)
    sequence_means last (form_and f fs) env around z =
        on (means f env around z) (λ v after. sequence_means v fs env around after)

    arguments_mean : (fs : Forms) (vs : List Value) (env : Environment) (around : DynamicContext) (z : State)
        {next next' : List Value → State → Evaluated} → ((ws : List Value) → Follows R k around.exits (next ws) (next' ws))
        → Extends R k around.exits z (mean_arguments b.context fs vs env around z next) (mean_arguments (second b) fs vs env around z next')
    arguments_mean no_form vs env around z c = c vs z
    arguments_mean (form_and f fs) vs env around z c =
        on (means f env around z) (λ v after. arguments_mean fs (vs ++ v ∷ []) env around after c)

    clauses_mean : (cs : ClauseForms) (env : Environment)
        → Both b (λ context. mean_clauses context cs env)
    clauses_mean no_clause env around z = given around.exits nil z (k.none z)
    clauses_mean (clause_and test body cs) env around z =
        on (means test env around z) (λ v after.
        truths v (body_means v body env around after) (clauses_mean cs env around after))

    body_means : (v : Value) (m : MaybeForm) (env : Environment)
        → Both b (λ context. mean_body context v m env)
    body_means v no_body env around z = given around.exits v z (k.none z)
    body_means v (with_body f) env around z = means f env around z

    bindings_mean : (bs : BindingForms) (vs : List Value) (env : Environment) (around : DynamicContext) (z : State)
        {next next' : List Value → State → Evaluated} → ((ws : List Value) → Follows R k around.exits (next ws) (next' ws))
        → Extends R k around.exits z (mean_bindings b.context bs vs env around z next) (mean_bindings (second b) bs vs env around z next')
    bindings_mean no_binding vs env around z c = c vs z
    bindings_mean (binding_and x f bs) vs env around z c =
        on (means f env around z) (λ v after. bindings_mean bs (vs ++ v ∷ []) env around after c)

    dynamics_mean : (bs : DynamicForms) (vs : List Value) (env : Environment) (around : DynamicContext) (z : State)
        {next next' : List Value → State → Evaluated} → ((ws : List Value) → Follows R k around.exits (next ws) (next' ws))
        → Extends R k around.exits z (mean_dynamics b.context bs vs env around z next) (mean_dynamics (second b) bs vs env around z next')
    dynamics_mean no_dynamic vs env around z c = c vs z
    dynamics_mean (dynamic_and n f bs) vs env around z c =
        on (means f env around z) (λ v after. dynamics_mean bs (vs ++ v ∷ []) env around after c)

  pub tasks : (task : Task) (env : Environment) → Both b (λ context. mean_task context task env)
  tasks nothing env around z = given around.exits nil z (k.none z)
  tasks (form f) env around z = means f env around z
  tasks (turn e rest all) env around z = turns e all env around (sequence_means nil rest env (with_turns e around) z)
  tasks (methods c vs) env around z = chain_runs b signal wrongs c vs around z
