-- Forms and tasks, in any context, over the meaning one level below: one line a form.
use Rattle.std.proofs.Common.{ℕ, arith, ◌+◌, List, [], ◌∷◌, ◌++◌, Option, Some, None, length, map}
use Rattle.std.specs.Str.{bytes_eq}
use Rattle.std.specs.Prelude.{slice_get}
use Rattle.lang_meaning.specs.declared.program.LiteralRow.{LiteralRow}
use Rattle.lang_meaning.specs.declared.program.LiteralRow.TheVariants as row
use Rattle.lang_meaning.specs.Values.{Value, symbol, named, nil, is_true}
use Rattle.lang_meaning.specs.Objects.{Called, fresh_symbol, function_class, list_class, serious_condition_class, control_error_class, unbound_variable_class}
use Rattle.lang_meaning.specs.State.{State, DynamicContext, block_exit, catch_exit, at_segment}
use Rattle.lang_meaning.specs.Lookup.{text, under_text, value_at, set_at, numbered}
use Rattle.lang_meaning.specs.Classes.{fetch, is_condition}
use Rattle.lang_meaning.specs.Literals.{function_row}
use Rattle.lang_meaning.specs.InitialHeap.{function_value}
use Rattle.lang_meaning.specs.Primitives.{Answer, result, makes, makes_symbol, fails, domain_error, is_function, primitive}
use Rattle.lang_meaning.specs.Meaning.{place_of_site, segment_of, with_turns, spread}
use Rattle.lang_meaning.proofs.Answers.{state_of}
use Rattle.flat_language.specs.declared.place.VariablePlace.{VariablePlace}
use Rattle.flat_language.specs.declared.place.VariablePlace.TheVariants.{Slot, SlotBox, CapturedValue, CapturedBox}
use Rattle.flat_language.specs.FlatForm.{FlatForm, literal, local, set_local, global, set_global, def_global, clauses, sequence, let_form, make_function, call, call_value, apply, prim, while_form, block, return_from, tagbody, go, catch_form, throw, unwind, dynamic_let, dynamic, set_dynamic, def_dynamic, with_handler, signal_form, continue_form, next_method, has_next, sited}
use Rattle.flat_language.specs.FlatForm.{FlatForms, no_form, form_and, FlatClauses, no_clause, clause_and, FlatBody, no_body, with_body}
use Rattle.flat_language.specs.FlatForm.{FlatBindings, no_binding, binding_and, FlatDynamics, no_dynamic, dynamic_and}
use Rattle.flat_language.specs.FlatNodes.{tables, own_nodes}
use Rattle.flat_language.specs.FlatState.{FlatEnvironment, FlatState, FlatEvaluated, FlatAct, on_state, box_held, box_in, set_to, exit_of, method_of, captured_part, charged, exit_made, with_values}
use Rattle.flat_language.specs.FlatSignals.{FlatContext, nothing, form, turn, methods, signal_domain_error, signal, answered, inside, apply_value, unbound_variable}
use Rattle.flat_language.specs.FlatMeaning.{charged_for, unless_nil, from_segment, binding_homes, bound_names, with_exit, mean_literal, mean_global, set_global_to, mean_dynamic, set_dynamic_to, mean_apply, mean_call_value, mean_signal, with_handler_value, mean_next, turned, mean, mean_sequence, mean_arguments, mean_clauses, mean_body, mean_bindings, mean_dynamics, mean_task}
use Rattle.flat_exits.specs.Laws.{ExitsArePaid}
use Rattle.flat_exits.proofs.Combined.{ComesTo, Owes, Follows, Acts, Tasks, unchanged, given, sooner, owes, paid, on, on_owing, tests, tests_owing, lands_on, catches, owing_catches, cleans, some, charges, made, function_made, new_slots_left, primitive_step}
use Rattle.flat_exits.proofs.Applied as applied
use Rattle.flat_exits.proofs.Applied.{Signs, domain_signals, undefined, row_applies, chain_runs, boxes, signals, signals_under, searches, transfers, throws, continues}

module _ (context : FlatContext) (w : Tasks context.below) where
  wrongs : (class : ℕ) (slots : List Value) → Acts (signal context class slots)
  wrongs = signals context w

  domains : (v : Value) (expected : ℕ) → Acts (signal_domain_error context (signal context) v expected)
  domains = domain_signals context w (signal context) wrongs

  -- the answer of a primitive, whose state is a later one
  pub answers : (a : Answer) (around : DynamicContext) (z : FlatState) → ExitsArePaid z (record z { state = state_of a })
      → ComesTo z (answered context a around z)
  answers (result v after) around z g = given v (record z { state = after }) g
  answers (makes size besides o after) around z g =
      sooner g (made context.limit size besides o (record z { state = after }) (λ v made. given v made (unchanged made)))
  answers (makes_symbol after) around z g =
      sooner g (made context.limit 2 0 (fresh_symbol after.symbols) (record z { state = after })
      (λ v made. given v (on_state (λ (x : State). record x { symbols = x.symbols + 1 }) made) (record { by = omega arith })))
  answers (fails class vs after) around z g = sooner g (wrongs class vs around (record z { state = after }))
  answers (domain_error v expected after) around z g = sooner g (domains v expected around (record z { state = after }))

  pub literals : (id : ℕ) (r : Option LiteralRow) → Acts (mean_literal context id r)
  literals id None around z = given nil z (unchanged z)
  literals id (Some (row.Datum d)) around z = given _ z (unchanged z)
  literals id (Some (row.Class c)) around z = given _ z (unchanged z)
  literals id (Some (row.Function name)) around z =
      some (function_row context.names context.program.functions (text context.names name.0))
      (undefined context w (signal context) wrongs (text context.names name.0))
      (λ f a y. given (function_value context.names (tables context.program) (text context.names name.0)) y (unchanged y))
      around z

  unbound : (name : List ℕ) → Acts (unbound_variable (signal context) name)
  unbound name = wrongs unbound_variable_class (symbol (named name) ∷ [])

  pub globals : (name : List ℕ) → Acts (mean_global context name)
  globals name around z =
      some (under_text name z.state.globals) (unbound name) (λ v a y. given v y (unchanged y)) around z

  pub globals_set : (name : List ℕ) (v : Value) → Acts (set_global_to context name v)
  globals_set name v around z =
      some (under_text name z.state.globals) (unbound name)
      (λ old a y. given v (on_state (λ (x : State). record x { globals = (name, v) ∷ x.globals }) y) (record { by = omega arith })) around z

  pub dynamics : (name : List ℕ) → Acts (mean_dynamic context name)
  dynamics name around z =
      searches (λ (b : List ℕ × ℕ). bytes_eq name b.0)
      (λ b y. given (value_at (Some b.1) y.state) y (unchanged y))
      (λ y. some (under_text name y.state.dynamics) (unbound name) (λ v a x. given v x (unchanged x)) around y)
      around.bindings z

  pub box_set : (i : Option ℕ) (v : Value) (z : FlatState) → ExitsArePaid z (on_state (λ y. set_at i v y) z)
  box_set (Some i) v z = record { by = omega arith }
  box_set None v z = unchanged z

  pub variable_set : (p : VariablePlace) (v : Value) (env : FlatEnvironment) (z : FlatState) → ExitsArePaid z (set_to p v env z)
  variable_set (Slot n) v env z = record { by = omega arith }
  variable_set (SlotBox n) v env z = box_set (box_held (slice_get z.frame n)) v z
  variable_set (CapturedValue n) v env z = unchanged z
  variable_set (CapturedBox n) v env z = box_set (box_in (slice_get env.captured n)) v z

  pub dynamics_set : (name : List ℕ) (v : Value) → Acts (set_dynamic_to context name v)
  dynamics_set name v around z =
      searches (λ (b : List ℕ × ℕ). bytes_eq name b.0)
      (λ b y. given v (on_state (λ x. set_at (Some b.1) v x) y) (box_set (Some b.1) v y))
      (λ y. some (under_text name y.state.dynamics) (unbound name)
      (λ old a x. given v (on_state (λ (u : State). record u { dynamics = (name, v) ∷ u.dynamics }) x) (record { by = omega arith })) around y)
      around.bindings z

  value_applies : (f : Value) (vs : List Value) → Acts (apply_value context (signal context) f vs)
  value_applies f vs = applied.value_applies context w (signal context) wrongs f vs

  pub lists_apply : (f list : Value) → Acts (mean_apply context f list)
  lists_apply f list around z =
      tests (is_function (fetch z.state f))
      (tests (spread (length z.state.store + 1) z.state [] list).proper
      (charges (length (spread (length z.state.store + 1) z.state [] list).elements) z (value_applies f (spread (length z.state.store + 1) z.state [] list).elements around (charged (length (spread (length z.state.store + 1) z.state [] list).elements) z)))
      (charges (length (spread (length z.state.store + 1) z.state [] list).elements) z (domains list list_class around (charged (length (spread (length z.state.store + 1) z.state [] list).elements) z))))
      (domains f function_class around z)

  pub calls : (vs : List Value) → Acts (mean_call_value context vs)
  calls [] around z = given nil z (unchanged z)
  calls (f ∷ vs) around z = value_applies f vs around z

  pub condition_signals : (c mark : Value) (around : DynamicContext) (z : FlatState) → Owes z (mean_signal context c mark around z)
  condition_signals c mark around z =
      tests_owing (is_condition (tables context.program) z.state c)
      (signals_under context w around.handlers c mark around z)
      (owes (domains c serious_condition_class around z))

  pub handlers : (h : Value) (around : DynamicContext) (z : FlatState) {body : FlatAct} → Acts body
      → ComesTo z (with_handler_value context h body around z)
  handlers h around z c =
      tests (is_function (fetch z.state h)) (c (record around { handlers = h ∷ around.handlers }) z)
      (domains h function_class around z)

  pub nexts : (m : Option Called) → Acts (mean_next context m)
  nexts None around z = wrongs control_error_class [] around z
  nexts (Some called) around z = chain_runs context w (signal context) wrongs called.rest called.arguments around z

  pub turns : (e : ℕ) (all : FlatForms) (env : FlatEnvironment) (around : DynamicContext) {y : FlatState} {r : FlatEvaluated}
      → ComesTo y r → ComesTo y (turned context e all env around r)
  turns e all env around x =
      lands_on e
      (λ v landing z. w (turn e (from_segment (segment_of landing) all) all) env around z)
      (on x (λ v after. given nil after (unchanged after)))

  pub truths : {z : FlatState} (v : Value) {r s : FlatEvaluated} → ComesTo z r → ComesTo z s
      → ComesTo z (unless_nil v r s)
  truths v x y = tests (is_true v) x y

  -- an exit that is not paid
  one_exit : (z : FlatState) {r : FlatEvaluated} → ComesTo (exit_made z) r → Owes z r
  one_exit z x = record { by = omega (arith, x.grows.by) }

  -- a form is charged first
  begins : (f : FlatForm) (z : FlatState) {r : FlatEvaluated}
      → ComesTo (charged_for f z) r → ComesTo z r
  begins f z x = charges (own_nodes f) z x

  mutual
    unfolding mean

    pub means : (f : FlatForm) (env : FlatEnvironment) → Acts (mean context f env)
    means (literal id) env around z = begins (literal id) z (literals id _ around (charged_for (literal id) z))
    means (local p) env around z = given _ (charged 1 z) (record { by = omega arith })
    means (set_local p f) env around z =
        begins (set_local p f) z (on (means f env around (charged_for (set_local p f) z)) (λ x after.
        given x (set_to p x env after) (variable_set p x env after)))
    means (global n) env around z = begins (global n) z (globals (text context.names n) around (charged_for (global n) z))
    means (set_global n f) env around z =
        begins (set_global n f) z (on (means f env around (charged_for (set_global n f) z)) (λ x after.
        globals_set (text context.names n) x around after))
    means (def_global n f) env around z =
        begins (def_global n f) z (on (means f env around (charged_for (def_global n f) z)) (λ x after.
        given (symbol (named (text context.names n))) _ (record { by = omega arith })))
    means (clauses cs) env around z = begins (clauses cs) z (clauses_mean cs env around (charged_for (clauses cs) z))
    means (sequence fs) env around z = begins (sequence fs) z (sequence_means nil fs env around (charged_for (sequence fs) z))
    means (let_form bs body) env around z =
        begins (let_form bs body) z
        (bindings_mean bs [] env around (charged_for (let_form bs body) z) (λ vs after.
        boxes context.limit (binding_homes bs) after (λ ready.
        new_slots_left (binding_homes bs) vs ready (λ inner. means body env around inner))))
    means (make_function p parts) env around z =
        begins (make_function p parts) z
        (function_made context.limit p (map (captured_part env z) parts) (charged_for (make_function p parts) z) (λ v after.
        given v after (unchanged after)))
    means (call n fs) env around z =
        begins (call n fs) z
        (arguments_mean fs [] env around (charged_for (call n fs) z) (λ vs after.
        row_applies context w (signal context) wrongs (text context.names n) _ vs around after))
    means (call_value fs) env around z =
        begins (call_value fs) z
        (arguments_mean fs [] env around (charged_for (call_value fs) z) (λ vs after. calls vs around after))
    means (apply f list) env around z =
        begins (apply f list) z
        (on (means f env around (charged_for (apply f list) z)) (λ function after.
        on (means list env around after) (λ v ready. lists_apply function v around ready)))
    means (prim which fs) env around z =
        begins (prim which fs) z
        (arguments_mean fs [] env around (charged_for (prim which fs) z) (λ vs after.
        answers (primitive context.names (tables context.program) which vs after.state) around after
        (primitive_step context.names (tables context.program) which vs after)))
    means (while_form test body) env around z =
        begins (while_form test body) z
        (on (means test env around (charged_for (while_form test body) z)) (λ v after.
        truths v
        (on (means body env around after) (λ ignored again. w (form (while_form test body)) env around again))
        (given nil after (unchanged after))))
    means (block body) env around z =
        catches z.state.exits
        (sooner (record { by = omega arith }) (means body (with_exit z env) (inside block_exit around z) (exit_made (charged_for (block body) z))))
    means (return_from x f) env around z =
        begins (return_from x f) z
        (on (means f env around (charged_for (return_from x f) z)) (λ v after.
        transfers context w (exit_of x env) v (at_segment 0) around after))
    means (tagbody segments) env around z =
        turns z.state.exits segments (with_exit z env) around
        (sooner (record { by = omega arith })
        (sequence_means nil segments (with_exit z env) (with_turns z.state.exits around) (exit_made (charged_for (tagbody segments) z))))
    means (go x segment) env around z =
        begins (go x segment) z
        (transfers context w (exit_of x env) nil (at_segment segment) around (charged_for (go x segment) z))
    means (catch_form tag body) env around z =
        paid 2 z (omega arith)
        (on_owing (means tag env around (charged_for (catch_form tag body) z)) (λ v after.
        owing_catches after.state.exits (one_exit after (means body env (inside (catch_exit v) around after) (exit_made after)))))
    means (throw tag f) env around z =
        begins (throw tag f) z
        (on (means tag env around (charged_for (throw tag f) z)) (λ v after.
        on (means f env around after) (λ x ready. throws context w v x around ready)))
    means (unwind f cleanup) env around z =
        cleans around (λ within after. means cleanup env within after)
        (begins (unwind f cleanup) z (means f env around (charged_for (unwind f cleanup) z)))
    means (dynamic_let bs body) env around z =
        begins (dynamic_let bs body) z
        (dynamics_mean bs [] env around (charged_for (dynamic_let bs body) z) (λ vs after.
        sooner (record { by = omega arith })
        (means body env
        (record around { bindings = numbered (bound_names context.names bs) (length after.state.variables) ++ around.bindings })
        (with_values vs after))))
    means (dynamic n) env around z = begins (dynamic n) z (dynamics (text context.names n) around (charged_for (dynamic n) z))
    means (set_dynamic n f) env around z =
        begins (set_dynamic n f) z (on (means f env around (charged_for (set_dynamic n f) z)) (λ x after.
        dynamics_set (text context.names n) x around after))
    means (def_dynamic n f) env around z =
        begins (def_dynamic n f) z (on (means f env around (charged_for (def_dynamic n f) z)) (λ x after.
        given (symbol (named (text context.names n))) _ (record { by = omega arith })))
    means (with_handler handler body) env around z =
        begins (with_handler handler body) z
        (on (means handler env around (charged_for (with_handler handler body) z)) (λ h after.
        handlers h around after (λ within ready. means body env within ready)))
    means (signal_form condition continuable) env around z =
        paid 1 z (omega arith)
        (on_owing (means condition env around (charged_for (signal_form condition continuable) z)) (λ c after.
        on_owing (means continuable env around after) (λ mark ready. condition_signals c mark around ready)))
    means (continue_form condition f) env around z =
        begins (continue_form condition f) z
        (on (means condition env around (charged_for (continue_form condition f) z)) (λ c after.
        on (means f env around after) (λ v ready. continues context w c v around ready)))
    means (next_method m) env around z =
        begins (next_method m) z (nexts (method_of m env) around (charged_for (next_method m) z))
    means (has_next m) env around z = given _ (charged 1 z) (record { by = omega arith })
    means (sited site f) env around z = means f env (record around { site = place_of_site context.program.sites site }) z

    pub sequence_means : (last : Value) (fs : FlatForms) (env : FlatEnvironment) → Acts (mean_sequence context last fs env)
    sequence_means last no_form env around z = given last z (unchanged z)
    sequence_means last (form_and f fs) env around z =
        on (means f env around z) (λ v after. sequence_means v fs env around after)

    pub arguments_mean : (fs : FlatForms) (vs : List Value) (env : FlatEnvironment) (around : DynamicContext) (z : FlatState)
        {next : List Value → FlatState → FlatEvaluated} → ((ws : List Value) → Follows (next ws))
        → ComesTo z (mean_arguments context fs vs env around z next)
    arguments_mean no_form vs env around z c = c vs z
    arguments_mean (form_and f fs) vs env around z c =
        on (means f env around z) (λ v after. arguments_mean fs (vs ++ v ∷ []) env around after c)

    pub clauses_mean : (cs : FlatClauses) (env : FlatEnvironment) → Acts (mean_clauses context cs env)
    clauses_mean no_clause env around z = given nil z (unchanged z)
    clauses_mean (clause_and test body cs) env around z =
        on (means test env around z) (λ v after.
        truths v (body_means v body env around after) (clauses_mean cs env around after))

    pub body_means : (v : Value) (m : FlatBody) (env : FlatEnvironment) → Acts (mean_body context v m env)
    body_means v no_body env around z = given v z (unchanged z)
    body_means v (with_body f) env around z = means f env around z

    pub bindings_mean : (bs : FlatBindings) (vs : List Value) (env : FlatEnvironment) (around : DynamicContext) (z : FlatState)
        {next : List Value → FlatState → FlatEvaluated} → ((ws : List Value) → Follows (next ws))
        → ComesTo z (mean_bindings context bs vs env around z next)
    bindings_mean no_binding vs env around z c = c vs z
    bindings_mean (binding_and x f bs) vs env around z c =
        on (means f env around z) (λ v after. bindings_mean bs (vs ++ v ∷ []) env around after c)

    pub dynamics_mean : (bs : FlatDynamics) (vs : List Value) (env : FlatEnvironment) (around : DynamicContext) (z : FlatState)
        {next : List Value → FlatState → FlatEvaluated} → ((ws : List Value) → Follows (next ws))
        → ComesTo z (mean_dynamics context bs vs env around z next)
    dynamics_mean no_dynamic vs env around z c = c vs z
    dynamics_mean (dynamic_and n f bs) vs env around z c =
        on (means f env around z) (λ v after. dynamics_mean bs (vs ++ v ∷ []) env around after c)

  pub tasks : Tasks (mean_task context)
  tasks nothing env around z = given nil z (unchanged z)
  tasks (form f) env around z = means f env around z
  tasks (turn e rest all) env around z = turns e all env around (sequence_means nil rest env (with_turns e around) z)
  tasks (methods c vs) env around z = chain_runs context w (signal context) wrongs c vs around z
