-- Forms: from where a form is evaluated the machine comes to what it means, where it does so for what is evaluated one level below.
use Rattle.std.proofs.Common.{ℕ, zero, suc, ◌+◌, List, [], ◌∷◌, ◌++◌, Option, Some, None}
use Rattle.std.specs.Prelude.{length, slice_get}
use Rattle.std.specs.Str.{bytes_eq}
use Rattle.lang_meaning.specs.declared.program.LiteralRow.{LiteralRow}
use Rattle.lang_meaning.specs.declared.program.LiteralRow.TheVariants as row
use Rattle.lang_meaning.specs.Values.{Value, nil, symbol, named, is_true}
use Rattle.lang_meaning.specs.Objects.{Called, function_class, list_class, serious_condition_class, control_error_class, undefined_function_class, unbound_variable_class}
use Rattle.lang_meaning.specs.State.{State, DynamicContext, block_exit, catch_exit, at_segment}
use Rattle.lang_meaning.specs.Lookup.{text, under_text}
use Rattle.lang_meaning.specs.Literals.{function_row}
use Rattle.lang_meaning.specs.InitialHeap.{function_value}
use Rattle.lang_meaning.specs.Classes.{fetch, is_condition}
use Rattle.lang_meaning.specs.Primitives.{primitive, is_function}
use Rattle.lang_meaning.specs.Meaning.{place_of_site, segment_of, with_turns, spread, Spread}
use Rattle.flat_language.specs.FlatForm.{FlatForm, literal, local, set_local, global, set_global, def_global, clauses, sequence, let_form, make_function, call, call_value, apply, prim, while_form, block, return_from, tagbody, go, catch_form, throw, unwind, dynamic_let, dynamic, set_dynamic, def_dynamic, with_handler, signal_form, continue_form, next_method, has_next, sited}
use Rattle.flat_language.specs.FlatForm.{FlatForms, no_form, form_and, FlatClauses, no_clause, clause_and, FlatBody, no_body, with_body}
use Rattle.flat_language.specs.FlatForm.{FlatBindings, no_binding, binding_and, FlatDynamics, no_dynamic, dynamic_and}
use Rattle.flat_language.specs.FlatNodes.{tables}
use Rattle.flat_language.specs.FlatState.{FlatEnvironment, FlatState, FlatEvaluated, FlatAct, on_state, gives, charged, exit_of, method_of}
use Rattle.flat_language.specs.FlatSignals.{FlatContext, form, turn, inside, with_some, undefined_function, unbound_variable, signal, signal_domain_error, apply_row, answered}
use Rattle.flat_language.specs.FlatMeaning.{mean, mean_sequence, mean_arguments, mean_clauses, mean_body, mean_bindings, mean_dynamics, mean_literal, mean_global, set_global_to, mean_dynamic, set_dynamic_to, mean_apply, mean_call_value, mean_signal, mean_next, turned, from_segment, binding_homes, with_exit}
use Rattle.eval_machine.specs.Configuration.{Setting, Operator, call_name, call_first, compute, ContinuationFrame, Configuration, Transition, evaluate, configuration, descend, some_or, awaits, turns, last_segment}
use Rattle.eval_machine.specs.Applications.{signal_domain, signal_unbound}
use Rattle.eval_machine.specs.Step.{literal_step, global_step, set_global_step, dynamic_step, set_dynamic_step, apply_step, operation_step, signal_step, next_method_step, sequence_step, clauses_step, clause_body_step, arguments_step, let_step, bindings_step, dynamic_let_step, dynamics_step, segments_step}
use Rattle.eval_machine.proofs.Reach.{ReachesOutcome, here, after_step, on, catching, turning, cleaning, slots_dropped, unbound, either, boxes, searching, some}
use Rattle.eval_machine.proofs.Applied.{below_at, context_at, situation, LowerCome, domains, values_apply, rows_apply, chains, under, signals_come, answers, transfers, throws, continues}

module _ (s : Setting) where
  -- what goes on one level below
  form_below : (l : ℕ) → LowerCome s l → (f : FlatForm) (env : FlatEnvironment) (around : DynamicContext) (frames : List ContinuationFrame) (z : FlatState)
      → ReachesOutcome s (descend l (λ k. configuration (evaluate f (situation k env around))) frames z) (below_at s l (form f) env around z) frames
  form_below zero t f env around frames z = here s
  form_below (suc k) t f env around frames z = t.form_comes f env around frames z

  turn_below : (l : ℕ) → LowerCome s l → (e : ℕ) (left all : FlatForms) (env : FlatEnvironment) (around : DynamicContext) (frames : List ContinuationFrame) (z : FlatState)
      → ReachesOutcome s (descend l (λ k. segments_step s e left all (situation k env around)) frames z) (below_at s l (turn e left all) env around z) frames
  turn_below zero t e left all env around frames z = here s
  turn_below (suc k) t e left all env around frames z = t.turn_comes e left all env around frames z

  module _ (l : ℕ) (t : LowerCome s l) where
    abbrev context : FlatContext
    context = context_at s l

    literals : (id : ℕ) (o : Option LiteralRow) (env : FlatEnvironment) (around : DynamicContext) (frames : List ContinuationFrame) (z : FlatState)
        → ReachesOutcome s (literal_step s id o (situation l env around) frames z) (mean_literal context id o around z) frames
    literals id None env around frames z = here s
    literals id (Some (row.Datum d)) env around frames z = here s
    literals id (Some (row.Class c)) env around frames z = here s
    literals id (Some (row.Function name)) env around frames z =
        some s (function_row s.names s.program.functions (text s.names name.0)) _ _
        (undefined_function (signal context) (text s.names name.0))
        (λ f a y. gives (function_value s.names (tables s.program) (text s.names name.0)) y)
        (signals_come s l t around undefined_function_class (symbol (named (text s.names name.0)) ∷ []) frames z) (λ f. here s)

    -- variables that no form has bound: global ones, and the outermost dynamic ones
    outermost : (name : List ℕ) (o : Option Value) (ahead : Value → Transition) (follow : Value → FlatAct) (around : DynamicContext) (frames : List ContinuationFrame) (z : FlatState)
        → ((v : Value) → ReachesOutcome s (ahead v frames z) (follow v around z) frames)
        → ReachesOutcome s (some_or o (signal_unbound s name l around) ahead frames z) (with_some o (unbound_variable (signal context) name) follow around z) frames
    outermost name o ahead follow around frames z c =
        some s o _ _ (unbound_variable (signal context) name) follow
        (signals_come s l t around unbound_variable_class (symbol (named name) ∷ []) frames z) c

    globals : (name : List ℕ) (env : FlatEnvironment) (around : DynamicContext) (frames : List ContinuationFrame) (z : FlatState)
        → ReachesOutcome s (global_step s name (situation l env around) frames z) (mean_global context name around z) frames
    globals name env around frames z = outermost name (under_text name z.state.globals) _ (λ v a y. gives v y) around frames z (λ v. here s)

    globals_set : (name : List ℕ) (v : Value) (env : FlatEnvironment) (around : DynamicContext) (frames : List ContinuationFrame) (z : FlatState)
        → ReachesOutcome s (set_global_step s name v (situation l env around) frames z) (set_global_to context name v around z) frames
    globals_set name v env around frames z =
        outermost name (under_text name z.state.globals) _
        (λ old a y. gives v (on_state (λ (x : State). record x { globals = (name, v) ∷ x.globals }) y)) around frames z (λ old. here s)

    -- dynamic variables
    dynamics : (name : List ℕ) (env : FlatEnvironment) (around : DynamicContext) (frames : List ContinuationFrame) (z : FlatState)
        → ReachesOutcome s (dynamic_step s name (situation l env around) frames z) (mean_dynamic context name around z) frames
    dynamics name env around frames z =
        searching s (λ (b : List ℕ × ℕ). bytes_eq name b.0) _ _ (λ b y. here s)
        (λ y. outermost name (under_text name y.state.dynamics) _ (λ v a x. gives v x) around frames y (λ v. here s))
        around.bindings z

    dynamics_set : (name : List ℕ) (v : Value) (env : FlatEnvironment) (around : DynamicContext) (frames : List ContinuationFrame) (z : FlatState)
        → ReachesOutcome s (set_dynamic_step s name v (situation l env around) frames z) (set_dynamic_to context name v around z) frames
    dynamics_set name v env around frames z =
        searching s (λ (b : List ℕ × ℕ). bytes_eq name b.0) _ _ (λ b y. here s)
        (λ y. outermost name (under_text name y.state.dynamics) _
        (λ old a x. gives v (on_state (λ (w : State). record w { dynamics = (name, v) ∷ w.dynamics }) x)) around frames y (λ old. here s))
        around.bindings z

    -- applications
    domain_errors : (around : DynamicContext) (v : Value) (expected : ℕ) (frames : List ContinuationFrame) (z : FlatState)
        → ReachesOutcome s (signal_domain s v expected l around frames z) (signal_domain_error context (signal context) v expected around z) frames
    domain_errors around v expected frames z = domains s l t (signal context) around (signals_come s l t around) v expected frames z

    lists_apply : (f list : Value) (env : FlatEnvironment) (around : DynamicContext) (frames : List ContinuationFrame) (z : FlatState)
        → ReachesOutcome s (apply_step s f list (situation l env around) frames z) (mean_apply context f list around z) frames
    lists_apply f list env around frames z =
        let found : Spread = spread (length z.state.store + 1) z.state [] list in
        either s (is_function (fetch z.state f))
        (either s found.proper
        (values_apply s l t (signal context) around (signals_come s l t around) f found.elements frames (charged (length found.elements) z))
        (domain_errors around list list_class frames (charged (length found.elements) z)))
        (domain_errors around f function_class frames z)

    abbrev of_operation : Operator → List Value → FlatAct
    of_operation (call_name n) vs around z = apply_row context (signal context) (text s.names n) (function_row s.names s.program.functions (text s.names n)) vs around z
    of_operation call_first vs around z = mean_call_value context vs around z
    of_operation (compute which) vs around z = answered context (primitive s.names (tables s.program) which vs z.state) around z

    operates : (o : Operator) (vs : List Value) (env : FlatEnvironment) (around : DynamicContext) (frames : List ContinuationFrame) (z : FlatState)
        → ReachesOutcome s (operation_step s o vs (situation l env around) frames z) (of_operation o vs around z) frames
    operates (call_name n) vs env around frames z =
        rows_apply s l t (signal context) around (signals_come s l t around) (text s.names n) (function_row s.names s.program.functions (text s.names n)) vs frames z
    operates call_first [] env around frames z = here s
    operates call_first (f ∷ vs) env around frames z = values_apply s l t (signal context) around (signals_come s l t around) f vs frames z
    operates (compute which) vs env around frames z = answers s l t around (primitive s.names (tables s.program) which vs z.state) frames z

    -- conditions and methods
    signal_forms : (c mark : Value) (env : FlatEnvironment) (around : DynamicContext) (frames : List ContinuationFrame) (z : FlatState)
        → ReachesOutcome s (signal_step s c mark (situation l env around) frames z) (mean_signal context c mark around z) frames
    signal_forms c mark env around frames z =
        either s (is_condition (tables s.program) z.state c)
        (under s l t around.handlers c mark around frames z)
        (domain_errors around c serious_condition_class frames z)

    next_methods : (m : Option Called) (env : FlatEnvironment) (around : DynamicContext) (frames : List ContinuationFrame) (z : FlatState)
        → ReachesOutcome s (next_method_step s m (situation l env around) frames z) (mean_next context m around z) frames
    next_methods None env around frames z = signals_come s l t around control_error_class [] frames z
    next_methods (Some called) env around frames z =
        chains s l t (signal context) around (signals_come s l t around) called.rest called.arguments frames z

    -- a tagbody
    pub segments_turn : (e : ℕ) (all : FlatForms) (env : FlatEnvironment) (around : DynamicContext) {frames : List ContinuationFrame} {m : Configuration} {r : FlatEvaluated}
        → ReachesOutcome s m r (awaits last_segment ∷ turns e all (situation l env around) ∷ frames)
        → ReachesOutcome s m (turned context e all env around r) frames
    segments_turn e all env around x =
        turning s (on s x (λ v z. here s)) (λ v landing z. turn_below l t e (from_segment (segment_of landing) all) all env around _ z)

    mutual
      unfolding mean

      pub form_means : (f : FlatForm) (env : FlatEnvironment) (around : DynamicContext) (frames : List ContinuationFrame) (z : FlatState)
          → ReachesOutcome s (configuration (evaluate f (situation l env around)) frames z) (mean context f env around z) frames
      form_means (literal id) env around frames z = after_step s (literals id (slice_get s.program.literals id) env around frames _)
      form_means (local p) env around frames z = after_step s (here s)
      form_means (set_local p f) env around frames z = after_step s (on s (form_means f env around _ _) (λ x after. here s))
      form_means (global n) env around frames z = after_step s (globals (text s.names n) env around frames _)
      form_means (set_global n f) env around frames z =
          after_step s (on s (form_means f env around _ _) (λ x after. globals_set (text s.names n) x env around frames after))
      form_means (def_global n f) env around frames z = after_step s (on s (form_means f env around _ _) (λ x after. here s))
      form_means (clauses cs) env around frames z = after_step s (clauses_mean cs env around frames _)
      form_means (sequence fs) env around frames z = after_step s (sequence_means nil fs env around frames _)
      form_means (let_form bs body) env around frames z =
          after_step s (bindings_mean bs bs body [] env around frames _ (λ vs after.
          boxes s s.limit (binding_homes bs) after _ (λ none ready.
          slots_dropped s (form_means body env around _ _))))
      form_means (make_function p parts) env around frames z = after_step s (here s)
      form_means (call n fs) env around frames z =
          after_step s (arguments_mean (call_name n) fs [] env around frames _ (λ vs after. operates (call_name n) vs env around frames after))
      form_means (call_value fs) env around frames z =
          after_step s (arguments_mean call_first fs [] env around frames _ (λ vs after. operates call_first vs env around frames after))
      form_means (apply f list) env around frames z =
          after_step s (on s (form_means f env around _ _) (λ function after.
          on s (form_means list env around _ _) (λ v ready. lists_apply function v env around frames ready)))
      form_means (prim which fs) env around frames z =
          after_step s (arguments_mean (compute which) fs [] env around frames _ (λ vs after. operates (compute which) vs env around frames after))
      form_means (while_form test body) env around frames z =
          after_step s (on s (form_means test env around _ _) (λ v after.
          either s (is_true v)
          (on s (form_means body env around _ _) (λ ignored again. form_below l t (while_form test body) env around frames again))
          (here s)))
      form_means (block body) env around frames z =
          after_step s (catching s (form_means body (with_exit z env) (inside block_exit around z) _ _))
      form_means (return_from x f) env around frames z =
          after_step s (on s (form_means f env around _ _) (λ v after. transfers s l t around (exit_of x env) v (at_segment 0) frames after))
      form_means (tagbody segments) env around frames z =
          after_step s (segments_turn z.state.exits segments (with_exit z env) around
          (sequence_means nil segments (with_exit z env) (with_turns z.state.exits around) _ _))
      form_means (go x segment) env around frames z =
          after_step s (transfers s l t around (exit_of x env) nil (at_segment segment) frames _)
      form_means (catch_form tag body) env around frames z =
          after_step s (on s (form_means tag env around _ _) (λ v after.
          catching s (form_means body env (inside (catch_exit v) around after) _ _)))
      form_means (throw tag f) env around frames z =
          after_step s (on s (form_means tag env around _ _) (λ v after.
          on s (form_means f env around _ _) (λ x ready. throws s l t around v x frames ready)))
      form_means (unwind f cleanup) env around frames z =
          after_step s (cleaning s {act = λ within y. mean context cleanup env within y} (form_means f env around _ _) (λ within outer y. form_means cleanup env within outer y))
      form_means (dynamic_let bs body) env around frames z =
          after_step s (dynamics_mean bs bs body [] env around frames _ (λ vs after. unbound s (form_means body env _ _ _)))
      form_means (dynamic n) env around frames z = after_step s (dynamics (text s.names n) env around frames _)
      form_means (set_dynamic n f) env around frames z =
          after_step s (on s (form_means f env around _ _) (λ x after. dynamics_set (text s.names n) x env around frames after))
      form_means (def_dynamic n f) env around frames z = after_step s (on s (form_means f env around _ _) (λ x after. here s))
      form_means (with_handler handler body) env around frames z =
          after_step s (on s (form_means handler env around _ _) (λ h after.
          either s (is_function (fetch after.state h))
          (unbound s (form_means body env (record around { handlers = h ∷ around.handlers }) _ after))
          (domain_errors around h function_class frames after)))
      form_means (signal_form condition continuable) env around frames z =
          after_step s (on s (form_means condition env around _ _) (λ c after.
          on s (form_means continuable env around _ _) (λ mark ready. signal_forms c mark env around frames ready)))
      form_means (continue_form condition f) env around frames z =
          after_step s (on s (form_means condition env around _ _) (λ c after.
          on s (form_means f env around _ _) (λ v ready. continues s l t around c v frames ready)))
      form_means (next_method m) env around frames z = after_step s (next_methods (method_of m env) env around frames _)
      form_means (has_next m) env around frames z = after_step s (here s)
      form_means (sited site f) env around frames z =
          after_step s (form_means f env (record around { site = place_of_site s.program.sites site }) frames z)

      pub sequence_means : (last : Value) (fs : FlatForms) (env : FlatEnvironment) (around : DynamicContext) (frames : List ContinuationFrame) (z : FlatState)
          → ReachesOutcome s (sequence_step s last fs (situation l env around) frames z) (mean_sequence context last fs env around z) frames
      sequence_means last no_form env around frames z = here s
      sequence_means last (form_and f fs) env around frames z =
          on s (form_means f env around _ z) (λ v after. sequence_means v fs env around frames after)

      arguments_mean : (o : Operator) (fs : FlatForms) (vs : List Value) (env : FlatEnvironment) (around : DynamicContext) (frames : List ContinuationFrame) (z : FlatState)
          → {follow : List Value → FlatState → FlatEvaluated}
          → ((us : List Value) (y : FlatState) → ReachesOutcome s (operation_step s o us (situation l env around) frames y) (follow us y) frames)
          → ReachesOutcome s (arguments_step s o fs vs (situation l env around) frames z) (mean_arguments context fs vs env around z follow) frames
      arguments_mean o no_form vs env around frames z c = c vs z
      arguments_mean o (form_and f fs) vs env around frames z c =
          on s (form_means f env around _ z) (λ v after. arguments_mean o fs (vs ++ v ∷ []) env around frames after c)

      clauses_mean : (cs : FlatClauses) (env : FlatEnvironment) (around : DynamicContext) (frames : List ContinuationFrame) (z : FlatState)
          → ReachesOutcome s (clauses_step s cs (situation l env around) frames z) (mean_clauses context cs env around z) frames
      clauses_mean no_clause env around frames z = here s
      clauses_mean (clause_and test body cs) env around frames z =
          on s (form_means test env around _ z) (λ v after.
          either s (is_true v) (body_means v body env around frames after) (clauses_mean cs env around frames after))

      body_means : (v : Value) (b : FlatBody) (env : FlatEnvironment) (around : DynamicContext) (frames : List ContinuationFrame) (z : FlatState)
          → ReachesOutcome s (clause_body_step s v b (situation l env around) frames z) (mean_body context v b env around z) frames
      body_means v no_body env around frames z = here s
      body_means v (with_body f) env around frames z = form_means f env around frames z

      bindings_mean : (bs all : FlatBindings) (body : FlatForm) (vs : List Value) (env : FlatEnvironment) (around : DynamicContext) (frames : List ContinuationFrame) (z : FlatState)
          → {follow : List Value → FlatState → FlatEvaluated}
          → ((us : List Value) (y : FlatState) → ReachesOutcome s (let_step s all body us (situation l env around) frames y) (follow us y) frames)
          → ReachesOutcome s (bindings_step s bs vs all body (situation l env around) frames z) (mean_bindings context bs vs env around z follow) frames
      bindings_mean no_binding all body vs env around frames z c = c vs z
      bindings_mean (binding_and h f bs) all body vs env around frames z c =
          on s (form_means f env around _ z) (λ v after. bindings_mean bs all body (vs ++ v ∷ []) env around frames after c)

      dynamics_mean : (bs all : FlatDynamics) (body : FlatForm) (vs : List Value) (env : FlatEnvironment) (around : DynamicContext) (frames : List ContinuationFrame) (z : FlatState)
          → {follow : List Value → FlatState → FlatEvaluated}
          → ((us : List Value) (y : FlatState) → ReachesOutcome s (dynamic_let_step s all body us (situation l env around) frames y) (follow us y) frames)
          → ReachesOutcome s (dynamics_step s bs vs all body (situation l env around) frames z) (mean_dynamics context bs vs env around z follow) frames
      dynamics_mean no_dynamic all body vs env around frames z c = c vs z
      dynamics_mean (dynamic_and n f bs) all body vs env around frames z c =
          on s (form_means f env around _ z) (λ v after. dynamics_mean bs all body (vs ++ v ∷ []) env around frames after c)
