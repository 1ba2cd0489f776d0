-- Forms and tasks side by side, over meanings one level below that agree: one line a form.
use Rattle.std.proofs.Common.{◌≡◌, ℕ, zero, suc, ◌+◌, Bool, true, false, List, [], ◌∷◌, ◌++◌, refl, subst, Option, Some, None, length}
use Rattle.std.specs.Prelude.{slice_get, if◌then◌else◌}
use Rattle.std.specs.Str.{bytes_eq}
use Rattle.base.specs.AllOf.{AllOf, all_both}
use Rattle.lang_meaning.specs.declared.program.FunctionRow.{FunctionRow}
use Rattle.lang_meaning.specs.declared.program.LiteralRow.{LiteralRow}
use Rattle.lang_meaning.specs.declared.program.LiteralRow.TheVariants as row
use Rattle.lang_meaning.specs.Form.{Form, literal, local, set_local, global, set_global, def_global, clauses, sequence, let_form, lambda, call, call_value, apply, prim, while_form, block, return_from, tagbody, go, catch_form, throw, unwind, dynamic_let, dynamic, set_dynamic, def_dynamic, with_handler, signal_form, continue_form, next_method, has_next, sited}
use Rattle.lang_meaning.specs.Form.{Forms, no_form, form_and, ClauseForms, no_clause, clause_and, no_body, with_body}
use Rattle.lang_meaning.specs.Form.{BindingForms, no_binding, binding_and, DynamicForms, no_dynamic, dynamic_and}
use Rattle.lang_meaning.specs.Inside.{inside_form, inside_step}
use Rattle.lang_meaning.specs.Subforms.{fold_forms, fold_clauses, fold_values, fold_dynamics, clause_list, value_list, dynamic_value_list}
use Rattle.lang_meaning.specs.Counts.{count_forms, count_clauses, count_bindings, count_dynamics}
use Rattle.lang_meaning.specs.Values.{Value, symbol, named, nil, object, truth, is_true}
use Rattle.lang_meaning.specs.Objects.{Called, Environment, Object, cons, closure, function_class, list_class, serious_condition_class, control_error_class, unbound_variable_class}
use Rattle.lang_meaning.specs.State.{State, DynamicContext, block_exit, catch_exit, at_segment, Evaluated, Act, inside, exit_made, charged}
use Rattle.lang_meaning.specs.Lookup.{text, is_in, under_text, under_number, value_at, set_at, numbered, with_variables, with_values, with_exit}
use Rattle.lang_meaning.specs.Classes.{fetch, is_condition}
use Rattle.lang_meaning.specs.Literals.{function_row}
use Rattle.lang_meaning.specs.Primitives.{is_function, primitive}
use Rattle.lang_meaning.specs.Signals.{Task, nothing, form, turn, methods, signal_domain_error, signal, answered, apply_value, unbound_variable}
use Rattle.lang_meaning.specs.Meaning.{place_of_site, unless_nil, from_segment, segment_of, bound_variables, bound_names, with_turns, Spread, spread_at, spread, mean_literal, mean_global, set_global_to, mean_dynamic, set_dynamic_to, mean_apply, mean_call_value, mean_signal, with_handler_value, mean_next, turned, mean, mean_sequence, mean_arguments, mean_clauses, mean_bindings, mean_dynamics, mean_task}
use Rattle.lang_reached.specs.LeftOut.{KeepsRow, KeepsLiteral}
use Rattle.lang_reached.proofs.Live.{Setting, Live, AllLive, NamedLive, FormFine, FormsFine, MethodFine, ObjectFine, StateFine, AroundFine, EnvironmentFine, TaskFine, all_or}
use Rattle.lang_reached.proofs.States.{set_fine, values_fine, global_fine, dynamic_fine}
use Rattle.lang_reached.proofs.Agreeing.{Agrees, ContinuesAll, Acts, given, on, tests, lands_on, catches, cleans, some, made, boxes, searches}
use Rattle.lang_reached.proofs.Applying.{Grounded, Beside, whole, left, Both, domain_signals, undefined, row_applies, value_applies, chain_runs, signals, signals_under, transfers, throws, continues}
use Rattle.lang_reached.proofs.Answering.{answers, same_row, row as answer_row}
use Rattle.lang_reached.proofs.Parts.{one_kept, body_kept, two_kept, outer_kept, inner_kept, forms_kept, clauses_kept, values_kept, dynamics_kept}

module _ {t : Setting} (g : Grounded t) (b : Beside t) where
  domains : (v : Value) (expected : ℕ) → Live t v → Both g b (λ context. signal_domain_error context (signal context) v expected)
  domains = domain_signals g b signal (signals g b)

  literals : (id : ℕ) (r : Option LiteralRow) → KeepsLiteral t.names t.program t.kept r → Both g b (λ context. mean_literal context id r)
  literals id None k around z a f = given nil z tt f
  literals id (Some (row.Datum d)) k around z a f = given _ z (g.literal_live id d) f
  literals id (Some (row.Class c)) k around z a f = given _ z (g.class_live c) f
  literals id (Some (row.Function name)) k around z a f =
      some (function_row t.names t.program.functions (text t.names name.0))
      (undefined g b signal (signals g b) (text t.names name.0))
      (λ (r : FunctionRow) e around y a' f'.
      given _ y (g.function_live (text t.names name.0) r e (subst (KeepsRow t.names t.program t.kept) e k)) f')
      around z a f

  unbound : (name : List ℕ) → Both g b (λ context. unbound_variable (signal context) name)
  unbound name around z a f = signals g b unbound_variable_class (symbol (named name) ∷ []) (tt, tt) around z a f

  under_live : (name : List ℕ) (xs : List (List ℕ × Value)) → AllOf (NamedLive t) xs → (v : Value) → under_text name xs ≡ Some v → Live t v
  under_live name [] h v e = absurd (cc)
  under_live name (x ∷ xs) h v e = by (bytes_eq name x.0) e (under_live name xs h.1 v)
    where
      by : (c : Bool) → (if c then Some x.1 else under_text name xs) ≡ Some v → (under_text name xs ≡ Some v → Live t v) → Live t v
      by true d others = let same : x.1 ≡ v = cc in subst (Live t) same h.0
      by false d others = others d

  globals : (name : List ℕ) → Both g b (λ context. mean_global context name)
  globals name around z a f =
      some (under_text name z.globals) (unbound name) (λ v e around y a' f'. given v y (under_live name z.globals f.globals v e) f') around z a f

  globals_set : (name : List ℕ) (v : Value) → Live t v → Both g b (λ context. set_global_to context name v)
  globals_set name v l around z a f =
      some (under_text name z.globals) (unbound name)
      (λ old e around y a' f'. given v (record y { globals = (name, v) ∷ y.globals }) l (global_fine y f' name v l)) around z a f

  variable_live : (i : Option ℕ) (z : State) → StateFine t z → Live t (value_at i z)
  variable_live (Some i) z f = all_or (Live t) z.variables i nil f.variables tt
  variable_live None z f = tt

  dynamics : (name : List ℕ) → Both g b (λ context. mean_dynamic context name)
  dynamics name around z a f =
      searches (λ (x : List ℕ × ℕ). bytes_eq name x.0)
      (λ x y f'. given (value_at (Some x.1) y) y (variable_live (Some x.1) y f') f')
      (λ y f'. some (under_text name y.dynamics) (unbound name)
      (λ v e around w a'' f''. given v w (under_live name y.dynamics f'.dynamics v e) f'') around y a f')
      around.bindings z f

  dynamics_set : (name : List ℕ) (v : Value) → Live t v → Both g b (λ context. set_dynamic_to context name v)
  dynamics_set name v l around z a f =
      searches (λ (x : List ℕ × ℕ). bytes_eq name x.0)
      (λ x y f'. given v (set_at (Some x.1) v y) l (set_fine y f' (Some x.1) v l))
      (λ y f'. some (under_text name y.dynamics) (unbound name)
      (λ old e around w a'' f''. given v (record w { dynamics = (name, v) ∷ w.dynamics }) l (dynamic_fine w f'' name v l)) around y a f')
      around.bindings z f

  value_calls : (v : Value) (vs : List Value) → Live t v → AllLive t vs → Both g b (λ context. apply_value context (signal context) v vs)
  value_calls v vs l ls around z a f = value_applies g b signal (signals g b) v vs l ls around z a f

  -- the elements of a list are live
  spread_live : (n : ℕ) (z : State) (seen : List ℕ) (v : Value) → StateFine t z → Live t v → AllLive t (spread n z seen v).elements
  spread_live zero z seen v f l = tt
  spread_live (suc n) z seen (object i) f l = by (slice_get z.store i) (λ p e. f.store.each i p e) (λ d ld. spread_live n z (i ∷ seen) d f ld)
    where
      by : (o : Option Object) → ((p : Object) → o ≡ Some p → ObjectFine t i p)
          → ((d : Value) → Live t d → AllLive t (spread n z (i ∷ seen) d).elements)
          → AllLive t (spread_at (λ j d. spread n z (j ∷ seen) d) seen (object i) o).elements
      by (Some (cons a d)) h others = in_turn (is_in i seen) (h (cons a d) refl)
        where
          in_turn : (c : Bool) → Live t a × Live t d
              → AllLive t (if◌then◌else◌ {A = Spread} c (record { elements = []; proper = false }) (record { elements = a ∷ (spread n z (i ∷ seen) d).elements; proper = (spread n z (i ∷ seen) d).proper })).elements
          in_turn true x = tt
          in_turn false x = (x.0, others d x.1)
      by o h others = tt
  spread_live (suc n) z seen v f l = tt

  lists_apply : (v list : Value) → Live t v → Live t list → Both g b (λ context. mean_apply context v list)
  lists_apply v list l ll around z a f =
      tests (is_function (fetch z v))
      (tests (spread (length z.store + 1) z [] list).proper
      (value_calls v (spread (length z.store + 1) z [] list).elements l (spread_live (length z.store + 1) z [] list f ll) around
      (charged (length (spread (length z.store + 1) z [] list).elements) z) a f)
      (domains list list_class ll around (charged (length (spread (length z.store + 1) z [] list).elements) z) a f))
      (domains v function_class l around z a f)

  calls : (vs : List Value) → AllLive t vs → Both g b (λ context. mean_call_value context vs)
  calls [] l around z a f = given nil z tt f
  calls (v ∷ vs) l around z a f = value_calls v vs l.0 l.1 around z a f

  condition_signals : (c mark : Value) → Live t c → Live t mark → Both g b (λ context. mean_signal context c mark)
  condition_signals c mark lc lm around z a f =
      tests (is_condition t.program z c)
      (signals_under g b around.handlers c mark a lc lm around z a f)
      (domains c serious_condition_class lc around z a f)

  handlers : (h : Value) (around : DynamicContext) (z : State) {body body' : Act} → Live t h → AroundFine t around → StateFine t z → Acts t body body'
      → Agrees t (with_handler_value (whole g b) h body around z) (with_handler_value (left g b) h body' around z)
  handlers h around z l a f c =
      tests (is_function (fetch z h)) (c (record around { handlers = h ∷ around.handlers }) z (l, a) f)
      (domains h function_class l around z a f)

  nexts : (m : Option Called) → MethodFine t m → Both g b (λ context. mean_next context m)
  nexts None fm around z a f = signals g b control_error_class [] tt around z a f
  nexts (Some called) fm around z a f = chain_runs g b signal (signals g b) called.rest called.arguments fm.rest fm.arguments around z a f

  from_fine : (n : ℕ) (fs : Forms) → FormsFine t fs → FormsFine t (from_segment n fs)
  from_fine zero fs h = h
  from_fine (suc n) no_form h = tt
  from_fine (suc n) (form_and f fs) h = from_fine n fs h.1

  turns : (e : ℕ) (all : Forms) (env : Environment) (around : DynamicContext) {r s : Evaluated}
      → FormsFine t all → EnvironmentFine t env → AroundFine t around → Agrees t r s
      → Agrees t (turned (whole g b) e all env around r) (turned (left g b) e all env around s)
  turns e all env around fa fe a x =
      lands_on e
      (λ v landing z l f. b.within (turn e (from_segment (segment_of landing) all) all) env (from_fine (segment_of landing) all fa, fa) fe around z a f)
      (on x (λ v after l f. given nil after tt f))

  truths : (v : Value) {r s r' s' : Evaluated} → Agrees t r s → Agrees t r' s' → Agrees t (unless_nil v r r') (unless_nil v s s')
  truths v x x' = tests (is_true v) x x'

  truth_live : (c : Bool) → Live t (truth c)
  truth_live true = tt
  truth_live false = tt

  mutual
    unfolding mean

    pub means : (f : Form) (env : Environment) → FormFine t f → EnvironmentFine t env → Both g b (λ context. mean context f env)
    means (literal id) env k e around z a s = literals id _ k.0 around (charged 1 z) a s
    means (local v) env k e around z a s = given _ (charged 1 z) (variable_live (under_number v env.variables) z s) s
    means (set_local v f) env k e around z a s =
        on (means f env (one_kept t f k.1) e around (charged 1 z) a s) (λ x after l s'.
        given x (set_at (under_number v env.variables) x after) l (set_fine after s' (under_number v env.variables) x l))
    means (global n) env k e around z a s = globals (text t.names n) around (charged 2 z) a s
    means (set_global n f) env k e around z a s =
        on (means f env (one_kept t f k.1) e around (charged 2 z) a s) (λ x after l s'. globals_set (text t.names n) x l around after a s')
    means (def_global n f) env k e around z a s =
        on (means f env (one_kept t f k.1) e around (charged 2 z) a s) (λ x after l s'.
        given _ _ tt (global_fine after s' (text t.names n) x l))
    means (clauses cs) env k e around z a s =
        clauses_mean cs env (clauses_kept t cs (outer_kept t (fold_clauses inside_step cs) [] k.1)) e around (charged (1 + count_clauses cs) z) a s
    means (sequence fs) env k e around z a s =
        sequence_means nil fs env tt (forms_kept t fs (outer_kept t (fold_forms inside_step fs) [] k.1)) e around (charged 1 z) a s
    means (let_form bs body) env k e around z a s =
        let outer = fold_values inside_step bs in
        bindings_mean bs [] env around (charged (1 + count_bindings bs) z) (values_kept t bs (outer_kept t outer (inside_form body ∷ []) k.1)) tt e a s (λ vs after l s'.
        boxes b.limit (bound_variables bs) body after s' (λ ready s''.
        means body (with_variables (bound_variables bs) ready env) (body_kept t body (inner_kept t outer (inside_form body ∷ []) k.1)) e around (with_values vs ready) a
        (values_fine ready s'' vs l)))
    means (lambda required rest body parts) env k e around z a s =
        made b.limit _ 0 (closure required rest body env) (charged (1 + length parts) z) s (λ i. (body_kept t body k.1, e)) (λ v after l s'. given v after l s')
    means (call n fs) env k e around z a s =
        arguments_mean fs [] env around (charged (2 + count_forms fs) z) (forms_kept t fs (outer_kept t (fold_forms inside_step fs) [] k.1)) tt e a s (λ vs after l s'.
        row_applies g b signal (signals g b) (text t.names n) _ vs k.0 l around after a s')
    means (call_value fs) env k e around z a s =
        arguments_mean fs [] env around (charged (1 + count_forms fs) z) (forms_kept t fs (outer_kept t (fold_forms inside_step fs) [] k.1)) tt e a s (λ vs after l s'.
        calls vs l around after a s')
    means (apply f list) env k e around z a s =
        let both = two_kept t f list k.1 in
        on (means f env both.0 e around (charged 1 z) a s) (λ function after l s'.
        on (means list env both.1 e around after a s') (λ v ready l' s''. lists_apply function v l l' around ready a s''))
    means (prim which fs) env k e around z a s =
        arguments_mean fs [] env around (charged (1 + count_forms fs) z) (forms_kept t fs (outer_kept t (fold_forms inside_step fs) [] k.1)) tt e a s (λ vs after l s'.
        subst (λ x. Agrees t (answered (whole g b) (primitive t.names t.program which vs after) around after) (answered (left g b) x around after))
        (same_row t which vs after)
        (answers g b (primitive t.names t.program which vs after) around after (answer_row g which vs after l s').by a))
    means (while_form test body) env k e around z a s =
        let both = two_kept t test body k.1 in
        on (means test env both.0 e around (charged 1 z) a s) (λ v after l s'.
        truths v
        (on (means body env both.1 e around after a s') (λ ignored again l' s''. b.within (form (while_form test body)) env k e around again a s''))
        (given nil after tt s'))
    means (block x body) env k e around z a s =
        catches z.exits (means body (with_exit x z env) (body_kept t body k.1) e (inside block_exit around z) (exit_made (charged 2 z)) a s)
    means (return_from x f) env k e around z a s =
        on (means f env (one_kept t f k.1) e around (charged 1 z) a s) (λ v after l s'.
        transfers g b (under_number x env.exits) v (at_segment 0) l around after a s')
    means (tagbody x segments) env k e around z a s =
        let kept = forms_kept t segments k.1 in
        turns z.exits segments (with_exit x z env) around kept e a
        (sequence_means nil segments (with_exit x z env) tt kept e (with_turns z.exits around) _ a s)
    means (go x segment) env k e around z a s = transfers g b (under_number x env.exits) nil (at_segment segment) tt around (charged 1 z) a s
    means (catch_form tag body) env k e around z a s =
        let both = two_kept t tag body k.1 in
        on (means tag env both.0 e around (charged 2 z) a s) (λ v after l s'.
        catches after.exits (means body env both.1 e (inside (catch_exit v) around after) (exit_made after) a s'))
    means (throw tag f) env k e around z a s =
        let both = two_kept t tag f k.1 in
        on (means tag env both.0 e around (charged 1 z) a s) (λ v after l s'.
        on (means f env both.1 e around after a s') (λ x ready l' s''. throws g b v x l' around ready a s''))
    means (unwind f cleanup) env k e around z a s =
        let both = two_kept t f cleanup k.1 in
        cleans around a (λ within after a' s'. means cleanup env both.1 e within after a' s') (means f env both.0 e around (charged 2 z) a s)
    means (dynamic_let bs body) env k e around z a s =
        let outer = fold_dynamics inside_step bs in
        dynamics_mean bs [] env around (charged (1 + count_dynamics bs) z) (dynamics_kept t bs (outer_kept t outer (inside_form body ∷ []) k.1)) tt e a s (λ vs after l s'.
        means body env (body_kept t body (inner_kept t outer (inside_form body ∷ []) k.1)) e
        (record around { bindings = numbered (bound_names t.names bs) (length after.variables) ++ around.bindings })
        (with_values vs after) a (values_fine after s' vs l))
    means (dynamic n) env k e around z a s = dynamics (text t.names n) around (charged 2 z) a s
    means (set_dynamic n f) env k e around z a s =
        on (means f env (one_kept t f k.1) e around (charged 2 z) a s) (λ x after l s'. dynamics_set (text t.names n) x l around after a s')
    means (def_dynamic n f) env k e around z a s =
        on (means f env (one_kept t f k.1) e around (charged 2 z) a s) (λ x after l s'.
        given _ _ tt (dynamic_fine after s' (text t.names n) x l))
    means (with_handler handler body) env k e around z a s =
        let both = two_kept t handler body k.1 in
        on (means handler env both.0 e around (charged 2 z) a s) (λ h after l s'.
        handlers h around after l a s' (λ within ready a' s''. means body env both.1 e within ready a' s''))
    means (signal_form condition continuable) env k e around z a s =
        let both = two_kept t condition continuable k.1 in
        on (means condition env both.0 e around (charged 1 z) a s) (λ c after l s'.
        on (means continuable env both.1 e around after a s') (λ mark ready l' s''. condition_signals c mark l l' around ready a s''))
    means (continue_form condition f) env k e around z a s =
        let both = two_kept t condition f k.1 in
        on (means condition env both.0 e around (charged 1 z) a s) (λ c after l s'.
        on (means f env both.1 e around after a s') (λ v ready l' s''. continues g b c v l' around ready a s''))
    means next_method env k e around z a s = nexts env.method e around (charged 1 z) a s
    means has_next env k e around z a s = given _ (charged 1 z) (truth_live _) s
    means (sited site f) env k e around z a s =
        means f env (one_kept t f k.1) e (record around { site = place_of_site t.program.sites site }) z a s

    sequence_means : (last : Value) (fs : Forms) (env : Environment) → Live t last → FormsFine t fs → EnvironmentFine t env
        → Both g b (λ context. mean_sequence context last fs env)
    sequence_means last no_form env l k e around z a s = given last z l s
    sequence_means last (form_and f fs) env l k e around z a s =
        on (means f env k.0 e around z a s) (λ v after l' s'. sequence_means v fs env l' k.1 e around after a s')

    arguments_mean : (fs : Forms) (vs : List Value) (env : Environment) (around : DynamicContext) (z : State) {next next' : List Value → State → Evaluated}
        → FormsFine t fs → AllLive t vs → EnvironmentFine t env → AroundFine t around → StateFine t z → ContinuesAll t next next'
        → Agrees t (mean_arguments (whole g b) fs vs env around z next) (mean_arguments (left g b) fs vs env around z next')
    arguments_mean no_form vs env around z k ls e a s c = c vs z ls s
    arguments_mean (form_and f fs) vs env around z k ls e a s c =
        on (means f env k.0 e around z a s) (λ v after l s'.
        arguments_mean fs (vs ++ v ∷ []) env around after k.1 (all_both (Live t) vs (v ∷ []) ls (l, tt)) e a s' c)

    clauses_mean : (cs : ClauseForms) (env : Environment) → AllOf (FormFine t) (clause_list cs) → EnvironmentFine t env
        → Both g b (λ context. mean_clauses context cs env)
    clauses_mean no_clause env k e around z a s = given nil z tt s
    clauses_mean (clause_and test no_body cs) env k e around z a s =
        on (means test env k.0 e around z a s) (λ v after l s'. truths v (given v after l s') (clauses_mean cs env k.1 e around after a s'))
    clauses_mean (clause_and test (with_body f) cs) env k e around z a s =
        on (means test env k.0 e around z a s) (λ v after l s'.
        truths v (means f env k.1.0 e around after a s') (clauses_mean cs env k.1.1 e around after a s'))

    bindings_mean : (bs : BindingForms) (vs : List Value) (env : Environment) (around : DynamicContext) (z : State) {next next' : List Value → State → Evaluated}
        → AllOf (FormFine t) (value_list bs) → AllLive t vs → EnvironmentFine t env → AroundFine t around → StateFine t z → ContinuesAll t next next'
        → Agrees t (mean_bindings (whole g b) bs vs env around z next) (mean_bindings (left g b) bs vs env around z next')
    bindings_mean no_binding vs env around z k ls e a s c = c vs z ls s
    bindings_mean (binding_and x f bs) vs env around z k ls e a s c =
        on (means f env k.0 e around z a s) (λ v after l s'.
        bindings_mean bs (vs ++ v ∷ []) env around after k.1 (all_both (Live t) vs (v ∷ []) ls (l, tt)) e a s' c)

    dynamics_mean : (bs : DynamicForms) (vs : List Value) (env : Environment) (around : DynamicContext) (z : State) {next next' : List Value → State → Evaluated}
        → AllOf (FormFine t) (dynamic_value_list bs) → AllLive t vs → EnvironmentFine t env → AroundFine t around → StateFine t z → ContinuesAll t next next'
        → Agrees t (mean_dynamics (whole g b) bs vs env around z next) (mean_dynamics (left g b) bs vs env around z next')
    dynamics_mean no_dynamic vs env around z k ls e a s c = c vs z ls s
    dynamics_mean (dynamic_and n f bs) vs env around z k ls e a s c =
        on (means f env k.0 e around z a s) (λ v after l s'.
        dynamics_mean bs (vs ++ v ∷ []) env around after k.1 (all_both (Live t) vs (v ∷ []) ls (l, tt)) e a s' c)

  pub tasks : (task : Task) (env : Environment) → TaskFine t task → EnvironmentFine t env → Both g b (λ context. mean_task context task env)
  tasks nothing env k e around z a s = given nil z tt s
  tasks (form f) env k e around z a s = means f env k e around z a s
  tasks (turn n rest all) env k e around z a s =
      turns n all env around k.1 e a (sequence_means nil rest env tt k.0 e (with_turns n around) z a s)
  tasks (methods c vs) env k e around z a s = chain_runs g b signal (signals g b) c vs k.0 k.1 around z a s
