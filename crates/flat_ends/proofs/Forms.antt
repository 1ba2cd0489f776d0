-- Forms and tasks, in any context, over the meaning one level below: one line a form.
use Rattle.base.specs.AllOf.{AllOf}
use Rattle.std.proofs.Common.{◌≡◌, ◌⊎◌, inl, inr, ℕ, zero, suc, arith, refl, sym, subst, ◌∙◌, ◌+◌, Bool, true, false, List, [], ◌∷◌, ◌++◌, Option, Some, None, length, map}
use Rattle.std.specs.Str.{bytes_eq}
use Rattle.std.specs.Prelude.{slice_get, nat_le, if◌then◌else◌}
use Rattle.lang_meaning.specs.declared.program.LiteralRow.{LiteralRow}
use Rattle.lang_meaning.specs.declared.program.LiteralRow.TheVariants as row
use Rattle.lang_meaning.specs.Values.{Value, integer, character, symbol, named, nil, object, is_true}
use Rattle.lang_meaning.specs.declared.program.ProgramRows.{ProgramRows}
use Rattle.lang_meaning.specs.Objects.{Object, cons, string, vector, instance, function, closure, generic_function, class_object, input_stream, output_stream, vector_class, string_class, character_class, generic_function_class, cons_class, symbol_class, null_class, integer_class, stream_class, built_in_class_class, standard_class_class}
use Rattle.lang_meaning.specs.Objects.{Called, fresh_symbol, function_class, list_class, serious_condition_class, control_error_class, unbound_variable_class}
use Rattle.lang_meaning.specs.State.{State, DynamicContext, block_exit, catch_exit}
use Rattle.lang_meaning.specs.Lookup.{text, under_text, value_at, set_at, numbered}
use Rattle.lang_meaning.specs.Classes.{class_of_object, fetch, is_below, is_condition}
use Rattle.lang_meaning.specs.Literals.{function_row}
use Rattle.lang_meaning.specs.InitialHeap.{function_value}
use Rattle.lang_meaning.specs.Primitives.{Answer, result, makes, makes_symbol, fails, domain_error, is_function, primitive}
use Rattle.lang_meaning.specs.Meaning.{place_of_site, segment_of, with_turns, spread}
use Rattle.lang_meaning.proofs.Answers.{state_of}
use Rattle.flat_language.specs.declared.place.ExitPlace.{ExitPlace}
use Rattle.flat_language.specs.declared.place.ExitPlace.TheVariants as exit_place
use Rattle.flat_language.specs.declared.place.FlatCapture.{FlatCapture}
use Rattle.flat_language.specs.declared.place.FlatCapture.TheVariants as part
use Rattle.flat_language.specs.declared.place.VariablePlace.{VariablePlace}
use Rattle.flat_language.specs.declared.place.VariablePlace.TheVariants.{Slot, SlotBox, CapturedValue, CapturedBox}
use Rattle.flat_language.specs.FlatForm.{FlatForm, literal, local, set_local, global, set_global, def_global, clauses, sequence, let_form, make_function, call, call_value, apply, prim, while_form, block, return_from, tagbody, go, catch_form, throw, unwind, dynamic_let, dynamic, set_dynamic, def_dynamic, with_handler, signal_form, continue_form, next_method, has_next, sited}
use Rattle.flat_language.specs.FlatForm.{FlatForms, no_form, form_and, FlatClauses, no_clause, clause_and, FlatBody, no_body, with_body}
use Rattle.flat_language.specs.FlatForm.{FlatBindings, no_binding, binding_and, FlatDynamics, no_dynamic, dynamic_and}
use Rattle.flat_language.specs.FlatNodes.{tables}
use Rattle.flat_language.specs.FlatState.{FlatEnvironment, FlatState, FlatEvaluated, FlatAct, on_state, box_held, box_in, set_to, exit_of, exit_in, method_of, captured_part, charged, exit_made, with_values}
use Rattle.flat_language.specs.FlatSignals.{FlatContext, nothing, form, turn, methods, signal_domain_error, signal, answered, inside, apply_value, unbound_variable}
use Rattle.flat_language.specs.FlatMeaning.{charged_for, unless_nil, from_segment, binding_homes, bound_names, with_exit, mean_literal, mean_global, set_global_to, mean_dynamic, set_dynamic_to, mean_apply, mean_call_value, mean_signal, with_handler_value, mean_next, turned, mean, mean_sequence, mean_arguments, mean_clauses, mean_body, mean_bindings, mean_dynamics, mean_task}
use Rattle.flat_laws.specs.FlatLater.{FlatLater}
use Rattle.flat_laws.proofs.Later.{later_kept}
use Rattle.flat_laws.proofs.Combined as growing
use Rattle.flat_laws.proofs.Runs.{form_grows}
use Rattle.flat_ends.specs.Laws.{IsInstance, OnlyInstances}
use Rattle.flat_ends.specs.Leaving.{CaptureOnly, NamesOnly}
use Rattle.flat_ends.proofs.Combined.{Named, Kept, Hidden, Comes, Follows, Acts, Tasks, named_up, names_up, kept_later, kept_as, kept_made, lowered, new_named, given, on, tests, chosen, lands_on, catches, cleans, some, made, function_made, new_slots_left, primitive_kept}
use Rattle.flat_ends.proofs.Applied as applied
use Rattle.flat_ends.proofs.Applied.{Signs, domain_signals, undefined, row_applies, chain_runs, boxes, signals, signals_under, searches, transfers, throws, continues, hidden_inside}

-- one more exit of an activation
behind : (es : List ℕ) (x : ℕ) (n e : ℕ) → slice_get (es ++ x ∷ []) n ≡ Some e → (slice_get es n ≡ Some e) ⊎ (e ≡ x)
behind [] x zero e h = inr (sym (cc h))
behind [] x (suc n) e h = absurd (cc h)
behind (y ∷ es) x zero e h = inl h
behind (y ∷ es) x (suc n) e h = behind es x n e h

module _ {R : ℕ → Type 0} {C : Type 0} {floor : ℕ} where
  -- an exit that is made is one of the environment's
  pub exit_names : (z : FlatState) (env : FlatEnvironment) → Kept R C floor z → NamesOnly (Named R C floor) env → NamesOnly (Named R C (suc z.state.exits)) (with_exit z env)
  exit_names z env h known = record {
    own = λ n e found. by n e (behind env.exits z.state.exits n e found);
    captured = (names_up {env = env} (let up = h.up in omega (arith, up)) known).captured;
  }
    where
      by : (n e : ℕ) → (slice_get env.exits n ≡ Some e) ⊎ (e ≡ z.state.exits) → Named R C (suc z.state.exits) e
      by n e (inl found) = named_up (let up = h.up in omega (arith, up)) (known.own n e found)
      by n e (inr new) = subst (λ (x : ℕ). Named R C (suc z.state.exits) x) (sym new) (new_named h)

  pub exit_named : (x : ExitPlace) (env : FlatEnvironment) → NamesOnly (Named R C floor) env → (e : ℕ) → exit_of x env ≡ Some e → Named R C floor e
  exit_named (exit_place.Own n) env known e found = known.own n e found
  exit_named (exit_place.Captured n) env known e found = known.captured n e found

  -- what a function captures of an environment
  part_named : (env : FlatEnvironment) (z : FlatState) → NamesOnly (Named R C floor) env → (p : FlatCapture) (e : ℕ) → exit_in (Some (captured_part env z p)) ≡ Some e → Named R C floor e
  part_named env z known (part.Variable (Slot n)) e found = absurd (cc found)
  part_named env z known (part.Variable (SlotBox n)) e found = absurd (cc found)
  part_named env z known (part.Variable (CapturedValue n)) e found = absurd (cc found)
  part_named env z known (part.Variable (CapturedBox n)) e found = absurd (cc found)
  part_named env z known (part.Exit x) e found = exit_named x env known e found
  part_named env z known (part.Method m) e found = absurd (cc found)

  parts_named : (env : FlatEnvironment) (z : FlatState) → NamesOnly (Named R C floor) env → (parts : List FlatCapture)
      → CaptureOnly (Named R C floor) (map (captured_part env z) parts)
  parts_named env z known [] n e found = absurd (cc found)
  parts_named env z known (p ∷ ps) zero e found = part_named env z known p e found
  parts_named env z known (p ∷ ps) (suc n) e found = parts_named env z known ps n e found

-- a condition is an instance
object_is : (program : ProgramRows) → OnlyInstances program → (z : FlatState) (i : ℕ) (o : Option Object) → slice_get z.state.store i ≡ o
    → is_below program (class_of_object o) serious_condition_class ≡ true → IsInstance z (object i)
object_is program none z i (Some (instance class slots mark)) e h = record { number = i; is = refl; class = class; slots = slots; mark = mark; stands = e }
object_is program none z i None e h = absurd (cc (sym h ∙ none 0 (omega arith)))
object_is program none z i (Some (cons a d)) e h = absurd (cc (sym h ∙ none cons_class (omega arith)))
object_is program none z i (Some (string bytes)) e h = absurd (cc (sym h ∙ none string_class (omega arith)))
object_is program none z i (Some (vector vs)) e h = absurd (cc (sym h ∙ none vector_class (omega arith)))
object_is program none z i (Some (function p)) e h = absurd (cc (sym h ∙ none function_class (omega arith)))
object_is program none z i (Some (closure vs rest body env)) e h = absurd (cc (sym h ∙ none function_class (omega arith)))
object_is program none z i (Some (generic_function g)) e h = absurd (cc (sym h ∙ none generic_function_class (omega arith)))
object_is program none z i (Some (class_object c)) e h = by (nat_le c 16) h
  where
    by : (b : Bool) → is_below program (if b then built_in_class_class else standard_class_class) serious_condition_class ≡ true → IsInstance z (object i)
    by true h = absurd (cc (sym h ∙ none built_in_class_class (omega arith)))
    by false h = absurd (cc (sym h ∙ none standard_class_class (omega arith)))
object_is program none z i (Some input_stream) e h = absurd (cc (sym h ∙ none stream_class (omega arith)))
object_is program none z i (Some output_stream) e h = absurd (cc (sym h ∙ none stream_class (omega arith)))
object_is program none z i (Some (fresh_symbol s)) e h = absurd (cc (sym h ∙ none symbol_class (omega arith)))

condition_is : (program : ProgramRows) → OnlyInstances program → (z : FlatState) (c : Value) → is_condition program z.state c ≡ true → IsInstance z c
condition_is program none z (integer n) h = absurd (cc (sym h ∙ none integer_class (omega arith)))
condition_is program none z (character n) h = absurd (cc (sym h ∙ none character_class (omega arith)))
condition_is program none z (symbol s) h = absurd (cc (sym h ∙ none symbol_class (omega arith)))
condition_is program none z nil h = absurd (cc (sym h ∙ none null_class (omega arith)))
condition_is program none z (object i) h = object_is program none z i (slice_get z.state.store i) refl h

module _ {R : ℕ → Type 0} {C : Type 0} (context : FlatContext) (only : R 0 → OnlyInstances (tables context.program)) (w : Tasks R C context.below) (grow : growing.Tasks FlatLater later_kept context.below) where
  wrongs : Signs context w (signal context)
  wrongs = signals context w

  domains : {floor : ℕ} (v : Value) (expected : ℕ) → Acts R C floor (signal_domain_error context (signal context) v expected)
  domains = domain_signals context w (signal context) wrongs

  -- the answer of a primitive
  pub answers : {floor : ℕ} (a : Answer) (around : DynamicContext) → Hidden R around.exits → (z : FlatState) → Kept R C floor (record z { state = state_of a })
      → Comes R C floor (answered context a around z)
  answers (result v after) around hidden z h = given v (record z { state = after }) h
  answers (makes size besides o after) around hidden z h =
      made context.limit size besides o (record z { state = after }) h (λ v made hm. given v made hm)
  answers (makes_symbol after) around hidden z h =
      made context.limit 2 0 (fresh_symbol after.symbols) (record z { state = after }) h
      (λ v made hm. given v (on_state (λ (x : State). record x { symbols = x.symbols + 1 }) made) (kept_as hm refl refl))
  answers (fails class vs after) around hidden z h = wrongs _ class vs around hidden (record z { state = after }) h
  answers (domain_error v expected after) around hidden z h = domains v expected around hidden (record z { state = after }) h

  pub literals : {floor : ℕ} (id : ℕ) (r : Option LiteralRow) → Acts R C floor (mean_literal context id r)
  literals id None around hidden z h = given nil z h
  literals id (Some (row.Datum d)) around hidden z h = given _ z h
  literals id (Some (row.Class c)) around hidden z h = given _ z h
  literals id (Some (row.Function name)) around hidden z h =
      some (function_row context.names context.program.functions (text context.names name.0))
      (undefined context w (signal context) wrongs (text context.names name.0))
      (λ f a k y hy. given (function_value context.names (tables context.program) (text context.names name.0)) y hy)
      around hidden z h

  unbound : {floor : ℕ} (name : List ℕ) → Acts R C floor (unbound_variable (signal context) name)
  unbound name = wrongs _ unbound_variable_class (symbol (named name) ∷ [])

  pub globals : {floor : ℕ} (name : List ℕ) → Acts R C floor (mean_global context name)
  globals name around hidden z h =
      some (under_text name z.state.globals) (unbound name) (λ v a k y hy. given v y hy) around hidden z h

  pub globals_set : {floor : ℕ} (name : List ℕ) (v : Value) → Acts R C floor (set_global_to context name v)
  globals_set name v around hidden z h =
      some (under_text name z.state.globals) (unbound name)
      (λ old a k y hy. given v (on_state (λ (x : State). record x { globals = (name, v) ∷ x.globals }) y) (kept_as hy refl refl)) around hidden z h

  every : {X : Type 0} (xs : List X) → AllOf (λ (x : X). Unit {0}) xs
  every [] = tt
  every (x ∷ xs) = (tt, every xs)

  pub dynamics : {floor : ℕ} (name : List ℕ) → Acts R C floor (mean_dynamic context name)
  dynamics name around hidden z h =
      searches (λ (b : List ℕ × ℕ). bytes_eq name b.0) (λ b. Unit {0})
      (λ b t e y hy. given (value_at (Some b.1) y.state) y hy)
      (λ y hy. some (under_text name y.state.dynamics) (unbound name) (λ v a k x hx. given v x hx) around hidden y hy)
      around.bindings (every around.bindings) z h

  box_set : {floor : ℕ} (i : Option ℕ) (v : Value) (z : FlatState) → Kept R C floor z → Kept R C floor (on_state (λ y. set_at i v y) z)
  box_set (Some i) v z h = kept_as h refl refl
  box_set None v z h = h

  variable_set : {floor : ℕ} (p : VariablePlace) (v : Value) (env : FlatEnvironment) (z : FlatState) → Kept R C floor z → Kept R C floor (set_to p v env z)
  variable_set (Slot n) v env z h = kept_as h refl refl
  variable_set (SlotBox n) v env z h = box_set (box_held (slice_get z.frame n)) v z h
  variable_set (CapturedValue n) v env z h = h
  variable_set (CapturedBox n) v env z h = box_set (box_in (slice_get env.captured n)) v z h

  pub dynamics_set : {floor : ℕ} (name : List ℕ) (v : Value) → Acts R C floor (set_dynamic_to context name v)
  dynamics_set name v around hidden z h =
      searches (λ (b : List ℕ × ℕ). bytes_eq name b.0) (λ b. Unit {0})
      (λ b t e y hy. given v (on_state (λ x. set_at (Some b.1) v x) y) (box_set (Some b.1) v y hy))
      (λ y hy. some (under_text name y.state.dynamics) (unbound name)
      (λ old a k x hx. given v (on_state (λ (u : State). record u { dynamics = (name, v) ∷ u.dynamics }) x) (kept_as hx refl refl)) around hidden y hy)
      around.bindings (every around.bindings) z h

  value_applies : {floor : ℕ} (f : Value) (vs : List Value) → Acts R C floor (apply_value context (signal context) f vs)
  value_applies f vs = applied.value_applies context w (signal context) wrongs f vs

  pub lists_apply : {floor : ℕ} (f list : Value) → Acts R C floor (mean_apply context f list)
  lists_apply f list around hidden z h =
      let n : ℕ = length (spread (length z.state.store + 1) z.state [] list).elements in
      tests (is_function (fetch z.state f))
      (tests (spread (length z.state.store + 1) z.state [] list).proper
      (value_applies f (spread (length z.state.store + 1) z.state [] list).elements around hidden (charged n z) (kept_as h refl refl))
      (domains list list_class around hidden (charged n z) (kept_as h refl refl)))
      (domains f function_class around hidden z h)

  pub calls : {floor : ℕ} (vs : List Value) → Acts R C floor (mean_call_value context vs)
  calls [] around hidden z h = given nil z h
  calls (f ∷ vs) around hidden z h = value_applies f vs around hidden z h

  pub condition_signals : {floor : ℕ} (c mark : Value) → Acts R C floor (mean_signal context c mark)
  condition_signals c mark around hidden z h =
      chosen (is_condition (tables context.program) z.state c)
      (λ e. signals_under context w around.handlers _ c mark around hidden z h (λ r. condition_is (tables context.program) (only r) z c e))
      (λ e. domains c serious_condition_class around hidden z h)

  pub handlers : {floor : ℕ} (x : Value) (around : DynamicContext) → Hidden R around.exits → (z : FlatState) → Kept R C floor z → {body : FlatAct} → Acts R C floor body
      → Comes R C floor (with_handler_value context x body around z)
  handlers x around hidden z h c =
      tests (is_function (fetch z.state x)) (c (record around { handlers = x ∷ around.handlers }) hidden z h)
      (domains x function_class around hidden z h)

  pub nexts : {floor : ℕ} (m : Option Called) → Acts R C floor (mean_next context m)
  nexts None around hidden z h = wrongs _ control_error_class [] around hidden z h
  nexts (Some called) around hidden z h = chain_runs context w (signal context) wrongs called.rest called.arguments around hidden z h

  pub turns : {floor : ℕ} (e : ℕ) (all : FlatForms) (env : FlatEnvironment) (around : DynamicContext) {r : FlatEvaluated}
      → Named R C floor e → NamesOnly (Named R C floor) env → Hidden R around.exits → Comes R C floor r → Comes R C floor (turned context e all env around r)
  turns e all env around this known hidden x =
      lands_on e
      (λ v landing z h. w _ (turn e (from_segment (segment_of landing) all) all) env this known around hidden z h)
      (on x (λ v after h. given nil after h))

  truths : {floor : ℕ} (v : Value) {r s : FlatEvaluated} → Comes R C floor r → Comes R C floor s → Comes R C floor (unless_nil v r s)
  truths v x y = tests (is_true v) x y

  pub turning : (e : ℕ) (around : DynamicContext) → Hidden R around.exits → Hidden R (with_turns e around).exits
  turning e around hidden = ((λ same. refl), hidden)

  mutual
    unfolding mean

    pub means : {floor : ℕ} (f : FlatForm) (env : FlatEnvironment) → NamesOnly (Named R C floor) env → Acts R C floor (mean context f env)
    means (literal id) env known around hidden z h = literals id _ around hidden (charged_for (literal id) z) (kept_as h refl refl)
    means (local p) env known around hidden z h = given _ (charged 1 z) (kept_as h refl refl)
    means (set_local p f) env known around hidden z h =
        on (means f env known around hidden (charged_for (set_local p f) z) (kept_as h refl refl)) (λ x after ha.
        given x (set_to p x env after) (variable_set p x env after ha))
    means (global n) env known around hidden z h = globals (text context.names n) around hidden (charged_for (global n) z) (kept_as h refl refl)
    means (set_global n f) env known around hidden z h =
        on (means f env known around hidden (charged_for (set_global n f) z) (kept_as h refl refl)) (λ x after ha.
        globals_set (text context.names n) x around hidden after ha)
    means (def_global n f) env known around hidden z h =
        on (means f env known around hidden (charged_for (def_global n f) z) (kept_as h refl refl)) (λ x after ha.
        given (symbol (named (text context.names n))) _ (kept_as ha refl refl))
    means (clauses cs) env known around hidden z h = clauses_mean cs env known around hidden (charged_for (clauses cs) z) (kept_as h refl refl)
    means (sequence fs) env known around hidden z h = sequence_means nil fs env known around hidden (charged_for (sequence fs) z) (kept_as h refl refl)
    means (let_form bs body) env known around hidden z h =
        bindings_mean bs [] env known around hidden (charged_for (let_form bs body) z) (kept_as h refl refl) (λ vs after ha.
        boxes context.limit (binding_homes bs) after ha (λ ready hr.
        new_slots_left (binding_homes bs) vs ready hr (λ inner hi. means body env known around hidden inner hi)))
    means (make_function p parts) env known around hidden z h =
        function_made context.limit p (map (captured_part env z) parts) (charged_for (make_function p parts) z) (kept_as h refl refl) (parts_named env z known parts)
        (λ v after ha. given v after ha)
    means (call n fs) env known around hidden z h =
        arguments_mean fs [] env known around hidden (charged_for (call n fs) z) (kept_as h refl refl) (λ vs after ha.
        row_applies context w (signal context) wrongs (text context.names n) _ vs around hidden after ha)
    means (call_value fs) env known around hidden z h =
        arguments_mean fs [] env known around hidden (charged_for (call_value fs) z) (kept_as h refl refl) (λ vs after ha. calls vs around hidden after ha)
    means (apply f list) env known around hidden z h =
        on (means f env known around hidden (charged_for (apply f list) z) (kept_as h refl refl)) (λ function after ha.
        on (means list env known around hidden after ha) (λ v ready hr. lists_apply function v around hidden ready hr))
    means (prim which fs) env known around hidden z h =
        arguments_mean fs [] env known around hidden (charged_for (prim which fs) z) (kept_as h refl refl) (λ vs after ha.
        answers (primitive context.names (tables context.program) which vs after.state) around hidden after
        (primitive_kept context.names (tables context.program) which vs after ha))
    means (while_form test body) env known around hidden z h =
        on (means test env known around hidden (charged_for (while_form test body) z) (kept_as h refl refl)) (λ v after ha.
        truths v
        (on (means body env known around hidden after ha) (λ ignored again hg. w _ (form (while_form test body)) env tt known around hidden again hg))
        (given nil after ha))
    means (block body) env known around hidden z h =
        lowered (let up = h.up in omega (arith, up)) h.first
        (catches z.state.exits
        (means body (with_exit z env) (exit_names z env h known) (inside block_exit around z) (hidden_inside context w block_exit around z h hidden)
        (exit_made (charged_for (block body) z)) (kept_made h refl refl)))
    means (return_from x f) env known around hidden z h =
        on (means f env known around hidden (charged_for (return_from x f) z) (kept_as h refl refl)) (λ v after ha.
        transfers context w (exit_of x env) v 0 (λ e found. (exit_named x env known e found).free) around hidden after ha)
    means (tagbody segments) env known around hidden z h =
        lowered (let up = h.up in omega (arith, up)) h.first
        (turns z.state.exits segments (with_exit z env) around (new_named h) (exit_names z env h known) hidden
        (sequence_means nil segments (with_exit z env) (exit_names z env h known) (with_turns z.state.exits around) (turning z.state.exits around hidden)
        (exit_made (charged_for (tagbody segments) z)) (kept_made h refl refl)))
    means (go x segment) env known around hidden z h =
        transfers context w (exit_of x env) nil segment (λ e found. (exit_named x env known e found).free) around hidden (charged_for (go x segment) z) (kept_as h refl refl)
    means (catch_form tag body) env known around hidden z h =
        on (means tag env known around hidden (charged_for (catch_form tag body) z) (kept_as h refl refl)) (λ v after ha.
        catches after.state.exits
        (means body env known (inside (catch_exit v) around after) (hidden_inside context w (catch_exit v) around after ha hidden) (exit_made after)
        (kept_later ha (omega arith) refl)))
    means (throw tag f) env known around hidden z h =
        on (means tag env known around hidden (charged_for (throw tag f) z) (kept_as h refl refl)) (λ v after ha.
        on (means f env known around hidden after ha) (λ x ready hr. throws context w v x around hidden ready hr))
    means (unwind f cleanup) env known around hidden z h =
        cleans around hidden (λ within k after ha. means cleanup env known within k after ha)
        (λ within after. form_grows context grow cleanup env within after)
        (means f env known around hidden (charged_for (unwind f cleanup) z) (kept_as h refl refl))
    means (dynamic_let bs body) env known around hidden z h =
        dynamics_mean bs [] env known around hidden (charged_for (dynamic_let bs body) z) (kept_as h refl refl) (λ vs after ha.
        means body env known
        (record around { bindings = numbered (bound_names context.names bs) (length after.state.variables) ++ around.bindings }) hidden
        (with_values vs after) (kept_as ha refl refl))
    means (dynamic n) env known around hidden z h = dynamics (text context.names n) around hidden (charged_for (dynamic n) z) (kept_as h refl refl)
    means (set_dynamic n f) env known around hidden z h =
        on (means f env known around hidden (charged_for (set_dynamic n f) z) (kept_as h refl refl)) (λ x after ha.
        dynamics_set (text context.names n) x around hidden after ha)
    means (def_dynamic n f) env known around hidden z h =
        on (means f env known around hidden (charged_for (def_dynamic n f) z) (kept_as h refl refl)) (λ x after ha.
        given (symbol (named (text context.names n))) _ (kept_as ha refl refl))
    means (with_handler handler body) env known around hidden z h =
        on (means handler env known around hidden (charged_for (with_handler handler body) z) (kept_as h refl refl)) (λ x after ha.
        handlers x around hidden after ha (λ within k ready hr. means body env known within k ready hr))
    means (signal_form condition continuable) env known around hidden z h =
        on (means condition env known around hidden (charged_for (signal_form condition continuable) z) (kept_as h refl refl)) (λ c after ha.
        on (means continuable env known around hidden after ha) (λ mark ready hr. condition_signals c mark around hidden ready hr))
    means (continue_form condition f) env known around hidden z h =
        on (means condition env known around hidden (charged_for (continue_form condition f) z) (kept_as h refl refl)) (λ c after ha.
        on (means f env known around hidden after ha) (λ v ready hr. continues context w c v around hidden ready hr))
    means (next_method m) env known around hidden z h = nexts (method_of m env) around hidden (charged_for (next_method m) z) (kept_as h refl refl)
    means (has_next m) env known around hidden z h = given _ (charged 1 z) (kept_as h refl refl)
    means (sited site f) env known around hidden z h = means f env known (record around { site = place_of_site context.program.sites site }) hidden z h

    pub sequence_means : {floor : ℕ} (last : Value) (fs : FlatForms) (env : FlatEnvironment) → NamesOnly (Named R C floor) env → Acts R C floor (mean_sequence context last fs env)
    sequence_means last no_form env known around hidden z h = given last z h
    sequence_means last (form_and f fs) env known around hidden z h =
        on (means f env known around hidden z h) (λ v after ha. sequence_means v fs env known around hidden after ha)

    pub arguments_mean : {floor : ℕ} (fs : FlatForms) (vs : List Value) (env : FlatEnvironment) → NamesOnly (Named R C floor) env → (around : DynamicContext) → Hidden R around.exits
        → (z : FlatState) → Kept R C floor z → {next : List Value → FlatState → FlatEvaluated} → ((ws : List Value) → Follows R C floor (next ws))
        → Comes R C floor (mean_arguments context fs vs env around z next)
    arguments_mean no_form vs env known around hidden z h c = c vs z h
    arguments_mean (form_and f fs) vs env known around hidden z h c =
        on (means f env known around hidden z h) (λ v after ha. arguments_mean fs (vs ++ v ∷ []) env known around hidden after ha c)

    pub clauses_mean : {floor : ℕ} (cs : FlatClauses) (env : FlatEnvironment) → NamesOnly (Named R C floor) env → Acts R C floor (mean_clauses context cs env)
    clauses_mean no_clause env known around hidden z h = given nil z h
    clauses_mean (clause_and test body cs) env known around hidden z h =
        on (means test env known around hidden z h) (λ v after ha.
        truths v (body_means v body env known around hidden after ha) (clauses_mean cs env known around hidden after ha))

    pub body_means : {floor : ℕ} (v : Value) (m : FlatBody) (env : FlatEnvironment) → NamesOnly (Named R C floor) env → Acts R C floor (mean_body context v m env)
    body_means v no_body env known around hidden z h = given v z h
    body_means v (with_body f) env known around hidden z h = means f env known around hidden z h

    pub bindings_mean : {floor : ℕ} (bs : FlatBindings) (vs : List Value) (env : FlatEnvironment) → NamesOnly (Named R C floor) env → (around : DynamicContext) → Hidden R around.exits
        → (z : FlatState) → Kept R C floor z → {next : List Value → FlatState → FlatEvaluated} → ((ws : List Value) → Follows R C floor (next ws))
        → Comes R C floor (mean_bindings context bs vs env around z next)
    bindings_mean no_binding vs env known around hidden z h c = c vs z h
    bindings_mean (binding_and x f bs) vs env known around hidden z h c =
        on (means f env known around hidden z h) (λ v after ha. bindings_mean bs (vs ++ v ∷ []) env known around hidden after ha c)

    pub dynamics_mean : {floor : ℕ} (bs : FlatDynamics) (vs : List Value) (env : FlatEnvironment) → NamesOnly (Named R C floor) env → (around : DynamicContext) → Hidden R around.exits
        → (z : FlatState) → Kept R C floor z → {next : List Value → FlatState → FlatEvaluated} → ((ws : List Value) → Follows R C floor (next ws))
        → Comes R C floor (mean_dynamics context bs vs env around z next)
    dynamics_mean no_dynamic vs env known around hidden z h c = c vs z h
    dynamics_mean (dynamic_and n f bs) vs env known around hidden z h c =
        on (means f env known around hidden z h) (λ v after ha. dynamics_mean bs (vs ++ v ∷ []) env known around hidden after ha c)

  pub tasks : Tasks R C (mean_task context)
  tasks floor nothing env t known around hidden z h = given nil z h
  tasks floor (form f) env t known around hidden z h = means f env known around hidden z h
  tasks floor (turn e rest all) env t known around hidden z h =
      turns e all env around t known hidden (sequence_means nil rest env known (with_turns e around) (turning e around hidden) z h)
  tasks floor (methods c vs) env t known around hidden z h = chain_runs context w (signal context) wrongs c vs around hidden z h
