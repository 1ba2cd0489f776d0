-- One step of the machine. A form is charged as it begins, and then its first part is form_step; what a part comes to goes into
-- the innermost frame.
use Rattle.std.specs.Prelude.{ℕ, ◌+◌, ◌==◌, List, [], ◌∷◌, ◌++◌, Option, Some, None, length, map, slice_get, if◌then◌else◌}
use Rattle.std.specs.Str.{bytes_eq}
use Rattle.lang_meaning.specs.declared.program.LiteralRow.{LiteralRow}
use Rattle.lang_meaning.specs.declared.program.LiteralRow.TheVariants as row
use Rattle.lang_meaning.specs.Counts.{application_words}
use Rattle.lang_meaning.specs.Values.{Value, symbol, named, nil, truth, is_true}
use Rattle.lang_meaning.specs.Objects.{Called, function_class, list_class, serious_condition_class, control_error_class}
use Rattle.lang_meaning.specs.State.{State, main_context, block_exit, catch_exit, at_segment, exits_from, Outcome, value, exit, full, more}
use Rattle.lang_meaning.specs.Lookup.{text, under_text, value_at, set_at, numbered}
use Rattle.lang_meaning.specs.Classes.{fetch, is_condition}
use Rattle.lang_meaning.specs.Literals.{function_row}
use Rattle.lang_meaning.specs.InitialHeap.{class_value, function_value, literal_value}
use Rattle.lang_meaning.specs.Primitives.{primitive, is_function}
use Rattle.lang_meaning.specs.Meaning.{place_of_site, segment_of, with_turns, spread, is_next}
use Rattle.flat_language.specs.FlatForm.{FlatForm, literal, local, set_local, global, set_global, def_global, clauses, sequence, let_form, make_function, call, call_value, apply, prim, while_form, block, return_from, tagbody, go, catch_form, throw, unwind, dynamic_let, dynamic, set_dynamic, def_dynamic, with_handler, signal_form, continue_form, next_method, has_next, sited}
use Rattle.flat_language.specs.FlatForm.{FlatForms, no_form, form_and, FlatClauses, no_clause, clause_and, FlatBody, no_body, with_body}
use Rattle.flat_language.specs.FlatForm.{FlatBindings, no_binding, binding_and, FlatDynamics, no_dynamic, dynamic_and}
use Rattle.flat_language.specs.FlatNodes.{tables, nodes}
use Rattle.flat_language.specs.FlatState.{no_environment, FlatState, on_state, value_of, set_to, exit_of, method_of, captured_part, gives, caught, charged, exit_made, with_values, make_closure, with_slots, with_stack, without_slots_from, with_frame}
use Rattle.flat_language.specs.FlatSignals.{inside}
use Rattle.flat_language.specs.FlatMeaning.{charged_for, from_segment, binding_homes, bound_names, with_exit}
use Rattle.eval_machine.specs.Configuration.{Setting, Situation, Operator, call_name, call_first, compute, Wait, ContinuationFrame, Control, evaluate, signals, come_to, Configuration, Transition, configuration, ended, then_on, some_or, descend}
use Rattle.eval_machine.specs.Configuration.{set_local_value, set_global_value, def_global_value, sequence_form, clause_test, binding_value, argument, applied_function, applied_list, while_test, while_body, return_value, last_segment, catch_tag, throw_tag, throw_value, dynamic_value, set_dynamic_value, def_dynamic_value, handler_value, signal_condition, signal_mark, continue_condition, continue_value}
use Rattle.eval_machine.specs.Configuration.{kept, method_value, before_methods, primary_method, handler_return, main_form, main_forms, awaits, catches, turns, cleans, restores_stack, restores_slots, drops_slots, unbinds}
use Rattle.eval_machine.specs.Applications.{requested, boxes_requested, searched, signal_class, signal_domain, signal_undefined, signal_unbound, apply_method, apply_each, run_chain, apply_value, apply_row, signal_under, answered, transfer, throw_to, continue_with}

module _ (s : Setting) where
  -- a literal: an atom, or an object that is there from the start; a name without a function is undefined
  abbrev pub literal_step : ℕ → Option LiteralRow → Situation → Transition
  literal_step id None at frames z = ended (gives nil z) frames
  literal_step id (Some (row.Datum d)) at frames z = ended (gives (literal_value s.names (tables s.program) id d) z) frames
  literal_step id (Some (row.Class c)) at frames z = ended (gives (class_value s.names (tables s.program) c) z) frames
  literal_step id (Some (row.Function name)) at frames z =
      some_or (function_row s.names s.program.functions (text s.names name.0))
      (signal_undefined s (text s.names name.0) at.level at.around)
      (λ f rest y. ended (gives (function_value s.names (tables s.program) (text s.names name.0)) y) rest) frames z

  -- global variables
  abbrev pub global_step : List ℕ → Situation → Transition
  global_step name at frames z =
      some_or (under_text name z.state.globals) (signal_unbound s name at.level at.around)
      (λ v rest y. ended (gives v y) rest) frames z

  abbrev pub set_global_step : List ℕ → Value → Situation → Transition
  set_global_step name v at frames z =
      some_or (under_text name z.state.globals) (signal_unbound s name at.level at.around)
      (λ old rest y. ended (gives v (on_state (λ (x : State). record x { globals = (name, v) ∷ x.globals }) y)) rest) frames z

  -- dynamic variables: the innermost binding, else the outermost value
  abbrev pub dynamic_step : List ℕ → Situation → Transition
  dynamic_step name at frames z =
      searched (λ (b : List ℕ × ℕ). bytes_eq name b.0) (λ b rest y. ended (gives (value_at (Some b.1) y.state) y) rest)
      (λ rest y. some_or (under_text name y.state.dynamics) (signal_unbound s name at.level at.around)
      (λ v left x. ended (gives v x) left) rest y)
      at.around.bindings frames z

  abbrev pub set_dynamic_step : List ℕ → Value → Situation → Transition
  set_dynamic_step name v at frames z =
      searched (λ (b : List ℕ × ℕ). bytes_eq name b.0) (λ b rest y. ended (gives v (on_state (λ x. set_at (Some b.1) v x) y)) rest)
      (λ rest y. some_or (under_text name y.state.dynamics) (signal_unbound s name at.level at.around)
      (λ old left x. ended (gives v (on_state (λ (w : State). record w { dynamics = (name, v) ∷ w.dynamics }) x)) left) rest y)
      at.around.bindings frames z

  -- applications by forms: to the elements of a list, and of the first value to the others
  abbrev pub apply_step : Value → Value → Situation → Transition
  apply_step f list at frames z =
      if is_function (fetch z.state f) then
      (let s' = spread (length z.state.store + 1) z.state [] list in
      if s'.proper then apply_value s f s'.elements at.level at.around frames (charged (length s'.elements) z)
      else signal_domain s list list_class at.level at.around frames (charged (length s'.elements) z))
      else signal_domain s f function_class at.level at.around frames z

  abbrev pub call_value_step : List Value → Situation → Transition
  call_value_step [] at frames z = ended (gives nil z) frames
  call_value_step (f ∷ vs) at frames z = apply_value s f vs at.level at.around frames z

  abbrev pub operation_step : Operator → List Value → Situation → Transition
  operation_step (call_name n) vs at frames z =
      apply_row s (text s.names n) (function_row s.names s.program.functions (text s.names n)) vs at.level at.around frames z
  operation_step call_first vs at frames z = call_value_step vs at frames z
  operation_step (compute which) vs at frames z =
      answered s (primitive s.names (tables s.program) which vs z.state) at.level at.around frames z

  -- conditions
  abbrev pub signal_step : Value → Value → Situation → Transition
  signal_step c mark at frames z =
      if is_condition (tables s.program) z.state c then configuration (signals c mark at.level at.around) frames z
      else signal_domain s c serious_condition_class at.level at.around frames z

  abbrev pub handler_step : Value → FlatForm → Situation → Transition
  handler_step h body at frames z =
      if is_function (fetch z.state h) then configuration (evaluate body (record at { around = record at.around { handlers = h ∷ at.around.handlers } })) (unbinds ∷ frames) z
      else signal_domain s h function_class at.level at.around frames z

  abbrev pub next_method_step : Option Called → Situation → Transition
  next_method_step None at = signal_class s control_error_class [] at.level at.around
  next_method_step (Some called) at = run_chain s called.rest called.arguments at.level at.around

  -- lists of forms: the first one is evaluated, and the others wait
  abbrev pub sequence_step : Value → FlatForms → Situation → Transition
  sequence_step last no_form at frames z = ended (gives last z) frames
  sequence_step last (form_and f fs) at frames z = configuration (evaluate f at) (awaits (sequence_form fs at) ∷ frames) z

  abbrev pub clauses_step : FlatClauses → Situation → Transition
  clauses_step no_clause at frames z = ended (gives nil z) frames
  clauses_step (clause_and test body cs) at frames z = configuration (evaluate test at) (awaits (clause_test body cs at) ∷ frames) z

  abbrev pub clause_body_step : Value → FlatBody → Situation → Transition
  clause_body_step v no_body at frames z = ended (gives v z) frames
  clause_body_step v (with_body f) at frames z = configuration (evaluate f at) frames z

  abbrev pub arguments_step : Operator → FlatForms → List Value → Situation → Transition
  arguments_step o no_form vs at frames z = operation_step o vs at frames z
  arguments_step o (form_and f fs) vs at frames z = configuration (evaluate f at) (awaits (argument o fs vs at) ∷ frames) z

  -- a body with new variables, and one with dynamic bindings
  abbrev pub let_step : FlatBindings → FlatForm → List Value → Situation → Transition
  let_step all body vs at frames z =
      then_on (boxes_requested s.limit (binding_homes all) z) frames (λ ignored ready.
      configuration (evaluate body at) (drops_slots (length ready.frame) ∷ frames) (with_slots (binding_homes all) vs ready))

  abbrev pub bindings_step : FlatBindings → List Value → FlatBindings → FlatForm → Situation → Transition
  bindings_step no_binding vs all body at frames z = let_step all body vs at frames z
  bindings_step (binding_and x f bs) vs all body at frames z =
      configuration (evaluate f at) (awaits (binding_value bs vs all body at) ∷ frames) z

  abbrev pub dynamic_let_step : FlatDynamics → FlatForm → List Value → Situation → Transition
  dynamic_let_step all body vs at frames z =
      configuration (evaluate body
      (record at { around = record at.around { bindings = numbered (bound_names s.names all) (length z.state.variables) ++ at.around.bindings } }))
      (unbinds ∷ frames) (with_values vs z)

  abbrev pub dynamics_step : FlatDynamics → List Value → FlatDynamics → FlatForm → Situation → Transition
  dynamics_step no_dynamic vs all body at frames z = dynamic_let_step all body vs at frames z
  dynamics_step (dynamic_and n f bs) vs all body at frames z =
      configuration (evaluate f at) (awaits (dynamic_value bs vs all body at) ∷ frames) z

  -- the segments of a tagbody from one of them on
  abbrev pub segments_step : ℕ → FlatForms → FlatForms → Situation → Transition
  segments_step e left all at frames z =
      sequence_step nil left (record at { around = with_turns e at.around }) (awaits last_segment ∷ turns e all at ∷ frames) z

  -- a form begins
  abbrev pub form_step : FlatForm → Situation → Transition
  form_step (literal id) at frames z = literal_step id (slice_get s.program.literals id) at frames (charged_for (literal id) z)
  form_step (local p) at frames z = ended (gives (value_of p at.environment z) (charged_for (local p) z)) frames
  form_step (set_local p f) at frames z = configuration (evaluate f at) (awaits (set_local_value p at) ∷ frames) (charged_for (set_local p f) z)
  form_step (global n) at frames z = global_step (text s.names n) at frames (charged_for (global n) z)
  form_step (set_global n f) at frames z = configuration (evaluate f at) (awaits (set_global_value n at) ∷ frames) (charged_for (set_global n f) z)
  form_step (def_global n f) at frames z = configuration (evaluate f at) (awaits (def_global_value n) ∷ frames) (charged_for (def_global n f) z)
  form_step (clauses cs) at frames z = clauses_step cs at frames (charged_for (clauses cs) z)
  form_step (sequence fs) at frames z = sequence_step nil fs at frames (charged_for (sequence fs) z)
  form_step (let_form bs body) at frames z = bindings_step bs [] bs body at frames (charged_for (let_form bs body) z)
  form_step (make_function p parts) at frames z =
      ended (make_closure s.limit p (map (captured_part at.environment z) parts) (charged_for (make_function p parts) z) (λ v after. gives v after)) frames
  form_step (call n fs) at frames z = arguments_step (call_name n) fs [] at frames (charged_for (call n fs) z)
  form_step (call_value fs) at frames z = arguments_step call_first fs [] at frames (charged_for (call_value fs) z)
  form_step (apply f list) at frames z = configuration (evaluate f at) (awaits (applied_function list at) ∷ frames) (charged_for (apply f list) z)
  form_step (prim which fs) at frames z = arguments_step (compute which) fs [] at frames (charged_for (prim which fs) z)
  form_step (while_form test body) at frames z =
      configuration (evaluate test at) (awaits (while_test test body at) ∷ frames) (charged_for (while_form test body) z)
  form_step (block body) at frames z =
      configuration (evaluate body (record at { environment = with_exit z at.environment; around = inside block_exit at.around z }))
      (catches z.state.exits ∷ frames) (exit_made (charged_for (block body) z))
  form_step (return_from x f) at frames z = configuration (evaluate f at) (awaits (return_value x at) ∷ frames) (charged_for (return_from x f) z)
  form_step (tagbody segments) at frames z =
      segments_step z.state.exits segments segments (record at { environment = with_exit z at.environment }) frames
      (exit_made (charged_for (tagbody segments) z))
  form_step (go x segment) at frames z =
      transfer s (exit_of x at.environment) nil (at_segment segment) at.level at.around frames (charged_for (go x segment) z)
  form_step (catch_form tag body) at frames z =
      configuration (evaluate tag at) (awaits (catch_tag body at) ∷ frames) (charged_for (catch_form tag body) z)
  form_step (throw tag f) at frames z = configuration (evaluate tag at) (awaits (throw_tag f at) ∷ frames) (charged_for (throw tag f) z)
  form_step (unwind f cleanup) at frames z = configuration (evaluate f at) (cleans cleanup at ∷ frames) (charged_for (unwind f cleanup) z)
  form_step (dynamic_let bs body) at frames z = dynamics_step bs [] bs body at frames (charged_for (dynamic_let bs body) z)
  form_step (dynamic n) at frames z = dynamic_step (text s.names n) at frames (charged_for (dynamic n) z)
  form_step (set_dynamic n f) at frames z = configuration (evaluate f at) (awaits (set_dynamic_value n at) ∷ frames) (charged_for (set_dynamic n f) z)
  form_step (def_dynamic n f) at frames z = configuration (evaluate f at) (awaits (def_dynamic_value n) ∷ frames) (charged_for (def_dynamic n f) z)
  form_step (with_handler handler body) at frames z =
      configuration (evaluate handler at) (awaits (handler_value body at) ∷ frames) (charged_for (with_handler handler body) z)
  form_step (signal_form condition continuable) at frames z =
      configuration (evaluate condition at) (awaits (signal_condition continuable at) ∷ frames) (charged_for (signal_form condition continuable) z)
  form_step (continue_form condition f) at frames z =
      configuration (evaluate condition at) (awaits (continue_condition f at) ∷ frames) (charged_for (continue_form condition f) z)
  form_step (next_method m) at frames z = next_method_step (method_of m at.environment) at frames (charged_for (next_method m) z)
  form_step (has_next m) at frames z = ended (gives (truth (is_next (method_of m at.environment))) (charged_for (has_next m) z)) frames
  form_step (sited site f) at frames z =
      configuration (evaluate f (record at { around = record at.around { site = place_of_site s.program.sites site } })) frames z

  -- a value comes to a place that waits for it
  abbrev pub value_step : Wait → Value → Transition
  value_step (set_local_value p at) x frames z = ended (gives x (set_to p x at.environment z)) frames
  value_step (set_global_value n at) x frames z = set_global_step (text s.names n) x at frames z
  value_step (def_global_value n) x frames z =
      ended (gives (symbol (named (text s.names n))) (on_state (λ (y : State). record y { globals = (text s.names n, x) ∷ y.globals }) z)) frames
  value_step (sequence_form fs at) v frames z = sequence_step v fs at frames z
  value_step (clause_test body cs at) v frames z = if is_true v then clause_body_step v body at frames z else clauses_step cs at frames z
  value_step (binding_value bs vs all body at) v frames z = bindings_step bs (vs ++ v ∷ []) all body at frames z
  value_step (argument o fs vs at) v frames z = arguments_step o fs (vs ++ v ∷ []) at frames z
  value_step (applied_function list at) f frames z = configuration (evaluate list at) (awaits (applied_list f at) ∷ frames) z
  value_step (applied_list f at) list frames z = apply_step f list at frames z
  value_step (while_test test body at) v frames z =
      if is_true v then configuration (evaluate body at) (awaits (while_body test body at) ∷ frames) z else ended (gives nil z) frames
  value_step (while_body test body at) v frames z =
      descend at.level (λ k. configuration (evaluate (while_form test body) (record at { level = k }))) frames z
  value_step (return_value x at) v frames z = transfer s (exit_of x at.environment) v (at_segment 0) at.level at.around frames z
  value_step last_segment v frames z = ended (gives nil z) frames
  value_step (catch_tag body at) v frames z =
      configuration (evaluate body (record at { around = inside (catch_exit v) at.around z })) (catches z.state.exits ∷ frames) (exit_made z)
  value_step (throw_tag f at) tag frames z = configuration (evaluate f at) (awaits (throw_value tag at) ∷ frames) z
  value_step (throw_value tag at) v frames z = throw_to s tag v at.level at.around frames z
  value_step (dynamic_value bs vs all body at) v frames z = dynamics_step bs (vs ++ v ∷ []) all body at frames z
  value_step (set_dynamic_value n at) x frames z = set_dynamic_step (text s.names n) x at frames z
  value_step (def_dynamic_value n) x frames z =
      ended (gives (symbol (named (text s.names n))) (on_state (λ (y : State). record y { dynamics = (text s.names n, x) ∷ y.dynamics }) z)) frames
  value_step (handler_value body at) h frames z = handler_step h body at frames z
  value_step (signal_condition continuable at) c frames z = configuration (evaluate continuable at) (awaits (signal_mark c at) ∷ frames) z
  value_step (signal_mark c at) mark frames z = signal_step c mark at frames z
  value_step (continue_condition f at) c frames z = configuration (evaluate f at) (awaits (continue_value c at) ∷ frames) z
  value_step (continue_value c at) v frames z = continue_with s c v at.level at.around frames z
  value_step (kept o) v frames z = configuration (come_to o) frames z
  value_step (method_value ms vs level around) v frames z = apply_each s ms vs level around frames z
  value_step (before_methods c p ps vs level around) v frames z =
      apply_method s p (record { arguments = vs; rest = record { around = []; before = []; primary = ps; after = [] } }) level around
      (awaits (primary_method c.after vs level around) ∷ frames) z
  value_step (primary_method ms vs level around) v frames z = apply_each s ms vs level around (awaits (kept (value v)) ∷ frames) z
  value_step (handler_return level around) v frames z = signal_class s control_error_class [] level around frames z
  value_step (main_form stack) v frames z = ended (gives v (on_state (λ (y : State). record y { stack = stack }) z)) frames
  value_step (main_forms k []) last frames z = ended (gives last z) frames
  value_step (main_forms k (f ∷ fs)) last frames z =
      then_on (requested s.limit 0 (application_words (nodes f)) z) (awaits (main_forms k fs) ∷ frames) (λ ignored entered.
      configuration (evaluate f (record { level = k; environment = no_environment; around = main_context }))
      (restores_slots entered.frame ∷ awaits (main_form z.state.stack) ∷ awaits (main_forms k fs) ∷ frames) (record entered { frame = [] }))

  -- an outcome comes to a tagbody, which goes on one level below
  abbrev pub turn_step : ℕ → FlatForms → Situation → Outcome → Transition
  turn_step e all at (value v) frames z = configuration (come_to (value v)) frames z
  turn_step e all at (exit x v landing) frames z =
      if x == e then descend at.level (λ k. segments_step e (from_segment (segment_of landing) all) all (record at { level = k })) frames z
      else configuration (come_to (exit x v landing)) frames z
  turn_step e all at (full asked left) frames z = configuration (come_to (full asked left)) frames z
  turn_step e all at more frames z = configuration (come_to more) frames z

  -- and to a form with a cleanup, which during a transfer runs with the exits inside the target taken away
  abbrev pub cleanup_step : FlatForm → Situation → Outcome → Transition
  cleanup_step cleanup at (value v) frames z = configuration (evaluate cleanup at) (awaits (kept (value v)) ∷ frames) z
  cleanup_step cleanup at (exit e v landing) frames z =
      configuration (evaluate cleanup (record at { around = record at.around { exits = exits_from e at.around.exits } }))
      (awaits (kept (exit e v landing)) ∷ frames) z
  cleanup_step cleanup at (full asked left) frames z = configuration (come_to (full asked left)) frames z
  cleanup_step cleanup at more frames z = configuration (come_to more) frames z

  -- an outcome comes to a frame; a place that waits for a value passes any other outcome on
  abbrev pub outcome_step : ContinuationFrame → Outcome → Transition
  outcome_step (awaits w) o frames z = then_on (record { outcome = o; state = z }) frames (λ v y. value_step w v frames y)
  outcome_step (catches e) o frames z = ended (caught e (record { outcome = o; state = z })) frames
  outcome_step (turns e all at) o frames z = turn_step e all at o frames z
  outcome_step (cleans cleanup at) o frames z = cleanup_step cleanup at o frames z
  outcome_step (restores_stack n) o frames z = ended (with_stack n (record { outcome = o; state = z })) frames
  outcome_step (restores_slots frame) o frames z = ended (with_frame frame (record { outcome = o; state = z })) frames
  outcome_step unbinds o frames z = configuration (come_to o) frames z
  outcome_step (drops_slots n) o frames z = ended (without_slots_from n (record { outcome = o; state = z })) frames

  -- what the machine is about to do is done; an outcome without a frame is the end
  abbrev pub control_step : Control → List ContinuationFrame → FlatState → Option Configuration
  control_step (evaluate f at) frames z = Some (form_step f at frames z)
  control_step (signals c mark level around) frames z = Some (signal_under s around.handlers c mark level around frames z)
  control_step (come_to o) [] z = None
  control_step (come_to o) (frame ∷ frames) z = Some (outcome_step frame o frames z)

  -- one step
  abbrev pub step : Configuration → Option Configuration
  step m = control_step m.control m.frames m.state
