-- A form leads on as it begins, and so does what is done with the values of its parts.
use Rattle.std.proofs.Common.{ℕ, ◌+◌, ◌≤◌, arith, List, [], ◌∷◌, Option, Some, None}
use Rattle.std.specs.Prelude.{length, slice_get, if◌then◌else◌}
use Rattle.std.specs.Str.{bytes_eq}
use Rattle.lang_meaning.specs.declared.program.LiteralRow.{LiteralRow}
use Rattle.lang_meaning.specs.declared.program.LiteralRow.TheVariants as row
use Rattle.lang_meaning.specs.Values.{Value, nil, symbol, named}
use Rattle.lang_meaning.specs.Objects.{Called, function_class, list_class, serious_condition_class, control_error_class, undefined_function_class, unbound_variable_class}
use Rattle.lang_meaning.specs.State.{State, at_segment}
use Rattle.lang_meaning.specs.State as base
use Rattle.lang_meaning.specs.Lookup.{text, under_text, value_at}
use Rattle.lang_meaning.specs.Literals.{function_row}
use Rattle.lang_meaning.specs.Classes.{fetch, is_condition}
use Rattle.lang_meaning.specs.Primitives.{is_function}
use Rattle.lang_meaning.specs.Meaning.{spread, Spread, with_turns}
use Rattle.flat_language.specs.FlatForm.{FlatForm, literal, local, global, clauses, sequence, let_form, make_function, call, call_value, prim, tagbody, go, dynamic_let, dynamic, next_method, has_next, sited}
use Rattle.flat_language.specs.FlatForm.{FlatForms, no_form, form_and, FlatClauses, no_clause, clause_and, FlatBody, no_body, with_body}
use Rattle.flat_language.specs.FlatForm.{FlatBindings, no_binding, binding_and, FlatDynamics, no_dynamic, dynamic_and}
use Rattle.flat_language.specs.FlatNodes.{tables, own_nodes}
use Rattle.flat_language.specs.FlatState.{FlatState, charged, exit_of, method_of, exit_made}
use Rattle.flat_language.specs.FlatMeaning.{charged_for, binding_homes, with_exit}
use Rattle.eval_machine.specs.Configuration.{Setting, Situation, Operator, call_name, call_first, compute, ContinuationFrame, Transition, awaits, turns, last_segment, some_or}
use Rattle.eval_machine.specs.Run.{form_begins}
use Rattle.eval_machine.specs.Applications.{signal_unbound}
use Rattle.eval_machine.specs.Step.{literal_step, global_step, set_global_step, dynamic_step, set_dynamic_step, apply_step, call_value_step, operation_step, signal_step, handler_step, next_method_step, sequence_step, clauses_step, clause_body_step, arguments_step, let_step, bindings_step, dynamics_step, segments_step, form_step}
use Rattle.eval_machine.proofs.Kept.{Progress, progress, counted, IsLater, same, with_units, none_counted, counts, StepKeepsPrinted, there, framed, earlier, beneath, given, ends, on, either, some, searches}
use Rattle.eval_machine.proofs.KeptAnswers.{answers}
use Rattle.eval_machine.proofs.KeptWords.{makes_function, boxes, box_set}
use Rattle.eval_machine.proofs.KeptApplied.{value_here, signals_class, signals_domain, runs_chain, applies_value, applies_row, comes_answer, transfers}

-- a form that begins counts one or more
abbrev begun : FlatForm → FlatState → Progress
begun f z = counted (if form_begins f then 1 else 0) (progress z.state)

least : (f : FlatForm) → (if form_begins f then 1 else 0) ≤ own_nodes f
least (clauses cs) = omega arith
least (let_form bs body) = omega arith
least (make_function p parts) = omega arith
least (call n fs) = omega arith
least (call_value fs) = omega arith
least (prim which fs) = omega arith
least (tagbody segments) = omega arith
least (dynamic_let ds body) = omega arith
least (sited site f) = omega arith
least other = omega arith

begins_so : (f : FlatForm) (z : State) → IsLater (counted (if form_begins f then 1 else 0) (progress z)) (progress (base.charged (own_nodes f) z))
begins_so f z = with_units (if form_begins f then 1 else 0) (own_nodes f) (progress z) (least f)

module _ (s : Setting) where
  literals : (id : ℕ) (o : Option LiteralRow) (at : Situation) (frames : List ContinuationFrame) (z : FlatState)
      → StepKeepsPrinted frames (progress z.state) (literal_step s id o at frames z)
  literals id None at frames z = value_here nil frames z
  literals id (Some (row.Datum d)) at frames z = value_here _ frames z
  literals id (Some (row.Class c)) at frames z = value_here _ frames z
  literals id (Some (row.Function name)) at frames z =
      some (function_row s.names s.program.functions (text s.names name.0)) _ _
      (signals_class s undefined_function_class (symbol (named (text s.names name.0)) ∷ []) at.level at.around frames z) (λ f. value_here _ frames z)

  -- variables that no form has bound: global ones, and the outermost dynamic ones
  outermost : (name : List ℕ) (o : Option Value) (next : Value → Transition) (at : Situation) (frames : List ContinuationFrame) (z : FlatState)
      → ((v : Value) → StepKeepsPrinted frames (progress z.state) (next v frames z))
      → StepKeepsPrinted frames (progress z.state) (some_or o (signal_unbound s name at.level at.around) next frames z)
  outermost name o next at frames z h =
      some o _ next (signals_class s unbound_variable_class (symbol (named name) ∷ []) at.level at.around frames z) h

  globals : (name : List ℕ) (at : Situation) (frames : List ContinuationFrame) (z : FlatState) → StepKeepsPrinted frames (progress z.state) (global_step s name at frames z)
  globals name at frames z = outermost name (under_text name z.state.globals) _ at frames z (λ v. value_here v frames z)

  pub globals_set : (name : List ℕ) (v : Value) (at : Situation) (frames : List ContinuationFrame) (z : FlatState)
      → StepKeepsPrinted frames (progress z.state) (set_global_step s name v at frames z)
  globals_set name v at frames z = outermost name (under_text name z.state.globals) _ at frames z (λ old. ends (given (same _) tt))

  dynamics : (name : List ℕ) (at : Situation) (frames : List ContinuationFrame) (z : FlatState) → StepKeepsPrinted frames (progress z.state) (dynamic_step s name at frames z)
  dynamics name at frames z =
      searches (λ (b : List ℕ × ℕ). bytes_eq name b.0) _ _ at.around.bindings frames z
      (λ b y. value_here (value_at (Some b.1) y.state) frames y)
      (λ y. outermost name (under_text name y.state.dynamics) _ at frames y (λ v. value_here v frames y))

  pub dynamics_set : (name : List ℕ) (v : Value) (at : Situation) (frames : List ContinuationFrame) (z : FlatState)
      → StepKeepsPrinted frames (progress z.state) (set_dynamic_step s name v at frames z)
  dynamics_set name v at frames z =
      searches (λ (b : List ℕ × ℕ). bytes_eq name b.0) _ _ at.around.bindings frames z
      (λ b y. ends (given (box_set (Some b.1) v y.state) tt))
      (λ y. outermost name (under_text name y.state.dynamics) _ at frames y (λ old. ends (given (same _) tt)))

  -- applications
  pub lists_apply : (f list : Value) (at : Situation) (frames : List ContinuationFrame) (z : FlatState) → StepKeepsPrinted frames (progress z.state) (apply_step s f list at frames z)
  lists_apply f list at frames z =
      let found : Spread = spread (length z.state.store + 1) z.state [] list in
      either (is_function (fetch z.state f))
      (either found.proper
      (earlier (counts (length found.elements) z.state) (applies_value s f found.elements at.level at.around frames (charged (length found.elements) z)))
      (earlier (counts (length found.elements) z.state) (signals_domain s list list_class at.level at.around frames (charged (length found.elements) z))))
      (signals_domain s f function_class at.level at.around frames z)

  values_call : (vs : List Value) (at : Situation) (frames : List ContinuationFrame) (z : FlatState) → StepKeepsPrinted frames (progress z.state) (call_value_step s vs at frames z)
  values_call [] at frames z = value_here nil frames z
  values_call (f ∷ vs) at frames z = applies_value s f vs at.level at.around frames z

  operates : (o : Operator) (vs : List Value) (at : Situation) (frames : List ContinuationFrame) (z : FlatState) → StepKeepsPrinted frames (progress z.state) (operation_step s o vs at frames z)
  operates (call_name n) vs at frames z =
      applies_row s (text s.names n) (function_row s.names s.program.functions (text s.names n)) vs at.level at.around frames z
  operates call_first vs at frames z = values_call vs at frames z
  operates (compute which) vs at frames z =
      comes_answer s _ (progress z.state) (answers s.names (tables s.program) which vs z.state) at.level at.around frames z

  -- conditions and methods
  pub signals_one : (c mark : Value) (at : Situation) (frames : List ContinuationFrame) (z : FlatState) → StepKeepsPrinted frames (progress z.state) (signal_step s c mark at frames z)
  signals_one c mark at frames z =
      either (is_condition (tables s.program) z.state c) (there (same _) tt) (signals_domain s c serious_condition_class at.level at.around frames z)

  pub handles : (h : Value) (body : FlatForm) (at : Situation) (frames : List ContinuationFrame) (z : FlatState) → StepKeepsPrinted frames (progress z.state) (handler_step s h body at frames z)
  handles h body at frames z =
      either (is_function (fetch z.state h)) (framed (same _) tt tt) (signals_domain s h function_class at.level at.around frames z)

  methods_next : (o : Option Called) (at : Situation) (frames : List ContinuationFrame) (z : FlatState) → StepKeepsPrinted frames (progress z.state) (next_method_step s o at frames z)
  methods_next None at frames z = signals_class s control_error_class [] at.level at.around frames z
  methods_next (Some called) at frames z = runs_chain s called.rest called.arguments at.level at.around frames z

  -- lists of forms
  pub sequences : (last : Value) (fs : FlatForms) (at : Situation) (frames : List ContinuationFrame) (z : FlatState) → StepKeepsPrinted frames (progress z.state) (sequence_step s last fs at frames z)
  sequences last no_form at frames z = value_here last frames z
  sequences last (form_and f fs) at frames z = framed (same _) tt tt

  pub clauses_lead : (cs : FlatClauses) (at : Situation) (frames : List ContinuationFrame) (z : FlatState) → StepKeepsPrinted frames (progress z.state) (clauses_step s cs at frames z)
  clauses_lead no_clause at frames z = value_here nil frames z
  clauses_lead (clause_and test body cs) at frames z = framed (same _) tt tt

  pub bodies_lead : (v : Value) (b : FlatBody) (at : Situation) (frames : List ContinuationFrame) (z : FlatState) → StepKeepsPrinted frames (progress z.state) (clause_body_step s v b at frames z)
  bodies_lead v no_body at frames z = value_here v frames z
  bodies_lead v (with_body f) at frames z = there (same _) tt

  pub arguments_lead : (o : Operator) (fs : FlatForms) (vs : List Value) (at : Situation) (frames : List ContinuationFrame) (z : FlatState)
      → StepKeepsPrinted frames (progress z.state) (arguments_step s o fs vs at frames z)
  arguments_lead o no_form vs at frames z = operates o vs at frames z
  arguments_lead o (form_and f fs) vs at frames z = framed (same _) tt tt

  -- bodies with variables
  lets : (all : FlatBindings) (body : FlatForm) (vs : List Value) (at : Situation) (frames : List ContinuationFrame) (z : FlatState)
      → StepKeepsPrinted frames (progress z.state) (let_step s all body vs at frames z)
  lets all body vs at frames z = on (boxes s.limit (binding_homes all) z) (λ ignored ready. framed (same _) tt tt)

  pub bindings_lead : (bs : FlatBindings) (vs : List Value) (all : FlatBindings) (body : FlatForm) (at : Situation) (frames : List ContinuationFrame) (z : FlatState)
      → StepKeepsPrinted frames (progress z.state) (bindings_step s bs vs all body at frames z)
  bindings_lead no_binding vs all body at frames z = lets all body vs at frames z
  bindings_lead (binding_and x f bs) vs all body at frames z = framed (same _) tt tt

  pub dynamics_lead : (bs : FlatDynamics) (vs : List Value) (all : FlatDynamics) (body : FlatForm) (at : Situation) (frames : List ContinuationFrame) (z : FlatState)
      → StepKeepsPrinted frames (progress z.state) (dynamics_step s bs vs all body at frames z)
  dynamics_lead no_dynamic vs all body at frames z = framed (same _) tt tt
  dynamics_lead (dynamic_and n f bs) vs all body at frames z = framed (same _) tt tt

  -- segments
  pub segments_lead : (e : ℕ) (left all : FlatForms) (at : Situation) (frames : List ContinuationFrame) (z : FlatState)
      → StepKeepsPrinted frames (progress z.state) (segments_step s e left all at frames z)
  segments_lead e left all at frames z =
      beneath (turns e all at) tt
      (beneath (awaits last_segment) tt
      (sequences nil left (record at { around = with_turns e at.around }) (awaits last_segment ∷ turns e all at ∷ frames) z))

  -- a form begins
  pub forms_lead : (f : FlatForm) (at : Situation) (frames : List ContinuationFrame) (z : FlatState) → StepKeepsPrinted frames (begun f z) (form_step s f at frames z)
  forms_lead (literal id) at frames z =
      earlier (begins_so (literal id) z.state) (literals id (slice_get s.program.literals id) at frames (charged_for (literal id) z))
  forms_lead (local p) at frames z =
      earlier (begins_so (local p) z.state) (value_here _ frames (charged_for (local p) z))
  forms_lead (global n) at frames z =
      earlier (begins_so (global n) z.state) (globals (text s.names n) at frames (charged_for (global n) z))
  forms_lead (clauses cs) at frames z =
      earlier (begins_so (clauses cs) z.state) (clauses_lead cs at frames (charged_for (clauses cs) z))
  forms_lead (sequence fs) at frames z =
      earlier (begins_so (sequence fs) z.state) (sequences nil fs at frames (charged_for (sequence fs) z))
  forms_lead (let_form bs body) at frames z =
      earlier (begins_so (let_form bs body) z.state) (bindings_lead bs [] bs body at frames (charged_for (let_form bs body) z))
  forms_lead (make_function p parts) at frames z =
      earlier (begins_so (make_function p parts) z.state) (ends (makes_function s.limit p _ (charged_for (make_function p parts) z)))
  forms_lead (call n fs) at frames z =
      earlier (begins_so (call n fs) z.state) (arguments_lead (call_name n) fs [] at frames (charged_for (call n fs) z))
  forms_lead (call_value fs) at frames z =
      earlier (begins_so (call_value fs) z.state) (arguments_lead call_first fs [] at frames (charged_for (call_value fs) z))
  forms_lead (prim which fs) at frames z =
      earlier (begins_so (prim which fs) z.state) (arguments_lead (compute which) fs [] at frames (charged_for (prim which fs) z))
  forms_lead (tagbody segments) at frames z =
      earlier (begins_so (tagbody segments) z.state)
      (segments_lead z.state.exits segments segments (record at { environment = with_exit z at.environment }) frames
      (exit_made (charged_for (tagbody segments) z)))
  forms_lead (go x segment) at frames z =
      earlier (begins_so (go x segment) z.state)
      (transfers s (exit_of x at.environment) nil (at_segment segment) at.level at.around frames (charged_for (go x segment) z))
  forms_lead (dynamic_let bs body) at frames z =
      earlier (begins_so (dynamic_let bs body) z.state) (dynamics_lead bs [] bs body at frames (charged_for (dynamic_let bs body) z))
  forms_lead (dynamic n) at frames z =
      earlier (begins_so (dynamic n) z.state) (dynamics (text s.names n) at frames (charged_for (dynamic n) z))
  forms_lead (next_method m) at frames z =
      earlier (begins_so (next_method m) z.state) (methods_next (method_of m at.environment) at frames (charged_for (next_method m) z))
  forms_lead (has_next m) at frames z =
      earlier (begins_so (has_next m) z.state) (value_here _ frames (charged_for (has_next m) z))
  forms_lead (sited site f) at frames z = there (none_counted z.state) tt
  forms_lead other at frames z = framed (begins_so other z.state) tt tt
