-- Applications, methods, signals and transfers lead on from where the run was.
use Rattle.std.proofs.Common.{ℕ, suc, ◌+◌, Bool, List, [], ◌∷◌, Option, Some, None, arith}
use Rattle.std.specs.Prelude.{length, map, take, slice_get, is_some}
use Rattle.lang_meaning.specs.declared.program.GenericRow.{GenericRow}
use Rattle.lang_meaning.specs.declared.program.FunctionRow.{FunctionRow}
use Rattle.lang_meaning.specs.declared.program.Callee.{Callee}
use Rattle.lang_meaning.specs.declared.program.Callee.TheVariants as callee
use Rattle.lang_meaning.specs.Counts.{application_words}
use Rattle.lang_meaning.specs.Values.{Value, named, symbol, nil}
use Rattle.lang_meaning.specs.Objects.{Chain, Called, Object, function, generic_function, fresh_symbol, function_class, control_error_class, program_error_class, domain_error_class, undefined_function_class}
use Rattle.lang_meaning.specs.State.{DynamicContext, Exit, signal_exit, Landing, at_segment}
use Rattle.lang_meaning.specs.Lookup.{text}
use Rattle.lang_meaning.specs.Classes.{class_of, fetch, chain}
use Rattle.lang_meaning.specs.InitialHeap.{class_value}
use Rattle.lang_meaning.specs.Primitives.{Answer, result, makes, makes_symbol, fails, domain_error}
use Rattle.lang_meaning.specs.Signals.{takes, is_continuable}
use Rattle.flat_language.specs.declared.program.FlatProcedure.{FlatProcedure}
use Rattle.flat_language.specs.FlatNodes.{tables, homes, nodes}
use Rattle.flat_language.specs.FlatState.{Captured, FlatState, captured_by, gives, leaves, charged, exit_made}
use Rattle.flat_language.specs.FlatSignals.{inside, marked}
use Rattle.eval_machine.specs.Configuration.{Setting, ContinuationFrame, awaits, catches, restores_stack, method_value, before_methods, handler_return, Transition, ended}
use Rattle.eval_machine.specs.Applications.{signal_class, signal_domain, begin_body, enter, apply_procedure, apply_function, apply_each, run_primary, run_around, run_chain, apply_chain, apply_generic, apply_object, apply_value, apply_callee, apply_row, signal_under, answered, to_exit, transfer, throw_to, continue_with, variable_values}
use Rattle.eval_machine.proofs.Kept.{Progress, progress, same, further, counts, StepKeepsPrinted, there, framed, earlier, beneath, gives_earlier, given, ends, on, either, some, searches, descends}
use Rattle.eval_machine.proofs.KeptAnswers.{Answers}
use Rattle.eval_machine.proofs.KeptWords.{requests_words, makes_object, makes_rest, makes_condition, records, boxes, condition_marked}

-- what gives a value or leaves for an exit at once
pub value_here : (v : Value) (frames : List ContinuationFrame) (z : FlatState) → StepKeepsPrinted frames (progress z.state) (ended (gives v z) frames)
value_here v frames z = ends (given (same _) tt)

pub exit_here : (e : ℕ) (v : Value) (landing : Landing) (frames : List ContinuationFrame) (z : FlatState) → StepKeepsPrinted frames (progress z.state) (ended (leaves e v landing z) frames)
exit_here e v landing frames z = ends (given (same _) tt)

module _ (s : Setting) where
  -- conditions
  pub signals_class : (class : ℕ) (slots : List Value) (level : ℕ) (around : DynamicContext) (frames : List ContinuationFrame) (z : FlatState)
      → StepKeepsPrinted frames (progress z.state) (signal_class s class slots level around frames z)
  signals_class class slots level around frames z = on (makes_condition s class slots z) (λ c y. there (same _) tt)

  pub signals_domain : (v : Value) (expected level : ℕ) (around : DynamicContext) (frames : List ContinuationFrame) (z : FlatState)
      → StepKeepsPrinted frames (progress z.state) (signal_domain s v expected level around frames z)
  signals_domain v expected level around frames z =
      signals_class domain_error_class (v ∷ class_value s.names (tables s.program) expected ∷ []) level around frames z

  -- procedures
  begins_body : (p : FlatProcedure) (captured : List Captured) (called : Option Called) (ws : List Value) (k : ℕ) (around : DynamicContext) (frames : List ContinuationFrame) (z : FlatState)
      → StepKeepsPrinted frames (progress z.state) (begin_body s p captured called ws k around frames z)
  begins_body p captured called ws k around frames z = framed (same _) tt tt

  enters : (p : FlatProcedure) (captured : List Captured) (called : Option Called) (vs : List Value) (k : ℕ) (around : DynamicContext) (frames : List ContinuationFrame) (z : FlatState)
      → StepKeepsPrinted frames (progress z.state) (enter s p captured called vs k around frames z)
  enters p captured called vs k around frames z =
      either (takes (length p.required) (is_some p.rest) (length vs))
      (on (requests_words s.limit 0 (application_words (nodes p.body) + length vs) z (omega arith)) (λ ignored inner.
      beneath (restores_stack z.state.stack) tt
      (on (gives_earlier (counts (length vs) inner.state) (makes_rest s.limit (length p.required) (is_some p.rest) vs (charged (length vs) inner))) (λ tail gone.
      on (records s.limit called p.keeps_method gone) (λ nothing noted.
      on (boxes s.limit (homes p) noted) (λ none ready.
      begins_body p captured called (variable_values (length p.required) (is_some p.rest) vs tail) k around (restores_stack z.state.stack ∷ frames) ready))))))
      (signals_class program_error_class [] (suc k) around frames z)

  applies_procedure : (i : ℕ) (called : Option Called) (vs : List Value) (level : ℕ) (around : DynamicContext) (frames : List ContinuationFrame) (z : FlatState)
      → StepKeepsPrinted frames (progress z.state) (apply_procedure s i called vs level around frames z)
  applies_procedure i called vs level around frames z =
      descends level _ frames z (λ k. some (slice_get s.program.procedures i) _ _ (value_here nil frames z) (λ p. enters p [] called vs k around frames z))

  applies_function : (i : ℕ) (captured : List Captured) (vs : List Value) (level : ℕ) (around : DynamicContext) (frames : List ContinuationFrame) (z : FlatState)
      → StepKeepsPrinted frames (progress z.state) (apply_function s i captured vs level around frames z)
  applies_function i captured vs level around frames z =
      descends level _ frames z (λ k. some (slice_get s.program.lambdas i) _ _ (value_here nil frames z) (λ p. enters p captured None vs k around frames z))

  -- methods
  pub applies_each : (ms : List ℕ) (vs : List Value) (level : ℕ) (around : DynamicContext) (frames : List ContinuationFrame) (z : FlatState)
      → StepKeepsPrinted frames (progress z.state) (apply_each s ms vs level around frames z)
  applies_each [] vs level around frames z = value_here nil frames z
  applies_each (m ∷ ms) vs level around frames z =
      beneath (awaits (method_value ms vs level around)) tt (applies_procedure m None vs level around (awaits (method_value ms vs level around) ∷ frames) z)

  pub applies_method : (m : ℕ) (called : Called) (level : ℕ) (around : DynamicContext) (frames : List ContinuationFrame) (z : FlatState)
      → StepKeepsPrinted frames (progress z.state) (apply_procedure s m (Some called) called.arguments level around frames z)
  applies_method m called level around frames z = applies_procedure m (Some called) called.arguments level around frames z

  runs_primary : (c : Chain) (ps : List ℕ) (vs : List Value) (level : ℕ) (around : DynamicContext) (frames : List ContinuationFrame) (z : FlatState)
      → StepKeepsPrinted frames (progress z.state) (run_primary s c ps vs level around frames z)
  runs_primary c [] vs level around frames z = signals_class control_error_class [] level around frames z
  runs_primary c (p ∷ ps) vs level around frames z =
      beneath (awaits (before_methods c p ps vs level around)) tt (applies_each c.before vs level around (awaits (before_methods c p ps vs level around) ∷ frames) z)

  runs_around : (c : Chain) (ms : List ℕ) (vs : List Value) (level : ℕ) (around : DynamicContext) (frames : List ContinuationFrame) (z : FlatState)
      → StepKeepsPrinted frames (progress z.state) (run_around s c ms vs level around frames z)
  runs_around c [] vs level around frames z = runs_primary c c.primary vs level around frames z
  runs_around c (m ∷ ms) vs level around frames z = applies_method m (record { arguments = vs; rest = record c { around = ms } }) level around frames z

  pub runs_chain : (c : Chain) (vs : List Value) (level : ℕ) (around : DynamicContext) (frames : List ContinuationFrame) (z : FlatState)
      → StepKeepsPrinted frames (progress z.state) (run_chain s c vs level around frames z)
  runs_chain c vs level around frames z = runs_around c c.around vs level around frames z

  -- generic functions
  applies_chain : (g : GenericRow) (o : Option Chain) (vs : List Value) (level : ℕ) (around : DynamicContext) (frames : List ContinuationFrame) (z : FlatState)
      → StepKeepsPrinted frames (progress z.state) (apply_chain s g o vs level around frames z)
  applies_chain g None vs level around frames z =
      signals_class undefined_function_class (symbol (named (text s.names g.name.0)) ∷ []) level around frames z
  applies_chain g (Some c) vs level around frames z =
      descends level _ frames z (λ k.
      on (requests_words s.limit 0 (16 + length vs) z (omega arith)) (λ ignored inner.
      beneath (restores_stack z.state.stack) tt (earlier (counts (length vs) inner.state) (runs_chain c vs k around (restores_stack z.state.stack ∷ frames) (charged (length vs) inner)))))

  applies_generic : (i : ℕ) (vs : List Value) (level : ℕ) (around : DynamicContext) (frames : List ContinuationFrame) (z : FlatState)
      → StepKeepsPrinted frames (progress z.state) (apply_generic s i vs level around frames z)
  applies_generic i vs level around frames z =
      some (slice_get s.program.generics i) _ _ (value_here nil frames z) (λ g.
      either (takes g.required g.rest (length vs))
      (applies_chain g (chain (tables s.program) g (map (class_of z.state) (take g.required vs))) vs level around frames z)
      (signals_class program_error_class [] level around frames z))

  -- values and names
  applies_object : (o : Option Object) (captured : Option (List Captured)) (f : Value) (vs : List Value) (level : ℕ) (around : DynamicContext) (frames : List ContinuationFrame) (z : FlatState)
      → StepKeepsPrinted frames (progress z.state) (apply_object s o captured f vs level around frames z)
  applies_object (Some (function p)) None f vs = applies_procedure p None vs
  applies_object (Some (function p)) (Some captured) f vs = applies_function p captured vs
  applies_object (Some (generic_function g)) captured f vs = applies_generic g vs
  applies_object o captured f vs = signals_domain f function_class

  pub applies_value : (f : Value) (vs : List Value) (level : ℕ) (around : DynamicContext) (frames : List ContinuationFrame) (z : FlatState)
      → StepKeepsPrinted frames (progress z.state) (apply_value s f vs level around frames z)
  applies_value f vs level around frames z = applies_object (fetch z.state f) (captured_by f z) f vs level around frames z

  applies_callee : (c : Callee) (vs : List Value) (level : ℕ) (around : DynamicContext) (frames : List ContinuationFrame) (z : FlatState)
      → StepKeepsPrinted frames (progress z.state) (apply_callee s c vs level around frames z)
  applies_callee (callee.Procedure p) vs = applies_procedure p None vs
  applies_callee (callee.Generic g) vs = applies_generic g vs

  pub applies_row : (name : List ℕ) (o : Option FunctionRow) (vs : List Value) (level : ℕ) (around : DynamicContext) (frames : List ContinuationFrame) (z : FlatState)
      → StepKeepsPrinted frames (progress z.state) (apply_row s name o vs level around frames z)
  applies_row name None vs = signals_class undefined_function_class (symbol (named name) ∷ [])
  applies_row name (Some f) vs = applies_callee f.callee vs

  -- signals
  pub signals_under : (hs : List Value) (c mark : Value) (level : ℕ) (around : DynamicContext) (frames : List ContinuationFrame) (z : FlatState)
      → StepKeepsPrinted frames (progress z.state) (signal_under s hs c mark level around frames z)
  signals_under [] c mark level around frames z = ends (given (condition_marked c mark z) tt)
  signals_under (h ∷ hs) c mark level around frames z =
      let within : DynamicContext = record (inside (signal_exit c mark) around z) { handlers = hs } in
      earlier (further (condition_marked c mark z) (counts 1 (exit_made (marked c mark z)).state))
      (beneath (catches z.state.exits) tt
      (beneath (awaits (handler_return level within)) tt
      (applies_value h (c ∷ []) level within (awaits (handler_return level within) ∷ catches z.state.exits ∷ frames) _)))

  -- the answer of a primitive
  pub comes_answer : (a : Answer) (before : Progress) → Answers before a → (level : ℕ) (around : DynamicContext) (frames : List ContinuationFrame) (z : FlatState)
      → StepKeepsPrinted frames before (answered s a level around frames z)
  comes_answer (result v x) before g level around frames z = ends (given g.later tt)
  comes_answer (makes size besides o x) before g level around frames z =
      earlier g.later (ends (makes_object s.limit size besides o (record z { state = x }) g.fine))
  comes_answer (makes_symbol x) before g level around frames z =
      earlier g.later
      (on (makes_object s.limit 2 0 (fresh_symbol x.symbols) (record z { state = x }) (omega arith)) (λ v y. ends (given (same _) tt)))
  comes_answer (fails class slots x) before g level around frames z = earlier g.later (signals_class class slots level around frames (record z { state = x }))
  comes_answer (domain_error v expected x) before g level around frames z = earlier g.later (signals_domain v expected level around frames (record z { state = x }))

  -- transfers
  goes_to : (p : Exit → Bool) (go : Exit → Transition) (level : ℕ) (around : DynamicContext) (frames : List ContinuationFrame) (z : FlatState)
      → ((x : Exit) (y : FlatState) → StepKeepsPrinted frames (progress y.state) (go x frames y))
      → StepKeepsPrinted frames (progress z.state) (to_exit s p go level around frames z)
  goes_to p go level around frames z h =
      searches p go _ around.exits frames z h (λ y. signals_class control_error_class [] level around frames y)

  pub transfers : (o : Option ℕ) (v : Value) (landing : Landing) (level : ℕ) (around : DynamicContext) (frames : List ContinuationFrame) (z : FlatState)
      → StepKeepsPrinted frames (progress z.state) (transfer s o v landing level around frames z)
  transfers None v landing level around frames z = signals_class control_error_class [] level around frames z
  transfers (Some e) v landing level around frames z = goes_to _ _ level around frames z (λ x y. exit_here x.number v landing frames y)

  pub throws : (tag v : Value) (level : ℕ) (around : DynamicContext) (frames : List ContinuationFrame) (z : FlatState)
      → StepKeepsPrinted frames (progress z.state) (throw_to s tag v level around frames z)
  throws tag v level around frames z = goes_to _ _ level around frames z (λ x y. exit_here x.number v (at_segment 0) frames y)

  pub continues : (c v : Value) (level : ℕ) (around : DynamicContext) (frames : List ContinuationFrame) (z : FlatState)
      → StepKeepsPrinted frames (progress z.state) (continue_with s c v level around frames z)
  continues c v level around frames z =
      goes_to _ _ level around frames z (λ x y.
      either (is_continuable x.kind) (exit_here x.number v (at_segment 0) frames y) (signals_class control_error_class [] level around frames y))
