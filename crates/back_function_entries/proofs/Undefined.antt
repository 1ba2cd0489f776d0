-- A call of a name without a function: its arguments run, and a condition is signalled.
use Rattle.std.proofs.Common.{◌≡◌, ℕ, ◌+◌, ◌<◌, ◌≤◌, List, [], ◌∷◌, length, None, refl, sym, ap, subst, arith}
use Rattle.std.specs.Prelude.{max}
use Rattle.lang_meaning.specs.Literals.{function_row}
use Rattle.lang_meaning.specs.Lookup.{text}
use Rattle.lang_meaning.specs.Objects.{undefined_function_class}
use Rattle.lang_meaning.specs.State.{DynamicContext}
use Rattle.lang_meaning.specs.Values.{Value, symbol, named}
use Rattle.flat_language.specs.FlatForm.{FlatForms}
use Rattle.flat_language.specs.FlatMeaning.{mean}
use Rattle.flat_language.specs.FlatNodes.{count_forms}
use Rattle.flat_language.specs.FlatSignals.{signal, apply_row}
use Rattle.flat_language.specs.FlatState.{FlatEnvironment, FlatState, FlatEvaluated, charged}
use Rattle.mid_code.specs.Meaning.{exec}
use Rattle.mid_code.specs.MidCode.{code_of}
use Rattle.mid_code.specs.State.{Registers, MidState}
use Rattle.back_lowering.specs.Calls.{call_name}
use Rattle.back_lowering.specs.Codes.{lower, lower_arguments}
use Rattle.back_lowering.specs.ControlWords.{site_address}
use Rattle.back_lowering.specs.Leaves.{site_stored, failing_with}
use Rattle.back_lowering.specs.Placement.{symbol_word}
use Rattle.back_lowering.specs.Registers.{of_code, enough_for}
use Rattle.back_lowering.specs.Routines.{failing_with_routine}
use Rattle.back_lowering.specs.Steps.{Steps, constant}
use Rattle.back_lowering.specs.Steps as steps
use Rattle.back_relation.specs.Setting.{Setting}
use Rattle.back_relation.specs.Room.{routine_words, row_of, words_for_call, words_for_forms}
use Rattle.back_relation.specs.Placed.{HasSymbol, CallPlaced}
use Rattle.back_relation.specs.Worlds.{World, Standing}
use Rattle.back_relation.specs.Activation.{FormScope}
use Rattle.back_relation.specs.Forms.{Begins, context_at, code_at}
use Rattle.back_relation.specs.RoutineClaims.{routine_credit, IsBuiltInCondition}
use Rattle.back_relation.specs.Points.{Point, start_at}
use Rattle.back_relation.specs.Starts.{FlatGrown, Start, EndsAt}
use Rattle.back_relation.proofs.Fitting.{registers_front, registers_behind}
use Rattle.back_relation.proofs.Growth.{grown_later}
use Rattle.back_relation.proofs.Starts.{start_after, start_charged, ends_sparing, reached_same, behind}
use Rattle.back_values.proofs.Arguments.{arguments_law}
use Rattle.back_values.proofs.Lists.{argument_lists_law}
use Rattle.back_calling.specs.Storing.{stored_at, standing_world}
use Rattle.back_calling.proofs.Growing.{signal_later}
use Rattle.back_calling.proofs.Sited.{failing_law}
use Rattle.back_function_entries.specs.KnownCalls.{FailsWith, LawOfUndefinedCalls}
use Rattle.back_function_entries.proofs.KnownCalls.{site_names}

undefined_is : IsBuiltInCondition undefined_function_class 1
undefined_is = record { low = omega arith; high = omega arith; slots = refl }

module _ (setting : Setting) (k turns name : ℕ) (fs : FlatForms) (none : function_row setting.names setting.program.functions (text setting.names name) ≡ None)
    (fails : FailsWith setting k turns) (s : FormScope) (d n size : ℕ) where
  abbrev next : DynamicContext → List Value → FlatState → FlatEvaluated
  next around vs after =
      apply_row (context_at setting k) (signal (context_at setting k)) (text setting.names name) (function_row setting.names setting.program.functions (text setting.names name)) vs around after

  abbrev rest : Steps
  rest = call_name setting.at setting.program name (function_row setting.names setting.program.functions (text setting.names name)) (count_forms fs) d s.code.site

  abbrev the_name : Value
  the_name = symbol (named (text setting.names name))

  abbrev signals : DynamicContext → FlatState → FlatEvaluated
  signals around z = signal (context_at setting k) undefined_function_class (the_name ∷ []) around z

  abbrev failing : Steps
  failing = failing_with setting.at s.code.site d undefined_function_class (symbol_word setting.at name)

  next_is : (around : DynamicContext) (vs : List Value) (z : FlatState) → next around vs z ≡ signals around z
  next_is around vs z = ap (λ o. apply_row (context_at setting k) (signal (context_at setting k)) (text setting.names name) o vs around z) none

  rest_is : rest ≡ failing
  rest_is = ap (λ o. call_name setting.at setting.program name o (count_forms fs) d s.code.site) none

  names_both : enough_for (of_code (code_of rest)) ≤ size → d + 1 < size
  names_both h =
      site_names s.code.site d size
      (registers_front (site_stored s.code.site d (d + 1))
      (constant d undefined_function_class ∷ constant (d + 1) (symbol_word setting.at name)
      ∷ steps.call d (failing_with_routine setting.at) (d ∷ (d + 1) ∷ []) ∷ []) size
      (subst (λ ss. enough_for (of_code (code_of ss)) ≤ size) rest_is h))

  behind_arguments :
      (rs valid : List Standing) (w : World) (env : FlatEnvironment) (around : DynamicContext) (z : FlatState) (regs : Registers) (y : MidState)
      (begins : Begins setting rs valid s d n w env around z regs y) → length regs ≡ size → enough_for (of_code (code_of rest)) ≤ size → routine_words ≤ n → HasSymbol setting name → (vs : List Value)
      → EndsAt setting (routine_credit + 84)
      (record { turns = turns; rs = rs; valid = valid; s = s; d = d; n = n; w = w; env = env; around = around; z = z; regs = regs; y = y; begins = begins })
      (next around vs z) (exec (code_at setting k turns) (code_of rest) regs y)
  behind_arguments rs valid w env around z regs y begins sized names room has vs =
      let b : Start setting = record { turns = turns; rs = rs; valid = valid; s = s; d = d; n = n; w = w; env = env; around = around; z = z; regs = regs; y = y; begins = begins } in
      let there = names_both names in
      subst (λ ss. EndsAt setting (routine_credit + 84) b (next around vs z) (exec (code_at setting k turns) (code_of ss) regs y)) (sym rest_is)
      (subst (λ r. EndsAt setting (routine_credit + 84) b r (exec (code_at setting k turns) (code_of failing) regs y)) (sym (next_is around vs z))
      (behind setting {c1 = 0} {c2 = routine_credit + 84} {c = routine_credit + 84} b d (omega arith) (reached_same setting b d) (omega arith) (omega arith)
      ((failing_law setting).with_word k routine_credit b d undefined_function_class (symbol_word setting.at name) the_name (omega arith) (omega (arith, there, sized)) (omega (arith, room))
      (λ number paid.
      fails rs valid (standing_world w y) around z (stored_at site_address number paid y) undefined_function_class the_name (symbol_word setting.at name) undefined_is
      (begins.call.things.symbols name has)))))

pub undefined_calls_law : LawOfUndefinedCalls
unfolding mean lower
undefined_calls_law setting k turns name fs none does fails rs valid s d n first w env around z regs y stands begins registers words =
    let front = lower_arguments setting.names setting.at setting.program s.code d fs in
    let after_them = rest setting k turns name fs none fails s d n (length regs) in
    let units : ℕ = 2 + count_forms fs in
    let has : HasSymbol setting name = subst (λ o. CallPlaced setting name o) none stands.placed.0 in
    let room : routine_words ≤ n = by none words in
    let p0 : Point setting s d n (length regs) = record { rs = rs; valid = valid; w = w; env = env; around = around; z = z; regs = regs; y = y; begins = begins; count = refl } in
    let pc : Point setting s d n (length regs) = record {
      rs = rs;
      valid = valid;
      w = w;
      env = env;
      around = around;
      z = charged units z;
      regs = regs;
      y = y;
      begins = (start_charged setting (start_at setting s d n (length regs) turns p0) units).begins;
      count = refl;
    } in
    let lists =
    argument_lists_law setting s d n (length regs) k turns first fs does stands.stands stands.fits stands.leads stands.placed.1 stands.forms_known begins.first
    (registers_front front after_them (length regs) registers) (omega (arith, words)) in
    ends_sparing setting {c1 = routine_credit + 84} (start_at setting s d n (length regs) turns p0) units (omega arith) (omega arith)
    (arguments_law setting s d n (length regs) k turns (routine_credit + 84) fs pc (next setting k turns name fs none fails s d n (length regs) around) after_them lists.0 lists.1
    (λ vs x.
    subst (λ (r : FlatEvaluated). FlatGrown x r.state) (sym (next_is setting k turns name fs none fails s d n (length regs) around vs x))
    (grown_later (signal_later setting k undefined_function_class (symbol (named (text setting.names name)) ∷ []) around x)))
    (λ vs z' regs' y' x.
    let b : Start setting = start_after setting (start_at setting s d n (length regs) turns pc) d d n (omega arith) (omega arith) (omega arith) begins.first x.reached in
    behind_arguments setting k turns name fs none fails s d n (length regs) rs valid x.w' env around z' regs' y' b.begins x.reached.kept.registers.count
    (registers_behind front after_them (length regs) registers) room has vs))
  where
    by : function_row setting.names setting.program.functions (text setting.names name) ≡ None
        → max (words_for_call setting.names setting.program (row_of setting.names setting.program name) (count_forms fs)) (words_for_forms setting.names setting.program fs) ≤ n
        → routine_words ≤ n
    by e h = let front : words_for_call setting.names setting.program (row_of setting.names setting.program name) (count_forms fs) ≤ n = omega (arith, h) in
        subst (λ o. words_for_call setting.names setting.program o (count_forms fs) ≤ n) e front
