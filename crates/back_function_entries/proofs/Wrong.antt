-- A call with a wrong number of arguments: its arguments run, a level is needed, and a condition is signalled.
use Rattle.std.proofs.Common.{◌≡◌, ℕ, zero, suc, ◌+◌, ◌<◌, ◌≤◌, Bool, false, List, [], ◌∷◌, length, None, refl, sym, ap, ◌∙◌, subst, arith}
use Rattle.std.specs.Prelude.{is_some, if◌then◌else◌}
use Rattle.lang_meaning.specs.Literals.{function_row}
use Rattle.lang_meaning.specs.Lookup.{text}
use Rattle.lang_meaning.specs.Objects.{program_error_class}
use Rattle.lang_meaning.specs.Signals.{takes}
use Rattle.lang_meaning.specs.State.{DynamicContext}
use Rattle.lang_meaning.specs.Values.{Value, nil}
use Rattle.flat_language.specs.FlatForm.{FlatForms}
use Rattle.flat_language.specs.FlatMeaning.{mean}
use Rattle.flat_language.specs.FlatNodes.{count_forms}
use Rattle.flat_language.specs.FlatSignals.{signal, apply_row, apply_callee, descend, enter}
use Rattle.flat_language.specs.FlatSignals as flat
use Rattle.flat_language.specs.FlatState.{FlatEnvironment, FlatState, FlatEvaluated, gives, charged}
use Rattle.flat_laws.specs.FlatLater.{FlatLater}
use Rattle.flat_laws.proofs.Applied.{row_applies}
use Rattle.flat_laws.proofs.Applied.{signals as all_signals}
use Rattle.flat_laws.proofs.Later.{later_kept}
use Rattle.mid_code.specs.Meaning.{exec}
use Rattle.mid_code.specs.MidCode.{code_of}
use Rattle.mid_code.specs.State.{Registers, MidState}
use Rattle.back_lowering.specs.Calls.{call_name, call_callee, call_procedure, call_with_rest, enter_body, wrong_number}
use Rattle.back_lowering.specs.Codes.{lower, lower_arguments}
use Rattle.back_lowering.specs.ControlWords.{site_address}
use Rattle.back_lowering.specs.Leaves.{site_stored, failing}
use Rattle.back_lowering.specs.Registers.{of_code, enough_for}
use Rattle.back_lowering.specs.Routines.{failing_routine, level_routine}
use Rattle.back_lowering.specs.Scope.{registers_from}
use Rattle.back_lowering.specs.Steps.{Steps, constant}
use Rattle.back_lowering.specs.Steps as steps
use Rattle.back_relation.specs.Setting.{Setting}
use Rattle.back_relation.specs.Room.{routine_words}
use Rattle.back_relation.specs.Placed.{IsPlaced}
use Rattle.back_relation.specs.Worlds.{World, Standing}
use Rattle.back_relation.specs.Activation.{FormScope}
use Rattle.back_relation.specs.Forms.{Begins, below_at, context_at, code_at}
use Rattle.back_relation.specs.RoutineClaims.{routine_credit, IsBuiltInCondition}
use Rattle.back_relation.specs.Points.{Point, start_at}
use Rattle.back_relation.specs.Starts.{Start, EndsAt}
use Rattle.back_relation.proofs.Fitting.{registers_front, registers_behind}
use Rattle.back_relation.proofs.Growth.{grown_later}
use Rattle.back_relation.proofs.Parts.{step_then}
use Rattle.back_relation.proofs.Points.{code_grows}
use Rattle.back_relation.proofs.Starts.{start_after, start_charged, ends_sparing, behind}
use Rattle.back_values.proofs.Arguments.{arguments_law}
use Rattle.back_values.proofs.Lists.{argument_lists_law}
use Rattle.back_calling.specs.Storing.{stored_at, standing_world}
use Rattle.back_calling.proofs.Growing.{signal_later, tasks_below}
use Rattle.back_calling.proofs.Sited.{failing_law}
use Rattle.back_calling.specs.Applying.{judging_cost}
use Rattle.back_calling.proofs.Levels.{level_there, form_levels_law}
use Rattle.back_function_entries.specs.KnownCalls.{IsWrongCall, Fails, LawOfWrongCalls}
use Rattle.back_function_entries.proofs.KnownCalls.{site_names, call_reserve}

-- the other of two
otherwise : {X : Type 0} (b : Bool) (x y : X) → b ≡ false → (if b then x else y) ≡ y
otherwise b x y e = ap (λ t. if t then x else y) e

program_error_is : IsBuiltInCondition program_error_class 0
program_error_is = record { low = omega arith; high = omega arith; slots = refl }

module _ (setting : Setting) (placed : IsPlaced setting) (k turns name : ℕ) (fs : FlatForms) (wrong : IsWrongCall setting name (count_forms fs)) (fails : Fails setting k turns) (s : FormScope)
    (d n size : ℕ) where
  abbrev next : DynamicContext → List Value → FlatState → FlatEvaluated
  next around vs after =
      apply_row (context_at setting k) (signal (context_at setting k)) (text setting.names name) (function_row setting.names setting.program.functions (text setting.names name)) vs around after

  abbrev rest : Steps
  rest = call_name setting.at setting.program name (function_row setting.names setting.program.functions (text setting.names name)) (count_forms fs) d s.code.site

  abbrev signals : DynamicContext → FlatState → FlatEvaluated
  signals around z = signal (context_at setting k) program_error_class [] around z

  abbrev behind_level : Steps
  behind_level = failing setting.at s.code.site d program_error_class

  abbrev judged : Steps
  judged = steps.call d (level_routine setting.at) [] ∷ behind_level

  rest_is : rest ≡ judged
  rest_is =
      ap (λ o. call_name setting.at setting.program name o (count_forms fs) d s.code.site) wrong.there
      ∙ ap (λ x. call_callee setting.at setting.program x (count_forms fs) d s.code.site) wrong.callee
      ∙ ap (λ o. call_procedure setting.at setting.program wrong.number o (count_forms fs) d s.code.site) wrong.found
      ∙ ap
      (λ t.
      if t then
      (if is_some wrong.function.rest then call_with_rest setting.at setting.program wrong.number wrong.function (count_forms fs) d s.code.site
      else enter_body setting.at setting.program wrong.number wrong.function (registers_from d (count_forms fs)) d (d + count_forms fs) s.code.site)
      else wrong_number setting.at setting.program d s.code.site)
      wrong.takes_others

  next_later : (around : DynamicContext) (vs : List Value) (z : FlatState) → FlatLater z (next around vs z).state
  next_later around vs z =
      (row_applies {R = FlatLater} {k = later_kept} (context_at setting k) (tasks_below setting k) (signal (context_at setting k))
      (all_signals {R = FlatLater} {k = later_kept} (context_at setting k) (tasks_below setting k)) (text setting.names name)
      (function_row setting.names setting.program.functions (text setting.names name)) vs around z).grows

  -- a level is needed first
  next_is : (around : DynamicContext) (vs : List Value) (z : FlatState) → length vs ≡ count_forms fs → next around vs z ≡ descend (below_at setting k) (signals around) around z
  next_is around vs z many =
      ap (λ o. apply_row (context_at setting k) (signal (context_at setting k)) (text setting.names name) o vs around z) wrong.there
      ∙ ap (λ x. apply_callee (context_at setting k) (signal (context_at setting k)) x vs around z) wrong.callee
      ∙ ap
      (λ o.
      descend (below_at setting k)
      (λ entered. flat.with_some o (λ a y. gives nil y) (λ p. enter (context_at setting k) (signal (context_at setting k)) p [] None vs) around entered) around z)
      wrong.found
      ∙ by k
    where
      takes_no : takes (length wrong.function.required) (is_some wrong.function.rest) (length vs) ≡ false
      takes_no = ap (λ m. takes (length wrong.function.required) (is_some wrong.function.rest) m) many ∙ wrong.takes_others

      by : (j : ℕ) → descend (below_at setting j) (λ entered. enter (context_at setting k) (signal (context_at setting k)) wrong.function [] None vs around entered) around z
          ≡ descend (below_at setting j) (signals around) around z
      by zero = refl
      by (suc j) =
          level_there setting j (λ entered. enter (context_at setting k) (signal (context_at setting k)) wrong.function [] None vs around entered) around z
          ∙ otherwise (takes (length wrong.function.required) (is_some wrong.function.rest) (length vs)) _ _ takes_no ∙ sym (level_there setting j (signals around) around z)

  names_both : enough_for (of_code (code_of rest)) ≤ size → d + 1 < size
  names_both h =
      let judged_names : enough_for (of_code (code_of judged)) ≤ size = subst (λ ss. enough_for (of_code (code_of ss)) ≤ size) rest_is h in
      site_names s.code.site d size
      (registers_front (site_stored s.code.site d (d + 1))
      (constant d program_error_class ∷ steps.call d (failing_routine setting.at) (d ∷ []) ∷ []) size
      (registers_behind (steps.call d (level_routine setting.at) [] ∷ []) behind_level size judged_names))

  abbrev wrong_credit : ℕ
  wrong_credit = routine_credit + 72 + judging_cost

  behind_arguments :
      (rs valid : List Standing) (w : World) (env : FlatEnvironment) (around : DynamicContext) (z : FlatState) (regs : Registers) (y : MidState)
      (begins : Begins setting rs valid s d n w env around z regs y) → length regs ≡ size → enough_for (of_code (code_of rest)) ≤ size → routine_words ≤ n → (vs : List Value)
      → length vs ≡ count_forms fs
      → EndsAt setting wrong_credit
      (record { turns = turns; rs = rs; valid = valid; s = s; d = d; n = n; w = w; env = env; around = around; z = z; regs = regs; y = y; begins = begins })
      (next around vs z) (exec (code_at setting k turns) (code_of rest) regs y)
  behind_arguments rs valid w env around z regs y begins sized names room vs many =
      let b : Start setting = record { turns = turns; rs = rs; valid = valid; s = s; d = d; n = n; w = w; env = env; around = around; z = z; regs = regs; y = y; begins = begins } in
      let there = names_both names in
      subst (λ ss. EndsAt setting wrong_credit b (next around vs z) (exec (code_at setting k turns) (code_of ss) regs y)) (sym rest_is)
      (subst (λ r. EndsAt setting wrong_credit b r (exec (code_at setting k turns) (code_of judged) regs y)) (sym (next_is around vs z many))
      (subst (λ q. EndsAt setting wrong_credit b (descend (below_at setting k) (signals around) around z) q)
      (sym (step_then (code_at setting k turns) (steps.call d (level_routine setting.at) []) behind_level regs y))
      (form_levels_law setting k wrong_credit b d d (signals around) (λ g x. exec (code_at setting k turns) (code_of behind_level) g x) placed (omega (arith, room)) (omega arith) begins.first (omega arith)
      (grown_later (signal_later setting k program_error_class [] around z)) (λ g x. code_grows setting s d n size k turns behind_level g x)
      (λ j same word y' x site.
      let b2 : Start setting = start_after setting b d d n (omega arith) (omega arith) (omega arith) begins.first x in
      let size2 = x.kept.registers.count in
      behind setting {c1 = judging_cost} {c2 = routine_credit + 72} {c = wrong_credit} b d (omega arith) x (omega arith) (omega arith)
      ((failing_law setting).class_alone k routine_credit b2 d program_error_class (omega arith) (omega (arith, there, sized, size2)) (omega (arith, room))
      (λ number paid. fails rs valid (standing_world w y') around z (stored_at site_address number paid y') program_error_class program_error_is))))))

pub wrong_calls_law : LawOfWrongCalls
unfolding mean lower
wrong_calls_law setting k turns name fs placed wrong does fails rs valid s d n first w env around z regs y stands begins registers words =
    let front = lower_arguments setting.names setting.at setting.program s.code d fs in
    let after_them = rest setting placed k turns name fs wrong fails s d n (length regs) in
    let units : ℕ = 2 + count_forms fs in
    let room : routine_words ≤ n = call_reserve setting name (count_forms fs) n wrong.row wrong.number wrong.there wrong.callee (omega (arith, words)) in
    let p0 : Point setting s d n (length regs) = record { rs = rs; valid = valid; w = w; env = env; around = around; z = z; regs = regs; y = y; begins = begins; count = refl } in
    let pc : Point setting s d n (length regs) = record {
      rs = rs;
      valid = valid;
      w = w;
      env = env;
      around = around;
      z = charged units z;
      regs = regs;
      y = y;
      begins = (start_charged setting (start_at setting s d n (length regs) turns p0) units).begins;
      count = refl;
    } in
    let lists =
    argument_lists_law setting s d n (length regs) k turns first fs does stands.stands stands.fits stands.leads stands.placed.1 stands.forms_known begins.first
    (registers_front front after_them (length regs) registers) (omega (arith, words)) in
    ends_sparing setting {c1 = routine_credit + 72 + judging_cost} (start_at setting s d n (length regs) turns p0) units (omega arith) (omega arith)
    (arguments_law setting s d n (length regs) k turns (routine_credit + 72 + judging_cost) fs pc (next setting placed k turns name fs wrong fails s d n (length regs) around) after_them lists.0 lists.1
    (λ vs x. grown_later (next_later setting placed k turns name fs wrong fails s d n (length regs) around vs x))
    (λ vs z' regs' y' x.
    let b : Start setting = start_after setting (start_at setting s d n (length regs) turns pc) d d n (omega arith) (omega arith) (omega arith) begins.first x.reached in
    behind_arguments setting placed k turns name fs wrong fails s d n (length regs) rs valid x.w' env around z' regs' y' b.begins x.reached.kept.registers.count
    (registers_behind front after_them (length regs) registers) room vs x.value_count))
