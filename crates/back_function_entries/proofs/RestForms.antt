-- The form: all arguments come in registers, and the function is called from there.
use Rattle.std.proofs.Common.{◌≡◌, inl, ℕ, ◌+◌, ◌≤◌, Bool, true, length, None, refl, sym, ap, ◌∙◌, subst, arith}
use Rattle.std.specs.Prelude.{is_some, if◌then◌else◌}
use Rattle.std.proofs.lemmas.Bool.{le-leb}
use Rattle.lang_meaning.specs.Literals.{function_row}
use Rattle.lang_meaning.specs.Lookup.{text}
use Rattle.lang_meaning.specs.Signals.{takes}
use Rattle.lang_meaning.specs.State.{DynamicContext}
use Rattle.lang_meaning.specs.Values.{Value, nil}
use Rattle.flat_language.specs.FlatForm.{FlatForms}
use Rattle.flat_language.specs.FlatMeaning.{mean}
use Rattle.flat_language.specs.FlatNodes.{count_forms}
use Rattle.flat_language.specs.FlatSignals.{signal, apply_row, apply_callee, descend, enter}
use Rattle.flat_language.specs.FlatSignals as flat
use Rattle.flat_language.specs.FlatState.{FlatState, FlatEvaluated, gives, charged}
use Rattle.std.specs.Prelude.{List, []}
use Rattle.flat_laws.specs.FlatLater.{FlatLater}
use Rattle.flat_laws.proofs.Applied.{signals, row_applies}
use Rattle.flat_laws.proofs.Later.{later_kept}
use Rattle.mid_code.specs.Meaning.{exec}
use Rattle.mid_code.specs.MidCode.{code_of}
use Rattle.back_lowering.specs.Calls.{call_name, call_callee, call_procedure, call_with_rest, wrong_number, enter_body}
use Rattle.back_lowering.specs.Codes.{lower, lower_arguments}
use Rattle.back_lowering.specs.Program.{extra_of}
use Rattle.back_lowering.specs.Registers.{of_code, enough_for}
use Rattle.back_lowering.specs.Scope.{registers_from}
use Rattle.back_lowering.specs.Steps.{Steps}
use Rattle.back_relation.specs.Setting.{Setting}
use Rattle.back_relation.specs.Activation.{FormScope}
use Rattle.back_relation.specs.Forms.{below_at, context_at, code_at}
use Rattle.back_relation.specs.Points.{Point, start_at}
use Rattle.back_relation.specs.Starts.{Start, EndsAt}
use Rattle.back_relation.proofs.Fitting.{registers_front, registers_behind}
use Rattle.back_relation.proofs.Growth.{grown_later}
use Rattle.back_relation.proofs.Starts.{start_after, start_charged, ends_sparing, reached_same}
use Rattle.back_relation.proofs.Then.{ends_then}
use Rattle.mid_code.specs.State.{MidOutcome}
use Rattle.back_values.proofs.Arguments.{arguments_law}
use Rattle.back_values.proofs.Lists.{argument_lists_law}
use Rattle.back_calling.proofs.Growing.{tasks_below}
use Rattle.back_function_entries.proofs.KnownCalls.{call_reserve}
use Rattle.back_function_entries.specs.RestCalls.{rest_credit}
use Rattle.back_function_entries.specs.RestForms.{IsRestCall, LawOfRestForms}
use Rattle.back_function_entries.proofs.RestCalls.{rest_calls_law}

module _ (setting : Setting) (k turns name : ℕ) (fs : FlatForms) (known : IsRestCall setting name (count_forms fs)) (s : FormScope) (d : ℕ) where
  abbrev next : DynamicContext → List Value → FlatState → FlatEvaluated
  next around vs after =
      apply_row (context_at setting k) (signal (context_at setting k)) (text setting.names name) (function_row setting.names setting.program.functions (text setting.names name)) vs around after

  abbrev rest : Steps
  rest = call_name setting.at setting.program name (function_row setting.names setting.program.functions (text setting.names name)) (count_forms fs) d s.code.site

  abbrev listing : Steps
  listing = call_with_rest setting.at setting.program known.number known.function (count_forms fs) d s.code.site

  next_later : (around : DynamicContext) (vs : List Value) (z : FlatState) → FlatLater z (next around vs z).state
  next_later around vs z =
      (row_applies {R = FlatLater} {k = later_kept} (context_at setting k) (tasks_below setting k) (signal (context_at setting k))
      (signals {R = FlatLater} {k = later_kept} (context_at setting k) (tasks_below setting k)) (text setting.names name)
      (function_row setting.names setting.program.functions (text setting.names name)) vs around z).grows

  next_is : (around : DynamicContext) (vs : List Value) (z : FlatState)
      → next around vs z ≡ descend (below_at setting k) (λ entered. enter (context_at setting k) (signal (context_at setting k)) known.function [] None vs around entered) around z
  next_is around vs z =
      ap (λ o. apply_row (context_at setting k) (signal (context_at setting k)) (text setting.names name) o vs around z) known.there
      ∙ ap (λ x. apply_callee (context_at setting k) (signal (context_at setting k)) x vs around z) known.callee
      ∙ ap
      (λ o.
      descend (below_at setting k)
      (λ entered. flat.with_some o (λ a y. gives nil y) (λ p. enter (context_at setting k) (signal (context_at setting k)) p [] None vs) around entered) around z)
      known.found

  rest_is : rest ≡ listing
  rest_is =
      ap (λ o. call_name setting.at setting.program name o (count_forms fs) d s.code.site) known.there
      ∙ ap (λ x. call_callee setting.at setting.program x (count_forms fs) d s.code.site) known.callee
      ∙ ap (λ o. call_procedure setting.at setting.program known.number o (count_forms fs) d s.code.site) known.found
      ∙ ap (λ x. either x (is_some known.function.rest)) takes_them ∙ ap (λ x. either true x) known.takes_more
    where
      either : Bool → Bool → Steps
      either takes_so_many more_there =
          if takes_so_many then
          (if more_there then listing
          else enter_body setting.at setting.program known.number known.function (registers_from d (count_forms fs)) d (d + count_forms fs) s.code.site)
          else wrong_number setting.at setting.program d s.code.site

      takes_them : takes (length known.function.required) (is_some known.function.rest) (count_forms fs) ≡ true
      takes_them = ap (λ b. takes (length known.function.required) b (count_forms fs)) known.takes_more ∙ le-leb _ _ known.enough

pub rest_forms_law : LawOfRestForms
unfolding mean lower
rest_forms_law setting k turns name fs right fewer known does bodies rs valid s d n first w env around z regs y stands begins registers words =
    let front = lower_arguments setting.names setting.at setting.program s.code d fs in
    let behind = rest setting k turns name fs known s d in
    let units : ℕ = 2 + count_forms fs in
    let p0 : Point setting s d n (length regs) = record { rs = rs; valid = valid; w = w; env = env; around = around; z = z; regs = regs; y = y; begins = begins; count = refl } in
    let pc : Point setting s d n (length regs) = record {
      rs = rs;
      valid = valid;
      w = w;
      env = env;
      around = around;
      z = charged units z;
      regs = regs;
      y = y;
      begins = (start_charged setting (start_at setting s d n (length regs) turns p0) units).begins;
      count = refl;
    } in
    let lists =
    argument_lists_law setting s d n (length regs) k turns first fs does stands.stands stands.fits stands.leads stands.placed.1 stands.forms_known begins.first
    (registers_front front behind (length regs) registers) (omega (arith, words)) in
    let names : enough_for (of_code (code_of (listing setting k turns name fs known s d))) ≤ length regs =
    subst (λ ss. enough_for (of_code (code_of ss)) ≤ length regs) (rest_is setting k turns name fs known s d) (registers_behind front behind (length regs) registers) in
    ends_sparing setting {c1 = rest_credit (count_forms fs)} (start_at setting s d n (length regs) turns p0) units (omega arith) (omega arith)
    (arguments_law setting s d n (length regs) k turns (rest_credit (count_forms fs)) fs pc (next setting k turns name fs known s d around) behind lists.0 lists.1
    (λ vs x. grown_later (next_later setting k turns name fs known s d around vs x))
    (λ vs z' regs' y' x.
    let b : Start setting = start_after setting (start_at setting s d n (length regs) turns pc) d d n (omega arith) (omega arith) (omega arith) begins.first x.reached in
    let named : enough_for (of_code (code_of (call_with_rest setting.at setting.program known.number known.function (length x.words) d s.code.site))) ≤ length regs' =
    subst (λ m. enough_for (of_code (code_of (call_with_rest setting.at setting.program known.number known.function m d s.code.site))) ≤ length regs') (sym x.word_count)
    (subst (λ m. enough_for (of_code (code_of (listing setting k turns name fs known s d))) ≤ m) (sym x.reached.kept.registers.count) names) in
    let count = x.value_count in
    let enough = known.enough in
    let ends : EndsAt setting (rest_credit (length vs)) b
    (descend (below_at setting k) (λ entered. enter (context_at setting k) (signal (context_at setting k)) known.function [] None vs around entered) around z')
    (exec (code_at setting k turns) (code_of (call_with_rest setting.at setting.program known.number known.function (length x.words) d s.code.site)) regs' y') =
    rest_calls_law setting k b known.number known.function (signal (context_at setting k)) vs x.words right.placed.placed known.found known.takes_more (omega (arith, count, enough)) fewer
    (λ j e. bodies j e known.number (extra_of setting.names setting.at setting.program known.number) known.function (inl (known.found, refl))) x.of_values x.in_registers
    (call_reserve setting name (count_forms fs) n known.row known.number known.there known.callee (omega (arith, words))) named in
    ends_more b (rest_credit (length vs)) (rest_credit (count_forms fs)) (omega (arith, count))
    (subst (λ r. EndsAt setting (rest_credit (length vs)) b r (exec (code_at setting k turns) (code_of behind) regs' y')) (sym (next_is setting k turns name fs known s d around vs z'))
    (subst
    (λ ss.
    EndsAt setting (rest_credit (length vs)) b
    (descend (below_at setting k) (λ entered. enter (context_at setting k) (signal (context_at setting k)) known.function [] None vs around entered) around z')
    (exec (code_at setting k turns) (code_of ss) regs' y'))
    (ap (λ m. call_with_rest setting.at setting.program known.number known.function m d s.code.site) x.word_count ∙ sym (rest_is setting k turns name fs known s d)) ends))))
  where
    ends_more : {r : FlatEvaluated} {q : MidOutcome} (b : Start setting) (c1 c2 : ℕ) → c1 ≤ c2 → EndsAt setting c1 b r q → EndsAt setting c2 b r q
    ends_more b c1 c2 few e = ends_then setting {d = b.d} {d1 = b.d} (omega arith) (reached_same setting {credit = 0} b b.d) {c2 = c1} {c = c2} (omega (arith, few)) (omega arith) e
