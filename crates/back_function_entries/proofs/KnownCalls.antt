-- A call of a function by its name: the arguments come in registers, the site is stored where the body asks for it, and the body is entered.
use Rattle.std.proofs.Common.{◌≡◌, inl, ℕ, zero, suc, ◌+◌, ◌*◌, ◌<◌, ◌≤◌, Bool, true, false, List, [], ◌∷◌, ◌++◌, length, Some, None, refl, sym, ap, ◌∙◌, subst, append_assoc, length-append, arith}
use Rattle.std.specs.Prelude.{slice_get, slice_set, is_some, option_to_list, if◌then◌else◌}
use Rattle.std.proofs.Math.ListN.{length-set}
use Rattle.std.proofs.lemmas.Bool.{eq-eqb}
use Rattle.std.proofs.lemmas.List.{append-nil}
use Rattle.lang_meaning.specs.declared.program.Callee.TheVariants.{Procedure}
use Rattle.lang_meaning.specs.declared.program.FunctionRow.{FunctionRow}
use Rattle.lang_meaning.specs.Literals.{function_row}
use Rattle.lang_meaning.specs.Lookup.{text}
use Rattle.lang_meaning.specs.Signals.{takes}
use Rattle.lang_meaning.specs.State.{DynamicContext}
use Rattle.lang_meaning.specs.Values.{Value, nil}
use Rattle.flat_language.specs.declared.program.FlatProcedure.{FlatProcedure}
use Rattle.flat_language.specs.FlatForm.{FlatForms}
use Rattle.flat_language.specs.FlatMeaning.{mean}
use Rattle.flat_language.specs.FlatNodes.{count_forms, homes}
use Rattle.flat_language.specs.FlatSignals.{FlatSignals, signal, apply_row, apply_callee, apply_procedure, descend, enter}
use Rattle.flat_language.specs.FlatSignals as flat
use Rattle.flat_language.specs.FlatState.{FlatEnvironment, FlatState, FlatEvaluated, gives, charged}
use Rattle.flat_laws.specs.FlatLater.{FlatLater}
use Rattle.flat_laws.proofs.Applied.{signals, row_applies}
use Rattle.flat_laws.proofs.Later.{later_kept}
use Rattle.mid_code.specs.Arena.{word_in}
use Rattle.mid_code.specs.Meaning.{Context, exec}
use Rattle.mid_code.specs.Meaning.{called as mid_called}
use Rattle.mid_code.specs.MidCode.{MidStep, code_of}
use Rattle.mid_code.specs.State.{Registers, register, falls, ends, MidState}
use Rattle.mid_code.specs.State.{charged as mid_charged}
use Rattle.mid_arena.specs.Places.{WordsOf}
use Rattle.mid_arena.proofs.Lists.{set_elsewhere}
use Rattle.mid_arena.proofs.Registers.{register_here}
use Rattle.mid_arena.proofs.Running.{RunsTo, and_then, none_left, parts_then, constant_falls}
use Rattle.back_lowering.specs.declared.scope.SitePlace.{SitePlace}
use Rattle.back_lowering.specs.declared.scope.SitePlace.TheVariants.{Known, Held}
use Rattle.back_lowering.specs.Calls.{is_method, call_name, call_callee, call_procedure, call_with_rest, wrong_number, enter_body, site_for, no_method}
use Rattle.back_lowering.specs.Codes.{lower, lower_arguments}
use Rattle.back_lowering.specs.ControlWords.{site_address}
use Rattle.back_lowering.specs.Leaves.{site_stored}
use Rattle.back_lowering.specs.Placement.{body_of_procedure}
use Rattle.back_lowering.specs.Program.{Extra, nothing, its_method, extra_of}
use Rattle.back_lowering.specs.Registers.{of_code, enough_for}
use Rattle.back_lowering.specs.Scope.{registers_from}
use Rattle.back_lowering.specs.Sites.{asks_site}
use Rattle.back_lowering.specs.Steps.{Steps, constant}
use Rattle.back_lowering.specs.Steps as steps
use Rattle.back_relation.specs.Setting.{Setting}
use Rattle.back_relation.specs.Room.{routine_words, row_of, words_for_call, words_for_callee}
use Rattle.back_relation.specs.Worlds.{World, Standing}
use Rattle.back_relation.specs.Around.{SiteStored}
use Rattle.back_relation.specs.Activation.{FormScope}
use Rattle.back_relation.specs.Ends.{CallEnds}
use Rattle.back_relation.specs.Forms.{Begins, below_at, context_at, code_at}
use Rattle.back_relation.specs.Procedures.{called, body_credit, CapturedFits, ExtraGiven}
use Rattle.back_relation.specs.Right.{ProgramIsRight}
use Rattle.back_relation.specs.Points.{Point, start_at}
use Rattle.back_relation.specs.Starts.{Start, EndsAt, ReachedFrom}
use Rattle.back_relation.proofs.Fitting.{registers_front, registers_behind}
use Rattle.back_relation.proofs.Growth.{grown_later}
use Rattle.back_relation.proofs.Parts.{single_step}
use Rattle.back_relation.proofs.Starts.{start_after, start_charged, ends_sparing, reached_set, reached_cost}
use Rattle.back_relation.proofs.Then.{ends_then}
use Rattle.back_values.specs.Arguments.{ArgumentsThere}
use Rattle.back_values.specs.Arguments as arguments
use Rattle.back_values.proofs.Arguments.{arguments_law}
use Rattle.back_values.proofs.Lists.{argument_lists_law}
use Rattle.back_calling.specs.Calling.{WordsIn, call_cost}
use Rattle.back_calling.specs.Storing.{stored_at, standing_world}
use Rattle.back_calling.proofs.Formed.{call_comes, form_ends}
use Rattle.back_calling.proofs.Growing.{tasks_below}
use Rattle.back_calling.proofs.Numbers.{numbers_law}
use Rattle.back_calling.proofs.Sited.{SiteRuns, site_runs, reached_sited, site_control}
use Rattle.back_calling.proofs.Storing.{word_stored}
use Rattle.back_calling.proofs.Units.{calls_spared}
use Rattle.back_calling.proofs.Applied.{applying_bodies_law}
use Rattle.back_function_entries.specs.KnownCalls.{IsKnownCall, BodiesBelow, LawOfKnownCalls}

-- ---- the words of the arguments

-- words in registers one after another are in those registers, and three times a word behind them
words_in_both : (d : ℕ) (ws : List ℕ) (count : ℕ) (regs : Registers) (rs ms : List ℕ) → length ws ≡ count → arguments.WordsIn d ws regs → WordsIn regs rs ms → WordsIn regs (registers_from d count ++ rs) (ws ++ ms)
words_in_both d [] zero regs rs ms e h k = k
words_in_both d [] (suc count) regs rs ms e h k = absurd (omega (arith, e))
words_in_both d (w ∷ ws) zero regs rs ms e h k = absurd (omega (arith, e))
words_in_both d (w ∷ ws) (suc count) regs rs ms e h k = (h.0, words_in_both (d + 1) ws count regs rs ms (omega (arith, e)) h.1 k)

pub arguments_kept : (d : ℕ) (ws : List ℕ) (regs regs' : Registers) → ((r : ℕ) → r < d + length ws → register r regs' ≡ register r regs) → arguments.WordsIn d ws regs → arguments.WordsIn d ws regs'
arguments_kept d [] regs regs' same h = tt
arguments_kept d (w ∷ ws) regs regs' same h = (same d (omega arith) ∙ h.0, arguments_kept (d + 1) ws regs regs' (λ r few. same r (omega (arith, few))) h.1)

pub registers_count : (d n : ℕ) → length (registers_from d n) ≡ n
registers_count d zero = refl
registers_count d (suc n) = ap suc (registers_count (d + 1) n)

-- what is behind the arguments of a method that is called by its name
abbrev pub method_words : Bool → List ℕ
method_words true = 0 ∷ 0 ∷ 0 ∷ []
method_words false = []

pub method_words_in : (b : Bool) (t : ℕ) (regs : Registers) → register t regs ≡ Some 0 → WordsIn regs (no_method b t) (method_words b)
method_words_in true t regs h = (h, (h, (h, tt)))
method_words_in false t regs h = tt

pub method_count : (b : Bool) (t : ℕ) → length (no_method b t) ≤ 3
method_count true t = omega arith
method_count false t = omega arith

module _ (setting : Setting) (number : ℕ) (q : FlatProcedure) where
  abbrev pub extra : Extra
  extra = extra_of setting.names setting.at setting.program number

  pub fits_nothing : (w : World) → CapturedFits setting w number extra q []
  fits_nothing w = by (is_method setting.program number)
    where
      by : (b : Bool) → CapturedFits setting w number (if b then its_method else nothing) q []
      by true = refl
      by false = refl

  pub extras_given : (w : World) (z : FlatState) (y : MidState) → ExtraGiven setting w z y extra q [] None (method_words (is_method setting.program number))
  extras_given w z y = by (is_method setting.program number)
    where
      by : (b : Bool) → ExtraGiven setting w z y (if b then its_method else nothing) q [] None (method_words b)
      by true = (refl, (0, 0, refl, refl, refl), tt)
      by false = (refl, refl)

-- what is paid of a call behind its arguments, beside the unit of the body
abbrev pub entering_credit : ℕ → ℕ
entering_credit count = 26 + 16 * count

-- ---- where the body is entered

-- a point behind what is in front of the call
pub record Ready (setting : Setting) (c : Context) (b : Start setting) (asks : Bool) (code : Steps) (t : ℕ) : Type 0 where
  pub w : World
  pub same_places : w.places ≡ b.w.places
  pub regs : Registers
  pub y : MidState
  pub reached : ReachedFrom setting 26 b b.d w b.z regs y
  pub runs : RunsTo c (code_of code) b.regs b.y (ends falls regs y)
  pub below : (r : ℕ) → r < t → register r regs ≡ register r b.regs
  pub none : register t regs ≡ Some 0
  pub stored : asks ≡ true → SiteStored setting b.around y

module _ (setting : Setting) (c : Context) (b : Start setting) (t : ℕ) (low : b.d ≤ t) (first_there : t < length b.regs) where
  pub ready : (asks : Bool) → (asks ≡ true → t + 1 < length b.regs) → Ready setting c b asks (site_for asks b.s.code.site t (t + 1) ++ (constant t 0 ∷ [])) t
  ready false both_there = record {
    w = b.w;
    same_places = refl;
    regs = slice_set b.regs t (Some 0);
    y = mid_charged 6 b.y;
    reached = reached_set setting {credit = 26} b b.d t 0 6 low low (omega arith);
    runs = and_then constant_falls none_left;
    below = λ r few. ap word_in (set_elsewhere b.regs t r (Some 0) (λ e. omega (arith, e, few)));
    none = register_here b.regs t 0 first_there;
    stored = λ e. absurd (cc e);
  }
  ready true both_there =
      let there : t + 1 < length b.regs = both_there refl in
      let s : SiteRuns setting c b t (t + 1) b.s.code.site = site_runs setting c b t (t + 1) low (omega arith) there in
      let few = s.few in
      let size = s.others.count in
      record {
        w = standing_world b.w b.y;
        same_places = refl;
        regs = slice_set s.regs t (Some 0);
        y = stored_at site_address s.number (s.paid + 6) b.y;
        reached =
            reached_sited setting b b.d s.number (s.paid + 6) 26 (slice_set s.regs t (Some 0)) (omega arith) (omega (arith, few))
            (λ i h. set_elsewhere s.regs t i (Some 0) (λ e. omega (arith, e, h, low)) ∙ s.others.same i (λ e. omega (arith, e, h, low)) (λ e. omega (arith, e, h, low)))
            (length-set s.regs t (Some 0) ∙ size);
        runs = parts_then (site_stored b.s.code.site t (t + 1)) (constant t 0 ∷ []) s.runs (and_then constant_falls none_left);
        below = λ r h.
            ap word_in
            (set_elsewhere s.regs t r (Some 0) (λ e. omega (arith, e, h)) ∙ s.others.same r (λ e. omega (arith, e, h)) (λ e. omega (arith, e, h)));
        none = register_here s.regs t 0 (omega (arith, first_there, size));
        stored = λ e. (s.number, word_stored setting b.begins.call.things site_address s.number (s.paid + 6) site_control refl, s.is);
      }

-- code that stores a site has its registers
pub site_names : (p : SitePlace) (t size : ℕ) → enough_for (of_code (code_of (site_stored p t (t + 1)))) ≤ size → t + 1 < size
site_names (Known i) t size h = omega (arith, h)
site_names (Held r) t size h = omega (arith, h)

module _ (setting : Setting) (right : ProgramIsRight setting) (k : ℕ) (b : Start setting) (number : ℕ) (q : FlatProcedure) (found : slice_get setting.program.procedures number ≡ Some q)
    (no_rest : q.rest ≡ None) (fewer : b.turns ≤ setting.turns_each) (bodies : BodiesBelow setting k) (wrong : FlatSignals) (vs : List Value) (ws : List ℕ) (count : ℕ)
    (value_count : length vs ≡ count) (word_count : length ws ≡ count) (many : count ≡ length q.required) (of_values : WordsOf b.w.places vs ws)
    (in_registers : arguments.WordsIn b.d ws b.regs) where
  abbrev c : Context
  c = code_at setting k b.turns

  abbrev t : ℕ
  t = b.d + count

  abbrev method : Bool
  method = is_method setting.program number

  abbrev args : List ℕ
  args = registers_from b.d count ++ no_method method t

  abbrev the_call : MidStep
  the_call = steps.call b.d (body_of_procedure setting.at number) args

  abbrev whole : Steps
  whole = enter_body setting.at setting.program number q (registers_from b.d count) b.d t b.s.code.site

  abbrev result : FlatEvaluated
  result = descend (below_at setting k) (λ entered. enter (context_at setting k) wrong q [] None vs b.around entered) b.around b.z

  homes_count : length (homes q) ≡ count
  homes_count = ap (λ o. length (q.required ++ option_to_list o)) no_rest ∙ ap length (append-nil q.required) ∙ sym many

  args_count : length args ≤ count + 3
  args_count =
      let few = method_count method t in
      omega (arith, few, length-append (registers_from b.d count) (no_method method t), registers_count b.d count)

  enter_ends :
      (total : ℕ) → entering_credit count ≤ total → routine_words ≤ b.n → FlatLater b.z result.state → t < length b.regs → Ready setting c b (asks_site q.body) (site_for (asks_site q.body) b.s.code.site t (t + 1) ++ (constant t 0 ∷ [])) t
      → EndsAt setting total b result (exec c (code_of whole) b.regs b.y)
  enter_ends total enough reserve grows there r0 =
      let b2 : Start setting = start_after setting b b.d b.d b.n (omega arith) (omega arith) (omega arith) b.begins.first r0.reached in
      let paid : ℕ = call_cost args in
      let b3 : Start setting = start_after setting b2 b2.d b2.d b2.n (omega arith) (omega arith) (omega arith) b2.begins.first
      (reached_cost setting {credit = paid} b2 b2.d paid (omega arith)) in
      let given : List ℕ = method_words method in
      let size = r0.reached.kept.registers.count in
      let words_there : WordsIn r0.regs args (ws ++ given) =
      words_in_both b.d ws count r0.regs (no_method method t) given word_count
      (arguments_kept b.d ws b.regs r0.regs (λ r few. r0.below r (omega (arith, few, word_count))) in_registers) (method_words_in method t r0.regs r0.none) in
      let code : whole ≡ (site_for (asks_site q.body) b.s.code.site t (t + 1) ++ (constant t 0 ∷ [])) ++ (the_call ∷ []) =
      sym (append_assoc (site_for (asks_site q.body) b.s.code.site t (t + 1)) (constant t 0 ∷ []) (the_call ∷ [])) in
      let run : RunsTo c (code_of ((site_for (asks_site q.body) b.s.code.site t (t + 1) ++ (constant t 0 ∷ [])) ++ (the_call ∷ []))) b.regs b.y
      (mid_called (called c (body_of_procedure setting.at number) (ws ++ given) (mid_charged paid r0.y)) b.d r0.regs) =
      parts_then (site_for (asks_site q.body) b.s.code.site t (t + 1) ++ (constant t 0 ∷ [])) (the_call ∷ []) r0.runs
      (record { same = single_step c the_call r0.regs r0.y ∙ call_comes c r0.regs r0.y b.d (body_of_procedure setting.at number) args (ws ++ given) words_there }) in
      let ends2 : CallEnds setting (16 * count) b.turns b.rs b.valid r0.w b.around b.z r0.y result (called c (body_of_procedure setting.at number) (ws ++ given) (mid_charged paid r0.y)) =
      calls_spared setting {credit = body_credit q + paid} (omega (arith, homes_count, args_count))
      (applying_bodies_law setting k b.turns b.turns b.n number paid (body_credit q + paid) (extra setting number q) q wrong [] vs ws given b.rs b.valid r0.w b.around b.z r0.y
      ((numbers_law setting).body number q right.placed.placed found) (inl (found, refl)) (fits_nothing setting number q r0.w) no_rest (value_count ∙ many) fewer (omega arith)
      (λ j e. bodies j e number (extra setting number q) q (inl (found, refl))) reserve b3.begins.call b2.begins.call.things (subst (λ places. WordsOf places vs ws) (sym r0.same_places) of_values)
      (extras_given setting number q r0.w b.z (mid_charged paid r0.y)) r0.stored) in
      let zero_cost : r0.y.cost ≡ r0.y.cost + 0 = omega arith in
      subst (λ o. EndsAt setting total b result o) (sym (ap (λ ss. exec c (code_of ss) b.regs b.y) code ∙ run.same))
      (ends_then setting {d = b.d} {d1 = b.d} (omega arith) r0.reached {c2 = 16 * count + 0} {c = total} (omega (arith, enough)) (omega arith)
      (form_ends setting b2 0 (16 * count) b.d (omega arith) (omega (arith, size, b.begins.first)) grows
      (subst
      (λ n.
      CallEnds setting (16 * count) b.turns b.rs b.valid r0.w b.around b.z (record r0.y { cost = n }) result
      (called c (body_of_procedure setting.at number) (ws ++ given) (mid_charged paid r0.y)))
      zero_cost ends2)))

-- ---- the form

-- the call of a function of a definition has the words of routines
pub call_reserve :
    (setting : Setting) (name count n : ℕ) (row : FunctionRow) (number : ℕ) → function_row setting.names setting.program.functions (text setting.names name) ≡ Some row → row.callee ≡ Procedure number
    → words_for_call setting.names setting.program (row_of setting.names setting.program name) count ≤ n → routine_words ≤ n
call_reserve setting name count n row number there callee words =
    let callee_words : words_for_callee setting.names setting.program row.callee count ≤ n =
    subst (λ o. words_for_call setting.names setting.program o count ≤ n) there words in
    subst (λ x. words_for_callee setting.names setting.program x count ≤ n) callee callee_words

module _ (setting : Setting) (right : ProgramIsRight setting) (k turns name : ℕ) (fs : FlatForms) (fewer : turns ≤ setting.turns_each) (known : IsKnownCall setting name (count_forms fs))
    (bodies : BodiesBelow setting k) (s : FormScope) (d n size : ℕ) where
  abbrev next : DynamicContext → List Value → FlatState → FlatEvaluated
  next around vs after =
      apply_row (context_at setting k) (signal (context_at setting k)) (text setting.names name) (function_row setting.names setting.program.functions (text setting.names name)) vs around after

  abbrev rest : Steps
  rest = call_name setting.at setting.program name (function_row setting.names setting.program.functions (text setting.names name)) (count_forms fs) d s.code.site

  abbrev entering : Steps
  entering = enter_body setting.at setting.program known.number known.function (registers_from d (count_forms fs)) d (d + count_forms fs) s.code.site

  next_later : (around : DynamicContext) (vs : List Value) (z : FlatState) → FlatLater z (next around vs z).state
  next_later around vs z =
      (row_applies {R = FlatLater} {k = later_kept} (context_at setting k) (tasks_below setting k) (signal (context_at setting k))
      (signals {R = FlatLater} {k = later_kept} (context_at setting k) (tasks_below setting k)) (text setting.names name)
      (function_row setting.names setting.program.functions (text setting.names name)) vs around z).grows

  next_is : (around : DynamicContext) (vs : List Value) (z : FlatState)
      → next around vs z ≡ descend (below_at setting k) (λ entered. enter (context_at setting k) (signal (context_at setting k)) known.function [] None vs around entered) around z
  next_is around vs z =
      ap (λ o. apply_row (context_at setting k) (signal (context_at setting k)) (text setting.names name) o vs around z) known.there
      ∙ ap (λ x. apply_callee (context_at setting k) (signal (context_at setting k)) x vs around z) known.callee
      ∙ ap
      (λ o.
      descend (below_at setting k)
      (λ entered. flat.with_some o (λ a y. gives nil y) (λ p. enter (context_at setting k) (signal (context_at setting k)) p [] None vs) around entered) around z)
      known.found

  rest_is : rest ≡ entering
  rest_is =
      ap (λ o. call_name setting.at setting.program name o (count_forms fs) d s.code.site) known.there
      ∙ ap (λ x. call_callee setting.at setting.program x (count_forms fs) d s.code.site) known.callee
      ∙ ap (λ o. call_procedure setting.at setting.program known.number o (count_forms fs) d s.code.site) known.found
      ∙ ap (λ x. either x (is_some known.function.rest)) takes_them ∙ ap (λ o. either true (is_some o)) known.no_rest
    where
      either : Bool → Bool → Steps
      either takes_so_many more_there =
          if takes_so_many then
          (if more_there then call_with_rest setting.at setting.program known.number known.function (count_forms fs) d s.code.site else entering)
          else wrong_number setting.at setting.program d s.code.site

      takes_them : takes (length known.function.required) (is_some known.function.rest) (count_forms fs) ≡ true
      takes_them = ap (λ o. takes (length known.function.required) (is_some o) (count_forms fs)) known.no_rest ∙ eq-eqb _ _ (sym known.many)

  -- behind the arguments
  module _ (rs valid : List Standing) (w : World) (env : FlatEnvironment) (around : DynamicContext) (z : FlatState) (regs : Registers) (y : MidState)
      (begins : Begins setting rs valid s d n w env around z regs y) (sized : length regs ≡ size) (names : enough_for (of_code (code_of rest)) ≤ size) (reserve : routine_words ≤ n) (vs : List Value) (ws : List ℕ)
      (value_count : length vs ≡ count_forms fs) (word_count : length ws ≡ count_forms fs) (of_values : WordsOf w.places vs ws) (in_registers : arguments.WordsIn d ws regs) where
    abbrev b : Start setting
    b = record { turns = turns; rs = rs; valid = valid; s = s; d = d; n = n; w = w; env = env; around = around; z = z; regs = regs; y = y; begins = begins }

    abbrev site_steps : Steps
    site_steps = site_for (asks_site known.function.body) s.code.site (d + count_forms fs) (d + count_forms fs + 1)

    entering_names : enough_for (of_code (code_of entering)) ≤ size
    entering_names = subst (λ ss. enough_for (of_code (code_of ss)) ≤ size) rest_is names

    constant_there : d + count_forms fs < length regs
    constant_there =
        let h = registers_behind site_steps
        (constant (d + count_forms fs) 0
        ∷ steps.call d (body_of_procedure setting.at known.number)
        (registers_from d (count_forms fs) ++ no_method (is_method setting.program known.number) (d + count_forms fs)) ∷ []) size entering_names in
        subst (λ m. d + count_forms fs < m) (sym sized) (first_named (d + count_forms fs)
        (of_code (code_of
        (steps.call d (body_of_procedure setting.at known.number)
        (registers_from d (count_forms fs) ++ no_method (is_method setting.program known.number) (d + count_forms fs)) ∷ [])))
        size h)
      where
        first_named : (r : ℕ) (others : List ℕ) (m : ℕ) → enough_for (r ∷ others) ≤ m → r < m
        first_named r others m h = omega (arith, h)

    both_there : asks_site known.function.body ≡ true → d + count_forms fs + 1 < length regs
    both_there asks =
        let h = registers_front site_steps
        (constant (d + count_forms fs) 0
        ∷ steps.call d (body_of_procedure setting.at known.number)
        (registers_from d (count_forms fs) ++ no_method (is_method setting.program known.number) (d + count_forms fs)) ∷ []) size entering_names in
        subst (λ m. d + count_forms fs + 1 < m) (sym sized)
        (site_names s.code.site (d + count_forms fs) size
        (subst (λ x. enough_for (of_code (code_of (site_for x s.code.site (d + count_forms fs) (d + count_forms fs + 1)))) ≤ size) asks h))

    behind_arguments : EndsAt setting (entering_credit (count_forms fs)) b (next around vs z) (exec (code_at setting k turns) (code_of rest) regs y)
    behind_arguments =
        subst (λ ss. EndsAt setting (entering_credit (count_forms fs)) b (next around vs z) (exec (code_at setting k turns) (code_of ss) regs y)) (sym rest_is)
        (subst (λ r. EndsAt setting (entering_credit (count_forms fs)) b r (exec (code_at setting k turns) (code_of entering) regs y)) (sym (next_is around vs z))
        (enter_ends setting right k b known.number known.function known.found known.no_rest fewer bodies (signal (context_at setting k)) vs ws (count_forms fs) value_count word_count known.many
        of_values in_registers (entering_credit (count_forms fs)) (omega arith) reserve (subst (λ (r : FlatEvaluated). FlatLater z r.state) (next_is around vs z) (next_later around vs z)) constant_there
        (ready setting (code_at setting k turns) b (d + count_forms fs) (omega arith) constant_there (asks_site known.function.body) both_there)))

pub known_calls_law : LawOfKnownCalls
unfolding mean lower
known_calls_law setting k turns name fs right fewer known does bodies rs valid s d n first w env around z regs y stands begins registers words =
    let front = lower_arguments setting.names setting.at setting.program s.code d fs in
    let behind = rest setting right k turns name fs fewer known bodies s d n (length regs) in
    let units : ℕ = 2 + count_forms fs in
    let p0 : Point setting s d n (length regs) = record { rs = rs; valid = valid; w = w; env = env; around = around; z = z; regs = regs; y = y; begins = begins; count = refl } in
    let pc : Point setting s d n (length regs) = record {
      rs = rs;
      valid = valid;
      w = w;
      env = env;
      around = around;
      z = charged units z;
      regs = regs;
      y = y;
      begins = (start_charged setting (start_at setting s d n (length regs) turns p0) units).begins;
      count = refl;
    } in
    let lists =
    argument_lists_law setting s d n (length regs) k turns first fs does stands.stands stands.fits stands.leads stands.placed.1 stands.forms_known begins.first
    (registers_front front behind (length regs) registers) (omega (arith, words)) in
    ends_sparing setting {c1 = entering_credit (count_forms fs)} (start_at setting s d n (length regs) turns p0) units (omega arith) (omega arith)
    (arguments_law setting s d n (length regs) k turns (entering_credit (count_forms fs)) fs pc (next setting right k turns name fs fewer known bodies s d n (length regs) around) behind lists.0 lists.1
    (λ vs x. grown_later (next_later setting right k turns name fs fewer known bodies s d n (length regs) around vs x))
    (λ vs z' regs' y' x.
    let b : Start setting = start_after setting (start_at setting s d n (length regs) turns pc) d d n (omega arith) (omega arith) (omega arith) begins.first x.reached in
    behind_arguments setting right k turns name fs fewer known bodies s d n (length regs) rs valid x.w' env around z' regs' y' b.begins x.reached.kept.registers.count
    (registers_behind front behind (length regs) registers) (call_reserve setting name (count_forms fs) n known.row known.number known.there known.callee (omega (arith, words))) vs x.words x.value_count x.word_count x.of_values x.in_registers))
