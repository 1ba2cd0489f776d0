-- **The application of a value**: its tag and its header tell whether it is a function, a generic function, or none.
use Rattle.std.proofs.Common.{◌≡◌, inl, inr, ℕ, suc, ◌+◌, ◌-◌, ◌*◌, ◌%◌, ◌^◌, ◌<◌, ◌≤◌, Bool, true, false, List, [], ◌∷◌, ◌++◌, length, Option, Some, None, refl, sym, ap, ◌∙◌, subst, arith}
use Rattle.std.specs.Prelude.{◌==◌, ◌||◌, is_some, slice_get, if◌then◌else◌}
use Rattle.std.proofs.lemmas.Bool.{eq-eqb}
use Rattle.std.proofs.lemmas.Bool.Decides.{nat_tests}
use Rattle.std.proofs.lemmas.Nat.{and_mask}
use Rattle.lang_meaning.specs.declared.program.GenericRow.{GenericRow}
use Rattle.lang_meaning.specs.Classes.{fetch}
use Rattle.lang_meaning.specs.Objects.{Object, function, closure, generic_function, program_error_class, function_class}
use Rattle.lang_meaning.specs.Primitives.{is_function}
use Rattle.lang_meaning.specs.Signals.{takes}
use Rattle.lang_meaning.specs.State.{DynamicContext}
use Rattle.lang_meaning.specs.Values.{Value, nil}
use Rattle.flat_language.specs.declared.program.FlatProcedure.{FlatProcedure}
use Rattle.flat_language.specs.FlatNodes.{tables}
use Rattle.flat_language.specs.FlatSignals.{with_some, descend, enter, signal, signal_domain_error, apply_object, apply_value, apply_generic_row}
use Rattle.flat_language.specs.FlatState.{Captured, captured_by, FlatState, FlatEvaluated, under, gives}
use Rattle.flat_laws.specs.FlatLater.{FlatLater}
use Rattle.flat_laws.proofs.Applied.{signals, value_applies}
use Rattle.flat_laws.proofs.Later.{later_kept}
use Rattle.mid_code.specs.declared.operation.Comparison.TheVariants.{Equal, Different, LessUnsigned}
use Rattle.mid_code.specs.declared.operation.Counted.TheVariants.{Turn}
use Rattle.mid_code.specs.declared.program.MidProcedure.{MidProcedure}
use Rattle.mid_code.specs.Arena.{word_at}
use Rattle.mid_code.specs.Costs.{entry_cost}
use Rattle.mid_code.specs.Meaning.{Context, exec}
use Rattle.mid_code.specs.MidCode.{return_word, code_of}
use Rattle.mid_code.specs.State.{Registers, MidState, MidOutcome}
use Rattle.mid_code.specs.State.{charged as mid_charged, go_on as mid_go_on}
use Rattle.mid_arena.specs.Tags.{object_tag, function_header, generic_header}
use Rattle.mid_arena.proofs.Arguments.{object_found, word_told, ObjectFound}
use Rattle.mid_arena.proofs.HeaderKinds.{function_kind}
use Rattle.mid_arena.proofs.Memory.{spot_low}
use Rattle.mid_arena.proofs.Running.{and_then, none_left, constant_falls, compute_known, load_falls, choose_first_falls, choose_second_falls, address_above, address_below}
use Rattle.mid_arena.proofs.Telling.{ByHeader, of_kind, of_other_kind, of_other_tag, header_decides}
use Rattle.mid_arena.proofs.WordFacts.{four_times_count, sum_fits}
use Rattle.back_lowering.specs.Calls.{is_method}
use Rattle.back_lowering.specs.ControlWords.{site_address}
use Rattle.back_lowering.specs.Placement.{entry_of_lambda}
use Rattle.back_lowering.specs.Program.{Extra, nothing, its_method, itself, extra_of, framed, passing_frame, procedure_with}
use Rattle.back_lowering.specs.RoutineCodes.{function_code, arity_into, where_takes, generic_into, wrong_number, signals_domain, returning}
use Rattle.back_lowering.specs.RoutineCodes.{signals as signals_steps}
use Rattle.back_lowering.specs.Routines.{domain_routine, failing_routine, function_routine, generic_routine, level_routine}
use Rattle.back_lowering.specs.Steps.{Steps, constant, load_header, call, call_number, test_of, where_so, if_equal}
use Rattle.back_relation.specs.Setting.{Setting, ConstantAt}
use Rattle.back_relation.specs.Chains.{arity_word, GenericAt}
use Rattle.back_relation.specs.Room.{applying_words, generic_words, failing_words, level_words}
use Rattle.back_relation.specs.Placed.{IsPlaced, ArityStands, HasSymbol}
use Rattle.back_relation.specs.Worlds.{World, Standing}
use Rattle.back_relation.specs.Things.{AreMadeBy, FunctionStands}
use Rattle.back_relation.specs.Activation.{SelfHeld}
use Rattle.back_relation.specs.Around.{CallBegins, SiteStored}
use Rattle.back_relation.specs.Ends.{WorldKept, Around, CallEnds}
use Rattle.back_relation.specs.Forms.{below_at, context_at, code_at}
use Rattle.back_relation.specs.Procedures.{IsFunction, CapturedFits, CalledFits, ArgumentsLent, entry_credit}
use Rattle.back_relation.specs.RoutineClaims.{WordIs, generic_credit, applying_credit}
use Rattle.back_relation.specs.Starts.{FlatGrown}
use Rattle.back_relation.proofs.Growth.{grown_later}
use Rattle.back_relation.proofs.Parts.{step_then}
use Rattle.back_relation.proofs.Straight.{world_cost, around_cost}
use Rattle.back_calling.specs.Calling.{WordsIn}
use Rattle.back_calling.proofs.Entered.{turns_law}
use Rattle.back_calling.proofs.Formed.{call_comes, call_number_comes}
use Rattle.back_calling.proofs.Growing.{tasks_below, signal_later}
use Rattle.back_calling.proofs.Inner.{returned}
use Rattle.back_calling.proofs.Numbers.{numbers_law}
use Rattle.back_calling.proofs.Units.{calls_recounted}
use Rattle.back_values.proofs.Constants.{constants_law}
use Rattle.back_exits.proofs.Points.{point_begins}
use Rattle.back_exits.proofs.Within.{call_less}
use Rattle.back_conditions.specs.Law.{ConditionsDo}
use Rattle.back_conditions.specs.Within.{making_credit}
use Rattle.back_generics.specs.Methods.{EntriesDo, EntriesBelow}
use Rattle.back_generics.proofs.Given.{lent_then, lent_inside}
use Rattle.back_generics.specs.Functions.{LawOfFunctions, LawOfFunctionClaims}
use Rattle.back_generics.proofs.Generics.{generics_law}
use Rattle.back_generics.proofs.Judging.{odd_tells, half_is, some_more, too_few, so_many, others_many, judged_over}
use Rattle.back_generics.proofs.Points.{second_of, fewer_room, steps_grown, straight, first_branch, second_branch}

module _ (setting : Setting) (placed : IsPlaced setting) (k n spare : ℕ) (few : n + suc spare ≤ suc setting.turns_each) (over : spare ≤ 14) (rs valid : List Standing) (around : DynamicContext)
    (entries : EntriesDo setting k) (chains : EntriesBelow setting k) (conditions : ConditionsDo setting k (suc (suc spare)) around) (w : World) (z : FlatState) (f : Value) (vs : List Value) (word address : ℕ) (is : WordIs setting w word f) where
  abbrev c : Context
  c = code_at setting k n

  abbrev m : ℕ
  m = n + suc spare

  -- what is paid for a condition
  abbrev fail : ℕ
  fail = making_credit

  -- conditions leave more turns over than that
  fewer : {credit : ℕ} {y : MidState} {r : FlatEvaluated} {q : MidOutcome} → CallEnds setting credit (n + suc (suc spare)) rs valid w around z y r q → CallEnds setting credit m rs valid w around z y r q
  fewer e = call_less setting (omega arith) (omega arith) e

  -- what is known at each point
  pub record Here (y : MidState) : Type 0 where
    pub call : CallBegins setting rs valid generic_words w around z y
    pub site : SiteStored setting around y
    pub lent : ArgumentsLent setting w y.arena address vs

  here_then : {credit : ℕ} {y y' : MidState} → WorldKept setting w w z z y y' → Around setting credit z z y y' → SiteStored setting around y' → Here y → Here y'
  here_then kept back site h = record { call = point_begins setting kept back h.call; site = site; lent = lent_then setting kept back h.lent }

  here_cost : {y : MidState} (p : ℕ) → Here y → Here (mid_charged p y)
  here_cost {y} p h = here_then {credit = p} (world_cost setting p h.call.things) (around_cost setting z y p (omega arith)) h.site h

  fewer_begins : {y : MidState} (words_here : ℕ) → words_here ≤ generic_words → CallBegins setting rs valid generic_words w around z y → CallBegins setting rs valid words_here w around z y
  fewer_begins {y} words_here enough b = record { things = b.things; around_stands = b.around_stands; room = fewer_room setting.limit _ _ z y (omega (arith, enough)) b.room }

  abbrev Comes : ℕ → MidState → FlatEvaluated → MidOutcome → Type 0
  Comes credit y r q = CallEnds setting credit m rs valid w around z y r q

  abbrev file : (r3 r4 r5 r6 r7 r8 : Option ℕ) → Registers
  file r3 r4 r5 r6 r7 r8 = Some word ∷ Some (length vs) ∷ Some address ∷ r3 ∷ r4 ∷ r5 ∷ r6 ∷ r7 ∷ r8 ∷ []

  -- ---- what is no function

  abbrev wrong_kind : FlatEvaluated
  wrong_kind = signal_domain_error (context_at setting k) (signal (context_at setting k)) f function_class around z

  domain_comes : (r3 r4 r5 r6 r7 r8 : Option ℕ) (y : MidState) → Here y → Comes (fail + 72) y wrong_kind (exec c (code_of (signals_domain setting.at 0 3 function_class)) (file r3 r4 r5 r6 r7 r8) y)
  domain_comes r3 r4 r5 r6 r7 r8 y h =
      straight setting k n m rs valid w around z wrong_kind 6 (fail + 52 + 14) (omega arith) h.call.things
      ((and_then constant_falls (record { same = refl })).same)
      (returned setting k n fail m 3 (domain_routine setting.at) (0 ∷ 3 ∷ []) (word ∷ function_class ∷ []) [] rs valid w around z (mid_charged 6 y) (file (Some function_class) r4 r5 r6 r7 r8) wrong_kind
      (refl, (refl, tt)) (omega arith) (here_cost 6 h).call.things
      (fewer ((conditions n rs valid w z (mid_charged 52 (mid_charged 6 y)) (omega (arith, few))).domain f function_class word (omega arith) is (here_cost 52 (here_cost 6 h)).site
      (fewer_begins failing_words (omega arith) (here_cost 52 (here_cost 6 h)).call))))

  -- ---- a wrong number of arguments

  abbrev wrong_many : FlatEvaluated
  wrong_many = signal (context_at setting k) program_error_class [] around z

  fails_comes : (r3 r4 r5 r6 r7 r8 : Option ℕ) (y : MidState) → Here y → Comes (fail + 66) y wrong_many (exec c (code_of (signals_steps setting.at 6 program_error_class)) (file r3 r4 r5 r6 r7 r8) y)
  fails_comes r3 r4 r5 r6 r7 r8 y h =
      straight setting k n m rs valid w around z wrong_many 6 (fail + 46 + 14) (omega arith) h.call.things
      ((and_then constant_falls (record { same = refl })).same)
      (returned setting k n fail m 6 (failing_routine setting.at) (6 ∷ []) (program_error_class ∷ []) [] rs valid w around z (mid_charged 6 y) (file r3 r4 r5 (Some program_error_class) r7 r8)
      wrong_many (refl, tt) (omega arith) (here_cost 6 h).call.things
      (fewer ((conditions n rs valid w z (mid_charged 46 (mid_charged 6 y)) (omega (arith, few))).class_alone program_error_class (record { low = omega arith; high = omega arith; slots = refl })
      (here_cost 46 (here_cost 6 h)).site (fewer_begins failing_words (omega arith) (here_cost 46 (here_cost 6 h)).call))))

  -- ---- a function

  abbrev entered : (cs : List Captured) → FlatProcedure → FlatEvaluated
  entered cs q = descend (below_at setting k) (λ x. enter (context_at setting k) (signal (context_at setting k)) q cs None vs around x) around z

  abbrev last_steps : Steps
  last_steps = constant 3 0 ∷ call_number 6 5 (0 ∷ 3 ∷ 1 ∷ 2 ∷ []) ∷ return_word 6 ∷ []

  abbrev function_steps : Steps
  function_steps = arity_into setting.at 3 5 0 ++ (where_takes setting.at 3 1 6 (wrong_number setting.at 6) ++ last_steps)

  module _ (number : ℕ) (extra : Extra) (q : FlatProcedure) (cs : List Captured) (is_one : IsFunction setting number extra q) (fits : CapturedFits setting w number extra q cs)
      (held : SelfHeld w z.captured (Some word) cs) (as_extra : CalledFits setting extra None) where
    abbrev req : ℕ
    req = length q.required

    abbrev more_taken : Bool
    more_taken = is_some q.rest

    abbrev arity : ℕ
    arity = arity_word req more_taken

    entry_comes : takes req more_taken (length vs) ≡ true → (r3 r4 r6 r7 r8 : Option ℕ) (y : MidState) → Here y → Comes 84 y (entered cs q) (exec c (code_of last_steps) (file r3 r4 (Some number) r6 r7 r8) y)
    entry_comes taken r3 r4 r6 r7 r8 y h =
        straight setting k n m rs valid w around z (entered cs q) 6 78 (omega arith) h.call.things
        ((and_then constant_falls
        (record {
          same =
              step_then c (call_number 6 5 (0 ∷ 3 ∷ 1 ∷ 2 ∷ [])) (return_word 6 ∷ []) regs y1
              ∙ ap (λ o. mid_go_on o (λ g x. exec c (code_of (return_word 6 ∷ [])) g x))
              (call_number_comes c regs y1 6 number (0 ∷ 3 ∷ 1 ∷ 2 ∷ []) given words_there 5 refl ∙ sym (call_comes c regs y1 6 number (0 ∷ 3 ∷ 1 ∷ 2 ∷ []) given words_there))
              ∙ sym (step_then c (call 6 number (0 ∷ 3 ∷ 1 ∷ 2 ∷ [])) (return_word 6 ∷ []) regs y1);
        })).same)
        (returned setting k n 0 m 6 number (0 ∷ 3 ∷ 1 ∷ 2 ∷ []) given [] rs valid w around z y1 regs (entered cs q) words_there (omega arith) h1.call.things
        (calls_recounted setting {c1 = entry_credit (length vs)} {m1 = n} z (z.state.units + 1) z.state.units (omega arith) (omega (arith, over))
        (entries n number extra q (omega (arith, few)) rs valid generic_words (signal (context_at setting k)) cs None vs word 0 address w around z (mid_charged 64 y1) is_one fits as_extra
        (record {
          call = h2.call;
          enough = omega arith;
          site = h2.site;
          arguments = inl h2.lent;
          takes_so_many = taken;
          function_word = held;
          method = (length vs, address, refl, refl, refl);
          method_arguments = λ m e. absurd (cc e);
        }))))
      where
        regs : Registers
        regs = file (Some 0) r4 (Some number) r6 r7 r8

        y1 : MidState
        y1 = mid_charged 6 y

        h1 : Here y1
        h1 = here_cost 6 h

        h2 : Here (mid_charged 64 y1)
        h2 = here_cost 64 h1

        given : List ℕ
        given = word ∷ 0 ∷ length vs ∷ address ∷ []

        words_there : WordsIn regs (0 ∷ 3 ∷ 1 ∷ 2 ∷ []) given
        words_there = (refl, (refl, (refl, (refl, tt))))

    -- a wrong number of arguments
    wrong_comes : takes req more_taken (length vs) ≡ false → (r3 r4 r5 r6 r7 r8 : Option ℕ) (y : MidState) → Here y
        → Comes (fail + 146) y (entered cs q) (exec c (code_of (wrong_number setting.at 6)) (file r3 r4 r5 r6 r7 r8) y)
    wrong_comes none r3 r4 r5 r6 r7 r8 y h =
        subst (λ o. Comes (fail + 146) y (entered cs q) o) (sym (step_then c (call 6 (level_routine setting.at) []) (signals_steps setting.at 6 program_error_class) (file r3 r4 r5 r6 r7 r8) y))
        (judged_over setting placed k n m 6 (fail + 66) (fail + 146) rs valid w around z y (file r3 r4 r5 r6 r7 r8) meant
        (λ g x. exec c (code_of (signals_steps setting.at 6 program_error_class)) g x) (fewer_begins level_words (omega arith) h.call) (omega arith)
        (subst (λ (r : FlatEvaluated). FlatGrown z r.state) (sym (wrong_is z)) (grown_later (signal_later setting k program_error_class [] around z)))
        (λ g x. steps_grown setting k n (signals_steps setting.at 6 program_error_class) g x)
        (λ some level y' world back site.
        subst (λ r. CallEnds setting (fail + 66) m rs valid w around z y' r (exec c (code_of (signals_steps setting.at 6 program_error_class)) (file r3 r4 r5 (Some level) r7 r8) y')) (sym (wrong_is z))
        (fails_comes r3 r4 r5 (Some level) r7 r8 y' (here_then world back (site h.site) h))))
      where
        meant : FlatState → FlatEvaluated
        meant x = enter (context_at setting k) (signal (context_at setting k)) q cs None vs around x

        wrong_is : (x : FlatState) → meant x ≡ signal (context_at setting k) program_error_class [] around x
        wrong_is x = second_of _ _ none

    -- ---- whether so many are taken

    abbrev wrong : Steps
    wrong = wrong_number setting.at 6

    abbrev test_steps : Steps
    test_steps = if_equal 7 6 (where_so LessUnsigned 1 8 wrong [] ∷ []) (where_so Different 1 8 wrong [] ∷ []) ∷ []

    module _ (r4 : Option ℕ) (odd_word : ℕ) where
      abbrev told : Registers
      told = file (Some arity) r4 (Some number) (Some 1) (Some odd_word) (Some req)

      tested_comes : (t : Bool) → is_some q.rest ≡ t → (odd_word == 1) ≡ t → (b : Bool) → takes req t (length vs) ≡ b → (y : MidState) → Here y
          → Comes (fail + 170) y (entered cs q) (exec c (code_of (test_steps ++ last_steps)) told y)
      tested_comes true rest odd true taken y h =
          straight setting k n m rs valid w around z (entered cs q) 28 84 (omega arith) h.call.things
          ((and_then (choose_first_falls refl refl odd (and_then (choose_second_falls refl refl (some_more req (length vs) taken) none_left) none_left)) (record { same = refl })).same
          ∙ ap (λ x. exec c (code_of last_steps) told (record y { cost = x })) (omega arith))
          (entry_comes (ap (λ t. takes req t (length vs)) rest ∙ taken) (Some arity) r4 (Some 1) (Some odd_word) (Some req) (mid_charged 28 y) (here_cost 28 h))
      tested_comes false rest odd true taken y h =
          straight setting k n m rs valid w around z (entered cs q) 28 84 (omega arith) h.call.things
          ((and_then (choose_second_falls refl refl odd (and_then (choose_second_falls refl refl (so_many req (length vs) taken) none_left) none_left)) (record { same = refl })).same
          ∙ ap (λ x. exec c (code_of last_steps) told (record y { cost = x })) (omega arith))
          (entry_comes (ap (λ t. takes req t (length vs)) rest ∙ taken) (Some arity) r4 (Some 1) (Some odd_word) (Some req) (mid_charged 28 y) (here_cost 28 h))
      tested_comes true rest odd false taken y h =
          first_branch setting k n m rs valid w around z (entered cs q) (fail + 158) (test_of Equal 7 6) (where_so LessUnsigned 1 8 wrong [] ∷ []) (where_so Different 1 8 wrong [] ∷ []) last_steps told y (omega arith)
          h.call.things refl refl odd
          (first_branch setting k n m rs valid w around z (entered cs q) (fail + 146) (test_of LessUnsigned 1 8) wrong [] [] told (mid_charged 12 y) (omega arith) (here_cost 12 h).call.things refl refl
          (too_few req (length vs) taken)
          (wrong_comes (ap (λ t. takes req t (length vs)) rest ∙ taken) (Some arity) r4 (Some number) (Some 1) (Some odd_word) (Some req) (mid_charged 12 (mid_charged 12 y)) (here_cost 12 (here_cost 12 h))))
      tested_comes false rest odd false taken y h =
          second_branch setting k n m rs valid w around z (entered cs q) (fail + 158) (test_of Equal 7 6) (where_so LessUnsigned 1 8 wrong [] ∷ []) (where_so Different 1 8 wrong [] ∷ []) last_steps told y (omega arith)
          h.call.things refl refl odd
          (first_branch setting k n m rs valid w around z (entered cs q) (fail + 146) (test_of Different 1 8) wrong [] [] told (mid_charged 12 y) (omega arith) (here_cost 12 h).call.things refl refl
          (others_many req (length vs) taken)
          (wrong_comes (ap (λ t. takes req t (length vs)) rest ∙ taken) (Some arity) r4 (Some number) (Some 1) (Some odd_word) (Some req) (mid_charged 12 (mid_charged 12 y)) (here_cost 12 (here_cost 12 h))))

    -- **the function is entered**, or that is an error
    function_comes :
        ArityStands setting number q → (r3 r4 r5 r6 r7 r8 : Option ℕ) (y : MidState) → Here y → word_at y.arena (word + 2) ≡ Some number → word + 2 < 2 ^ 32
        → Comes (fail + 244) y (entered cs q) (exec c (code_of function_steps) (file r3 r4 r5 r6 r7 r8) y)
    function_comes stands r3 r4 r5 r6 r7 r8 y h number_there low =
        let there = constants_law setting w z y h.call.things (setting.at.arities + 4 * number) arity stands in
        let below = there.1 in
        let sum : 4 * number + setting.at.arities < 2 ^ 32 = omega (arith, below) in
        straight setting k n m rs valid w around z (entered cs q) 74 (fail + 170) (omega arith) h.call.things
        ((and_then (load_falls refl (address_above word 2 (word + 2) (omega arith) low) number_there)
        (and_then constant_falls
        (and_then (compute_known refl refl (four_times_count number (omega (arith, below))))
        (and_then constant_falls
        (and_then (compute_known refl refl (sum_fits (4 * number) setting.at.arities sum))
        (and_then (load_falls refl (address_above (4 * number + setting.at.arities) 0 (setting.at.arities + 4 * number) (omega arith) (omega (arith, below))) there.0)
        (and_then constant_falls
        (and_then (compute_known refl refl (and_mask arity 1))
        (and_then (compute_known refl refl (half_is req more_taken))
        (record { same = refl })))))))))).same
        ∙ ap (λ x. exec c (code_of (test_steps ++ last_steps)) (told (Some setting.at.arities) (arity % 2)) (record y { cost = x })) (omega arith))
        (tested_comes (Some setting.at.arities) (arity % 2) more_taken refl (odd_tells req more_taken) (takes req more_taken (length vs)) refl (mid_charged 74 y) (here_cost 74 h))

  -- ---- a generic function

  abbrev generic_steps : Steps
  generic_steps = generic_into setting.at 3 4 0 ++ returning setting.at 6 (generic_routine setting.at) (3 ∷ 1 ∷ 2 ∷ [])

  generic_comes :
      (g : ℕ) (row : GenericRow) (start : ℕ) → ConstantAt setting (setting.at.generics + 4 * g) start → GenericAt setting start row → HasSymbol setting row.name.0
      → (r3 r4 r5 r6 r7 r8 : Option ℕ) (y : MidState) → Here y → word_at y.arena (word + 2) ≡ Some (4 * g) → word + 2 < 2 ^ 32
      → Comes (generic_credit (length vs) + 104) y (apply_generic_row (context_at setting k) (signal (context_at setting k)) (Some row) vs around z) (exec c (code_of generic_steps) (file r3 r4 r5 r6 r7 r8) y)
  generic_comes g row start at stands named r3 r4 r5 r6 r7 r8 y h there low =
      let here = constants_law setting w z y h.call.things (setting.at.generics + 4 * g) start at in
      let below = here.1 in
      let sum : setting.at.generics + 4 * g < 2 ^ 32 = omega (arith, below) in
      straight setting k n m rs valid w around z meant 32 (generic_credit (length vs) + 58 + 14) (omega arith) h.call.things
      ((and_then (load_falls refl (address_above word 2 (word + 2) (omega arith) low) there)
      (and_then constant_falls
      (and_then (compute_known refl refl (sum_fits (4 * g) setting.at.generics (omega (arith, below))))
      (and_then (load_falls refl (address_above (4 * g + setting.at.generics) 0 (setting.at.generics + 4 * g) (omega arith) sum) here.0)
      (record { same = refl }))))).same
      ∙ ap (λ x. exec c (code_of (returning setting.at 6 (generic_routine setting.at) (3 ∷ 1 ∷ 2 ∷ []))) regs (record y { cost = x })) (omega arith))
      (returned setting k n (generic_credit (length vs)) m 6 (generic_routine setting.at) (3 ∷ 1 ∷ 2 ∷ []) (start ∷ length vs ∷ address ∷ []) [] rs valid w around z (mid_charged 32 y) regs meant
      (refl, (refl, (refl, tt))) (omega arith) (here_cost 32 h).call.things
      (generics_law setting k n (suc spare) rs valid w around z (mid_charged 58 (mid_charged 32 y)) placed few (omega (arith, over)) chains conditions row vs start address stands named (here_cost 58 (here_cost 32 h)).lent (here_cost 58 (here_cost 32 h)).site
      (here_cost 58 (here_cost 32 h)).call))
    where
      regs : Registers
      regs = file (Some start) (Some setting.at.generics) r5 r6 r7 r8

      meant : FlatEvaluated
      meant = apply_generic_row (context_at setting k) (signal (context_at setting k)) (Some row) vs around z

  -- ---- by the tag and the header

  abbrev rest_steps : Steps
  rest_steps = signals_domain setting.at 0 3 function_class

  abbrev generic_test : Steps
  generic_test = constant 4 generic_header ∷ if_equal 3 4 generic_steps [] ∷ []

  abbrev header_steps : Steps
  header_steps = load_header 3 0 ∷ constant 4 function_header ∷ if_equal 3 4 function_steps generic_test ∷ []

  abbrev begun : Registers
  begun = file None None None None None None

  abbrev meant : FlatEvaluated
  meant = apply_value (context_at setting k) (signal (context_at setting k)) f vs around z

  small : {y : MidState} → Here y → word < 2 ^ 32
  small {y} h = word_told setting.names (tables setting.program) w.places z.state y h.call.things.represents f word is

  -- where the tag is that of an object, up to its header
  tag_comes :
      (credit total header : ℕ) (y : MidState) → credit + 48 ≤ total → Here y → (word % 4 == object_tag) ≡ true → word_at y.arena (word - 2) ≡ Some header
      → Comes credit (mid_charged 48 y) meant (exec c (code_of (if_equal 3 4 function_steps generic_test ∷ [])) (file (Some header) (Some function_header) None None None None) (mid_charged 48 y))
      → Comes total y meant (exec c (code_of (function_code setting.at)) begun y)
  unfolding function_code
  tag_comes credit total header y enough h tag there e =
      let high : 2 ≤ word = grind (arith, nat_tests, tag) in
      let start : word ≡ (word - 2) + suc 1 = omega (arith, high) in
      let limit = small h in
      straight setting k n m rs valid w around z meant 22 (credit + 26) (omega (arith, enough)) h.call.things
      ((and_then constant_falls (and_then (compute_known refl refl (and_mask word 2)) (and_then constant_falls (record { same = refl })))).same
      ∙ ap (λ x. exec c (code_of (if_equal 3 4 header_steps [] ∷ rest_steps)) (file (Some (word % 4)) (Some object_tag) None None None None) (record y { cost = x })) (omega arith))
      (first_branch setting k n m rs valid w around z meant (credit + 14) (test_of Equal 3 4) header_steps [] rest_steps (file (Some (word % 4)) (Some object_tag) None None None None) (mid_charged 22 y) (omega arith)
      (here_cost 22 h).call.things refl refl tag
      (straight setting k n m rs valid w around z meant 14 credit (omega arith) (here_cost 12 (here_cost 22 h)).call.things
      ((and_then (load_falls refl (address_below word 1 (word - 2) start limit) there) (and_then constant_falls (record { same = refl }))).same
      ∙ ap (λ x. exec c (code_of (if_equal 3 4 function_steps generic_test ∷ [])) (file (Some header) (Some function_header) None None None None) (record y { cost = x })) (omega arith))
      (subst (λ x. Comes credit (record y { cost = x }) meant (exec c (code_of (if_equal 3 4 function_steps generic_test ∷ [])) (file (Some header) (Some function_header) None None None None) (record y { cost = x })))
      (omega arith) e)))

  function_path :
      (number : ℕ) (extra : Extra) (q : FlatProcedure) (cs : List Captured) → IsFunction setting number extra q → CapturedFits setting w number extra q cs → SelfHeld w z.captured (Some word) cs
      → CalledFits setting extra None → ArityStands setting number q → meant ≡ entered cs q → (y : MidState) → Here y → (word % 4 == object_tag) ≡ true → word_at y.arena (word - 2) ≡ Some function_header
      → word_at y.arena (word + 2) ≡ Some number → word + 2 < 2 ^ 32 → Comes (fail + 304) y meant (exec c (code_of (function_code setting.at)) begun y)
  function_path number extra q cs is_one fits held as_extra arity same y h tag header there low =
      tag_comes (fail + 256) (fail + 304) function_header y (omega arith) h tag header
      (first_branch setting k n m rs valid w around z meant (fail + 244) (test_of Equal 3 4) function_steps generic_test [] (file (Some function_header) (Some function_header) None None None None) (mid_charged 48 y) (omega arith)
      (here_cost 48 h).call.things refl refl refl
      (subst (λ r. Comes (fail + 244) (mid_charged 12 (mid_charged 48 y)) r (exec c (code_of function_steps) (file (Some function_header) (Some function_header) None None None None) (mid_charged 12 (mid_charged 48 y)))) (sym same)
      (function_comes number extra q cs is_one fits held as_extra arity (Some function_header) (Some function_header) None None None None (mid_charged 12 (mid_charged 48 y)) (here_cost 12 (here_cost 48 h)) there low)))

  generic_path :
      (g : ℕ) (row : GenericRow) (start : ℕ) → ConstantAt setting (setting.at.generics + 4 * g) start → GenericAt setting start row → HasSymbol setting row.name.0
      → meant ≡ apply_generic_row (context_at setting k) (signal (context_at setting k)) (Some row) vs around z → (y : MidState) → Here y → (word % 4 == object_tag) ≡ true
      → word_at y.arena (word - 2) ≡ Some generic_header → word_at y.arena (word + 2) ≡ Some (4 * g) → word + 2 < 2 ^ 32
      → Comes (generic_credit (length vs) + 182) y meant (exec c (code_of (function_code setting.at)) begun y)
  generic_path g row start at stands named same y h tag header there low =
      let regs : Registers = file (Some generic_header) (Some function_header) None None None None in
      let regs' : Registers = file (Some generic_header) (Some generic_header) None None None None in
      let y1 : MidState = mid_charged 12 (mid_charged 48 y) in
      let h1 : Here y1 = here_cost 12 (here_cost 48 h) in
      let y2 : MidState = mid_charged 12 (mid_charged 6 y1) in
      let h2 : Here y2 = here_cost 12 (here_cost 6 h1) in
      tag_comes (generic_credit (length vs) + 134) (generic_credit (length vs) + 182) generic_header y (omega arith) h tag header
      (second_branch setting k n m rs valid w around z meant (generic_credit (length vs) + 122) (test_of Equal 3 4) function_steps generic_test [] regs (mid_charged 48 y) (omega arith)
      (here_cost 48 h).call.things refl refl refl
      (straight setting k n m rs valid w around z meant 6 (generic_credit (length vs) + 116) (omega arith) h1.call.things
      ((and_then constant_falls (record { same = refl })).same)
      (first_branch setting k n m rs valid w around z meant (generic_credit (length vs) + 104) (test_of Equal 3 4) generic_steps [] [] regs' (mid_charged 6 y1) (omega arith) (here_cost 6 h1).call.things refl refl refl
      (subst (λ r. Comes (generic_credit (length vs) + 104) y2 r (exec c (code_of generic_steps) regs' y2)) (sym same)
      (generic_comes g row start at stands named (Some generic_header) (Some generic_header) None None None None y2 h2 there low)))))

  -- what is no function, by its tag or by its header
  abbrev is_kind : ℕ → Bool
  is_kind h = h == function_header || h == generic_header

  other_header : (header : ℕ) (y : MidState) → Here y → (word % 4 == object_tag) ≡ true → word_at y.arena (word - 2) ≡ Some header → is_kind header ≡ false
      → Comes (fail + 156) y wrong_kind (exec c (code_of (function_code setting.at)) begun y)
  unfolding function_code
  other_header header y h tag there kind = by (header == function_header) refl kind
    where
      high : 2 ≤ word
      high = grind (arith, nat_tests, tag)

      start : word ≡ (word - 2) + suc 1
      start = omega (arith, high)

      by : (b : Bool) → (header == function_header) ≡ b → (b || header == generic_header) ≡ false → Comes (fail + 156) y wrong_kind (exec c (code_of (function_code setting.at)) begun y)
      by true e g = absurd (cc g)
      by false e g =
          straight setting k n m rs valid w around z wrong_kind 84 (fail + 72) (omega arith) h.call.things
          ((and_then constant_falls
          (and_then (compute_known refl refl (and_mask word 2))
          (and_then constant_falls
          (and_then
          (choose_first_falls refl refl tag
          (and_then (load_falls refl (address_below word 1 (word - 2) start (small h)) there)
          (and_then constant_falls
          (and_then (choose_second_falls refl refl e (and_then constant_falls (and_then (choose_second_falls refl refl g none_left) none_left))) none_left))))
          (record { same = refl }))))).same
          ∙ ap (λ x. exec c (code_of rest_steps) (file (Some header) (Some generic_header) None None None None) (record y { cost = x })) (omega arith))
          (domain_comes (Some header) (Some generic_header) None None None None (mid_charged 84 y) (here_cost 84 h))

  other_tag : (y : MidState) → Here y → (word % 4 == object_tag) ≡ false → Comes (fail + 156) y wrong_kind (exec c (code_of (function_code setting.at)) begun y)
  unfolding function_code
  other_tag y h tag =
      straight setting k n m rs valid w around z wrong_kind 36 (fail + 72) (omega arith) h.call.things
      ((and_then constant_falls
      (and_then (compute_known refl refl (and_mask word 2))
      (and_then constant_falls
      (and_then (choose_second_falls refl refl tag none_left)
      (record { same = refl }))))).same
      ∙ ap (λ x. exec c (code_of rest_steps) (file (Some (word % 4)) (Some object_tag) None None None None) (record y { cost = x })) (omega arith))
      (domain_comes (Some (word % 4)) (Some object_tag) None None None None (mid_charged 36 y) (here_cost 36 h))

  other_comes : is_function (fetch z.state f) ≡ false → meant ≡ wrong_kind → (y : MidState) → Here y → Comes (fail + 156) y meant (exec c (code_of (function_code setting.at)) begun y)
  other_comes none same y h =
      subst (λ r. Comes (fail + 156) y r (exec c (code_of (function_code setting.at)) begun y)) (sym same)
      (by (header_decides setting.names (tables setting.program) w.places z.state y h.call.things.represents is_function is_kind function_kind f word is))
    where
      by : ByHeader y.arena word is_kind (is_function (fetch z.state f)) → Comes (fail + 156) y wrong_kind (exec c (code_of (function_code setting.at)) begun y)
      by (of_kind header some tag at kind) = absurd (cc (none, some))
      by (of_other_kind header other tag at kind) = other_header header y h tag at kind
      by (of_other_tag other tag) = other_tag y h tag

  -- ---- by what the value is

  abbrev applied : Option Object → Option (List Captured) → FlatEvaluated
  applied o captured = apply_object (context_at setting k) (signal (context_at setting k)) o captured f vs around z

  self_is :
      (number : ℕ) (y : MidState) (h : Here y) (o : Object) (it : ObjectFound setting.names (tables setting.program) w.places z.state y h.call.things.represents f word o) → word ≡ it.spot.address + object_tag
      → (cs : List Captured) → under it.number z.captured ≡ Some cs → SelfHeld w z.captured (Some word) cs
  self_is number y h o it here [] e = tt
  self_is number y h o it here (c ∷ cs) e = (word, refl, record { number = it.number; captured = e; spot = it.spot; there = it.found; here = here })

  defined_fits : (b : Bool) (p : ℕ) (q : FlatProcedure) → CapturedFits setting w p (if b then its_method else nothing) q []
  defined_fits true p q = refl
  defined_fits false p q = refl

  defined_called : (b : Bool) → CalledFits setting (if b then its_method else nothing) None
  defined_called true = tt
  defined_called false = refl

  function_found : (p : ℕ) → fetch z.state f ≡ Some (function p) → (y : MidState) → Here y → Comes (fail + 304) y meant (exec c (code_of (function_code setting.at)) begun y)
  function_found p e y h = by (under it.number z.captured) refl (h.call.things.functions it.number p it.spot it.stored it.found)
    where
      it : ObjectFound setting.names (tables setting.program) w.places z.state y h.call.things.represents f word (function p)
      it = object_found setting.names (tables setting.program) w.places z.state y h.call.things.represents f word (function p) is e

      captured_is : captured_by f z ≡ under it.number z.captured
      captured_is = ap (λ v. captured_by v z) it.value

      tag_is : (word % 4 == object_tag) ≡ true
      tag_is = let here = it.word in let aligned = it.spot_stands.aligned in eq-eqb (word % 4) object_tag (omega (arith, here, aligned))

      header_is : word_at y.arena (word - 2) ≡ Some function_header
      header_is = let here = it.word in let same : word - 2 ≡ it.spot.address = omega (arith, here) in ap (word_at y.arena) same ∙ it.stands.header

      behind : word + 2 ≡ it.spot.address + 4
      behind = let here = it.word in omega (arith, here)

      low : word + 2 < 2 ^ 32
      low = let here = behind in let many = it.stands.words in let below = spot_low h.call.things.represents.arena it.spot_stands in omega (arith, here, many, below)

      by : (o : Option (List Captured)) → under it.number z.captured ≡ o → FunctionStands setting w y.arena it.spot p o → Comes (fail + 304) y meant (exec c (code_of (function_code setting.at)) begun y)
      by None same d =
          function_path p (extra_of setting.names setting.at setting.program p) d.row [] (inl (d.there, refl)) (defined_fits (is_method setting.program p) p d.row) tt
          (defined_called (is_method setting.program p)) (placed.procedure_arities p d.row d.there)
          (ap (λ o. applied o (captured_by f z)) e ∙ ap (λ o. applied (Some (function p)) o) (captured_is ∙ same)
          ∙ ap (λ o. descend (below_at setting k) (λ x. with_some o (λ a y. gives nil y) (λ q. enter (context_at setting k) (signal (context_at setting k)) q [] None vs) around x) around z) d.there)
          y h tag_is header_is (ap (word_at y.arena) behind ∙ d.number) low
      by (Some cs) same d =
          function_path (entry_of_lambda setting.at p) itself d.row cs (inr (p, d.there, refl, refl)) (
            d.kinds,
            λ p' forms at lead.
                let one : p ≡ p' = omega (arith, at) in
                let same_forms : d.forms ≡ forms = cc (d.lead, ap (λ i. slice_get setting.leads.functions i) one, lead) in
                subst (λ fs. AreMadeBy w cs fs) same_forms d.made_by,
          )
          (self_is p y h (function p) it it.word cs same) refl (placed.lambda_arities p d.row d.there)
          (ap (λ o. applied o (captured_by f z)) e ∙ ap (λ o. applied (Some (function p)) o) (captured_is ∙ same)
          ∙ ap (λ o. descend (below_at setting k) (λ x. with_some o (λ a y. gives nil y) (λ q. enter (context_at setting k) (signal (context_at setting k)) q cs None vs) around x) around z) d.there)
          y h tag_is header_is (ap (word_at y.arena) behind ∙ d.number) low

  generic_found : (g : ℕ) → fetch z.state f ≡ Some (generic_function g) → (y : MidState) → Here y → Comes (generic_credit (length vs) + 182) y meant (exec c (code_of (function_code setting.at)) begun y)
  generic_found g e y h =
      let it = object_found setting.names (tables setting.program) w.places z.state y h.call.things.represents f word (generic_function g) is e in
      let row = h.call.things.generics it.number g it.stored in
      let words = placed.generics g row.0 row.1 in
      let here = it.word in
      let aligned = it.spot_stands.aligned in
      let tag_is : (word % 4 == object_tag) ≡ true = eq-eqb (word % 4) object_tag (omega (arith, here, aligned)) in
      let front : word - 2 ≡ it.spot.address = omega (arith, here) in
      let behind : word + 2 ≡ it.spot.address + 4 = omega (arith, here) in
      let many = it.stands.size.words in
      let below = spot_low h.call.things.represents.arena it.spot_stands in
      generic_path g row.0 words.0 words.1 words.2 (placed.generic_names g row.0 row.1)
      (ap (λ o. applied o (captured_by f z)) e ∙ ap (λ o. apply_generic_row (context_at setting k) (signal (context_at setting k)) o vs around z) row.1)
      y h tag_is (ap (word_at y.arena) front ∙ it.stands.header) (ap (word_at y.arena) behind ∙ it.stands.word) (omega (arith, behind, many, below))

  -- **what the body comes to**
  value_comes : (credit : ℕ) → generic_credit (length vs) + 182 ≤ credit → fail + 304 ≤ credit → (y : MidState) → Here y → Comes credit y meant (exec c (code_of (function_code setting.at)) begun y)
  value_comes credit generic_low low y h = by (fetch z.state f) refl
    where
      code_end : MidOutcome
      code_end = exec c (code_of (function_code setting.at)) begun y

      more : {c1 : ℕ} → c1 ≤ credit → Comes c1 y meant code_end → Comes credit y meant code_end
      more {c1} enough e = calls_recounted setting {c1 = c1} {m1 = m} z z.state.units z.state.units (omega (arith, enough)) (omega arith) e

      none : (o : Option Object) → fetch z.state f ≡ o → is_function o ≡ false → applied o (captured_by f z) ≡ wrong_kind → Comes credit y meant code_end
      none o e other same = more (omega (arith, low)) (other_comes (ap is_function e ∙ other) (ap (λ x. applied x (captured_by f z)) e ∙ same) y h)

      by : (o : Option Object) → fetch z.state f ≡ o → Comes credit y meant code_end
      by None e = none None e refl refl
      by (Some (function p)) e = more low (function_found p e y h)
      by (Some (generic_function g)) e = more generic_low (generic_found g e y h)
      by (Some (closure vs rest body env)) e =
          absurd (object_found setting.names (tables setting.program) w.places z.state y h.call.things.represents f word (closure vs rest body env) is e).stands
      by (Some o) e = none (Some o) e refl refl

abbrev given : Setting → MidProcedure
given setting = framed passing_frame (procedure_with Turn 3 (function_code setting.at))

-- **the application of a value**
pub functions_law : LawOfFunctions
unfolding function_code
functions_law setting k turns spare rs valid w around z y placed few over entries chains conditions f vs word address is lent site begins =
    calls_recounted setting {c1 = inner + entry_cost 3} {m1 = turns + spare} z z.state.units z.state.units (omega arith) (omega arith)
    (turns_law setting k turns (function_routine setting.at) (turns + spare) applying_words generic_words inner (given setting) (word ∷ length vs ∷ address ∷ []) rs valid w around z y meant_here
    ((numbers_law setting).routine 10 (given setting) placed refl) refl refl (omega arith) (omega (arith, over)) grown begins
    (λ n e y' here.
    let same : n + suc spare ≡ turns + spare = omega (arith, e) in
    subst (λ t. CallEnds setting inner t rs valid w around z y' meant_here (exec (code_at setting k n) (code_of (function_code setting.at)) regs y')) same
    (value_comes setting placed k n spare (omega (arith, few, e)) over rs valid around entries chains conditions w z f vs word address is inner (omega arith) (omega arith) y'
    (record {
      call = here.call;
      site = (site.0, here.words site_address ∙ site.1, site.2);
      lent = lent_inside setting here.words here.from lent;
    }))))
  where
    inner : ℕ
    inner = applying_credit (length vs) - 38

    regs : Registers
    regs = Some word ∷ Some (length vs) ∷ Some address ∷ None ∷ None ∷ None ∷ None ∷ None ∷ None ∷ []

    meant_here : FlatEvaluated
    meant_here = apply_value (context_at setting k) (signal (context_at setting k)) f vs around z

    grown : FlatGrown z meant_here.state
    grown =
        grown_later
        (value_applies {R = FlatLater} {k = later_kept} (context_at setting k) (tasks_below setting k) (signal (context_at setting k))
        (signals {R = FlatLater} {k = later_kept} (context_at setting k) (tasks_below setting k)) f vs around z).grows

-- the same as it is claimed
pub function_claims_law : LawOfFunctionClaims
function_claims_law setting k turns rs valid w around z y placed few entries chains conditions f vs word address is lent site begins =
    call_less setting (omega arith) (omega arith) (functions_law setting k turns 0 rs valid w around z y placed (omega (arith, few)) (omega arith) entries chains conditions f vs word address is lent site begins)
