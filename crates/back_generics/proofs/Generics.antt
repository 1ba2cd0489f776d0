-- **The application of a generic function**: the number of arguments is judged, the chain of their classes is sought, and it runs.
use Rattle.std.proofs.Common.{◌≡◌, ◌⊎◌, inl, inr, ℕ, zero, suc, ◌+◌, ◌-◌, ◌*◌, ◌%◌, ◌^◌, ◌<◌, ◌≤◌, Bool, true, false, List, [], ◌∷◌, ◌++◌, length, Option, Some, None, refl, sym, ap, ◌∙◌, subst, arith}
use Rattle.std.specs.Prelude.{◌==◌, map, take, slice_index_or}
use Rattle.std.proofs.lemmas.Bool.{cases_lt, ne_eqb}
use Rattle.std.proofs.lemmas.Bool.Decides.{nat_tests}
use Rattle.std.proofs.lemmas.Nat.{and_mask}
use Rattle.base.specs.AllOf.{AllOf}
use Rattle.lang_meaning.specs.declared.program.GenericRow.{GenericRow}
use Rattle.lang_meaning.specs.declared.program.ProgramRows.{ProgramRows}
use Rattle.lang_meaning.specs.declared.program.Qualifier.TheVariants.{Primary}
use Rattle.lang_meaning.specs.Classes.{class_of, chain_of, of_kind, applicable}
use Rattle.lang_meaning.specs.Classes as classes
use Rattle.lang_meaning.specs.Lookup.{text}
use Rattle.lang_meaning.specs.Objects.{Chain, program_error_class, undefined_function_class}
use Rattle.lang_meaning.specs.Signals.{takes}
use Rattle.lang_meaning.specs.State.{DynamicContext}
use Rattle.lang_meaning.specs.Values.{Value, nil, symbol, named}
use Rattle.flat_language.specs.FlatNodes.{tables}
use Rattle.flat_language.specs.FlatSignals.{signal, apply_chain, apply_generic_row}
use Rattle.flat_language.specs.FlatState.{FlatState, FlatEvaluated}
use Rattle.flat_laws.specs.FlatLater.{FlatLater}
use Rattle.flat_laws.proofs.Applied.{signals, generic_row_applies}
use Rattle.flat_laws.proofs.Later.{later_kept}
use Rattle.mid_code.specs.declared.operation.Arithmetic.TheVariants as which
use Rattle.mid_code.specs.declared.operation.Comparison.TheVariants.{Equal, Different, LessUnsigned}
use Rattle.mid_code.specs.declared.operation.Counted.TheVariants.{Turn}
use Rattle.mid_code.specs.declared.program.MidProcedure.{MidProcedure}
use Rattle.mid_code.specs.Arena.{word_at}
use Rattle.mid_code.specs.Costs.{entry_cost}
use Rattle.mid_code.specs.Meaning.{Context, exec, exec_step}
use Rattle.mid_code.specs.MidCode.{MidStep, code_of}
use Rattle.mid_code.specs.State.{Registers, MidState, MidOutcome}
use Rattle.mid_code.specs.State.{charged as mid_charged, go_on as mid_go_on}
use Rattle.mid_arena.specs.Standing.{ValueAt}
use Rattle.mid_arena.proofs.Running.{and_then, none_left, costing, constant_falls, compute_known, load_falls, choose_first_falls, choose_second_falls, address_above}
use Rattle.mid_arena.proofs.WordFacts.{sum_fits}
use Rattle.back_lowering.specs.ControlWords.{generic_arity, generic_name, generic_specialised, generic_groups, site_address}
use Rattle.back_lowering.specs.Placement.{symbol_word}
use Rattle.back_lowering.specs.Program.{framed, generic_frame, procedure_with}
use Rattle.back_lowering.specs.RoutineCodes.{generic_code, chain_sought, returning}
use Rattle.back_lowering.specs.RoutineCodes.{signals as signals_steps}
use Rattle.back_lowering.specs.Routines.{failing_routine, failing_with_routine, generic_routine, chain_routine}
use Rattle.back_lowering.specs.Steps.{Steps, constant, compute, load, test_of, where_so, if_equal}
use Rattle.back_relation.specs.Setting.{Setting, ConstantsAt}
use Rattle.back_relation.specs.Chains.{arity_word, GenericAt, ChainFound, Specialised, specialised_words, OffsetIs}
use Rattle.back_relation.specs.Room.{generic_words, entry_words, failing_words}
use Rattle.back_relation.specs.Placed.{IsPlaced, HasSymbol}
use Rattle.back_relation.specs.Worlds.{World, Standing}
use Rattle.back_relation.specs.Around.{CallBegins, SiteStored}
use Rattle.back_relation.specs.Ends.{WorldKept, Around, CallEnds, few_turns}
use Rattle.back_relation.specs.Forms.{context_at, code_at}
use Rattle.back_relation.specs.Procedures.{ArgumentsLent}
use Rattle.back_relation.specs.RoutineClaims.{chain_credit, generic_credit}
use Rattle.back_relation.specs.Starts.{FlatGrown}
use Rattle.back_relation.proofs.Growth.{grown_later}
use Rattle.back_relation.proofs.Parts.{step_then}
use Rattle.back_relation.proofs.Straight.{world_cost, around_cost}
use Rattle.back_calling.proofs.Entered.{turns_law}
use Rattle.back_calling.proofs.Growing.{tasks_below}
use Rattle.back_calling.proofs.Inner.{returned}
use Rattle.back_calling.proofs.Numbers.{numbers_law}
use Rattle.back_calling.proofs.Storing.{some_words}
use Rattle.back_calling.proofs.Units.{calls_recounted}
use Rattle.back_values.proofs.Constants.{constants_law}
use Rattle.back_conditions.proofs.ClassNumbers.{class_known}
use Rattle.back_exits.proofs.Points.{point_begins}
use Rattle.back_exits.proofs.Within.{call_less}
use Rattle.back_conditions.specs.Law.{ConditionsDo}
use Rattle.back_conditions.specs.Within.{making_credit}
use Rattle.back_conditions.proofs.Signalling.{word_within}
use Rattle.back_generics.specs.Methods.{EntriesBelow}
use Rattle.back_generics.proofs.Chains.{chains_law}
use Rattle.back_generics.proofs.Given.{lent_inside, lent_then}
use Rattle.back_generics.specs.Generics.{LawOfGenerics, LawOfGenericClaims}
use Rattle.back_generics.proofs.Judging.{odd_tells, half_is, some_more, too_few, so_many, others_many}
use Rattle.back_generics.proofs.Points.{second_of, first_one, fewer_room, steps_grown, straight, first_branch, second_branch}
use Rattle.back_generics.proofs.Sought.{Finding, loop, seeks, many_words}

-- a chain has a primary method
pub some_primary : (program : ProgramRows) (g : GenericRow) (cs : List ℕ) (c : Chain) → classes.chain program g cs ≡ Some c → c.primary ≡ [] → ⊥
some_primary program g cs c e none = by (of_kind Primary (applicable program cs g.methods)) e
  where
    by : (ps : List ℕ) → chain_of (applicable program cs g.methods) ps ≡ Some c → ⊥
    by [] same = absurd (cc same)
    by (p ∷ ps) same = absurd (cc (ap (λ (o : Option Chain). by_primary o) same, none))
      where
        by_primary : Option Chain → List ℕ
        by_primary None = []
        by_primary (Some d) = d.primary

pub taken_many : {X : Type 0} (n : ℕ) (xs : List X) → n ≤ length xs → length (take n xs) ≡ n
taken_many zero [] h = refl
taken_many zero (x ∷ xs) h = refl
taken_many (suc n) [] h = absurd (omega (arith, h))
taken_many (suc n) (x ∷ xs) h = ap (λ m. suc m) (taken_many n xs (omega (arith, h)))

pub mapped_many : {X Y : Type 0} (f : X → Y) (xs : List X) → length (map f xs) ≡ length xs
mapped_many f [] = refl
mapped_many f (x ∷ xs) = ap (λ m. suc m) (mapped_many f xs)

pub all_mapped : {X : Type 0} (f : X → ℕ) (P : ℕ → Type 0) (h : (x : X) → P (f x)) (xs : List X) → AllOf P (map f xs)
all_mapped f P h [] = tt
all_mapped f P h (x ∷ xs) = (h x, all_mapped f P h xs)

pub enough_taken : (required n : ℕ) (rest : Bool) → takes required rest n ≡ true → required ≤ n
enough_taken required n true e = grind (arith, nat_tests)
enough_taken required n false e = grind (arith, nat_tests)

pub all_below : (m n : ℕ) → m ≤ n → (xs : List Specialised) → AllOf (λ (x : Specialised). x.argument < m) xs → AllOf (λ (x : Specialised). x.argument < n) xs
all_below m n h [] a = tt
all_below m n h (x ∷ xs) a = (let first = a.0 in omega (arith, first, h), all_below m n h xs a.1)

-- ---- the words of arguments that are lent are found by their offsets

module _ (setting : Setting) (placed : IsPlaced setting) (k m : ℕ) (rs valid : List Standing) (w : World) (around : DynamicContext) (z : FlatState) (vs : List Value) (generic address : ℕ) where
  -- what is known at each point
  record Point (y : MidState) : Type 0 where
    pub call : CallBegins setting rs valid entry_words w around z y
    pub site : SiteStored setting around y
    pub lent : ArgumentsLent setting w y.arena address vs

  point_then : {credit : ℕ} {y y' : MidState} → WorldKept setting w w z z y y' → Around setting credit z z y y' → SiteStored setting around y' → Point y → Point y'
  point_then kept back site h = record { call = point_begins setting kept back h.call; site = site; lent = lent_then setting kept back h.lent }

  point_cost : {y : MidState} (p : ℕ) → Point y → Point (mid_charged p y)
  point_cost {y} p h = point_then {credit = p} (world_cost setting p h.call.things) (around_cost setting z y p (omega arith)) h.site h

  abbrev argument : Steps
  argument = compute 7 which.Add 7 2 ∷ load 7 7 0 ∷ []

  abbrev nothing_spent : ℕ → ℕ
  nothing_spent i = 0

  abbrev NoOthers : ℕ → Registers → Type 0
  NoOthers place others = others ≡ []

  finding : Finding setting placed k m rs valid w around z vs (Some generic) (Some (length vs)) (Some address) argument nothing_spent 0 Point NoOthers
  finding = record {
    call = λ y h. h.call;
    site = λ y h. h.site;
    later = λ credit y y' kept back site h. point_then kept back site h;
    spent_up = λ i j up. omega arith;
    finds = λ t i from count a total r8 others y h none low few enough.
        let here : ValueAt w.places y.arena (address + 4 * i) (slice_index_or vs i nil) = h.lent.values i few in
        let below = word_within y.arena (address + 4 * i) here.word here.stands in
        let size = h.call.things.represents.arena.size in
        record {
          word = here.word;
          of_value = here.of_value;
          r8_then = r8;
          others_then = others;
          at = none;
          cost = 18;
          within = omega arith;
          runs =
              costing {n = y.cost + 18}
              (and_then (compute_known refl refl (sum_fits (4 * i) address (omega (arith, below, size))))
              (and_then (load_falls refl (address_above (4 * i + address) 0 (address + 4 * i) (omega arith) (omega (arith, below, size))) here.stands) none_left))
              (omega arith);
        };
  }

module _ (setting : Setting) (placed : IsPlaced setting) (k n spare : ℕ) (few : n + suc spare ≤ suc setting.turns_each) (over : spare ≤ 15) (rs valid : List Standing) (around : DynamicContext)
    (chains : EntriesBelow setting k) (conditions : ConditionsDo setting k (suc spare) around) (w : World) (z : FlatState) (g : GenericRow) (vs : List Value) (generic address : ℕ)
    (at : GenericAt setting generic g) (named_so : HasSymbol setting g.name.0) (many_turns : length at.specialised ≤ n) where
  -- what is paid for a condition
  abbrev fail : ℕ
  fail = making_credit

  abbrev c : Context
  c = code_at setting k n

  abbrev m : ℕ
  m = n + suc spare

  abbrev meant : FlatEvaluated
  meant = apply_generic_row (context_at setting k) (signal (context_at setting k)) (Some g) vs around z

  meant_grows : FlatGrown z meant.state
  meant_grows =
      grown_later
      (generic_row_applies {R = FlatLater} {k = later_kept} (context_at setting k) (tasks_below setting k) (signal (context_at setting k))
      (signals {R = FlatLater} {k = later_kept} (context_at setting k) (tasks_below setting k)) (Some g) vs around z).grows

  abbrev Here : MidState → Type 0
  Here y = Point setting placed k m rs valid w around z vs generic address y

  here_cost : {y : MidState} (p : ℕ) → Here y → Here (mid_charged p y)
  here_cost {y} p h = point_cost setting placed k m rs valid w around z vs generic address {y = y} p h

  fewer_begins : {y : MidState} (words_here : ℕ) → words_here ≤ entry_words → CallBegins setting rs valid entry_words w around z y → CallBegins setting rs valid words_here w around z y
  fewer_begins {y} words_here enough b = record { things = b.things; around_stands = b.around_stands; room = fewer_room setting.limit _ _ z y (omega (arith, enough)) b.room }

  abbrev Comes : ℕ → MidState → MidOutcome → Type 0
  Comes credit y q = CallEnds setting credit m rs valid w around z y meant q

  abbrev file : (r3 r4 r5 r6 r7 r8 : Option ℕ) → Registers
  file r3 r4 r5 r6 r7 r8 = Some generic ∷ Some (length vs) ∷ Some address ∷ r3 ∷ r4 ∷ r5 ∷ r6 ∷ r7 ∷ r8 ∷ []

  abbrev arity : ℕ
  arity = arity_word g.required g.rest

  abbrev many : ℕ
  many = length at.specialised

  abbrev class_list : List ℕ
  class_list = map (class_of z.state) (take g.required vs)

  -- ---- a wrong number of arguments

  fails_comes : takes g.required g.rest (length vs) ≡ false → (r3 r4 r5 r6 r7 r8 : Option ℕ) (y : MidState) → Here y
      → Comes (fail + 66) y (exec c (code_of (signals_steps setting.at 4 program_error_class)) (file r3 r4 r5 r6 r7 r8) y)
  fails_comes none r3 r4 r5 r6 r7 r8 y h =
      subst (λ r. CallEnds setting (fail + 66) m rs valid w around z y r (exec c (code_of (signals_steps setting.at 4 program_error_class)) (file r3 r4 r5 r6 r7 r8) y)) (sym wrong_is)
      (straight setting k n m rs valid w around z wrong_many 6 (fail + 46 + 14) (omega arith) h.call.things
      ((and_then constant_falls (record { same = refl })).same)
      (returned setting k n fail m 4 (failing_routine setting.at) (4 ∷ []) (program_error_class ∷ []) [] rs valid w around z (mid_charged 6 y) (file r3 (Some program_error_class) r5 r6 r7 r8)
      wrong_many (refl, tt) (omega arith) (here_cost 6 h).call.things
      ((conditions n rs valid w z (mid_charged 46 (mid_charged 6 y)) (omega (arith, few))).class_alone program_error_class (record { low = omega arith; high = omega arith; slots = refl })
      (here_cost 46 (here_cost 6 h)).site (fewer_begins failing_words (omega arith) (here_cost 46 (here_cost 6 h)).call))))
    where
      wrong_many : FlatEvaluated
      wrong_many = signal (context_at setting k) program_error_class [] around z

      wrong_is : meant ≡ wrong_many
      wrong_is = second_of _ _ none

  -- ---- the chain, or none

  abbrev chain_steps : Steps
  chain_steps = returning setting.at 7 (chain_routine setting.at) (4 ∷ 1 ∷ 2 ∷ [])

  abbrev undefined_steps : Steps
  undefined_steps = load 7 0 generic_name ∷ constant 8 undefined_function_class ∷ returning setting.at 7 (failing_with_routine setting.at) (8 ∷ 7 ∷ [])

  abbrev found_steps : Steps
  found_steps = compute 4 which.Add 4 5 ∷ load 4 4 0 ∷ if_equal 4 6 undefined_steps [] ∷ chain_steps

  found_comes :
      (o : Option Chain) → classes.chain (tables setting.program) g class_list ≡ o → takes g.required g.rest (length vs) ≡ true → (a offset credit : ℕ) → ChainFound setting g (a + offset) o
      → chain_credit + 104 ≤ credit → (r7 r8 : Option ℕ) (y : MidState) → Here y
      → Comes credit y (exec c (code_of found_steps) (file (Some 0) (Some a) (Some offset) (Some 0) r7 r8) y)
  found_comes None none taken a offset credit found low r7 r8 y h =
      let there = constants_law setting w z y h.call.things (a + offset) 0 found in
      let small = there.1 in
      let name = constants_law setting w z y h.call.things (generic + generic_name) (symbol_word setting.at g.name.0) at.name in
      let name_low = name.1 in
      let y1 : MidState = mid_charged 12 (mid_charged 18 y) in
      let h1 : Here y1 = here_cost 12 (here_cost 18 h) in
      let y2 : MidState = mid_charged 14 y1 in
      let h2 : Here y2 = here_cost 14 h1 in
      let regs : Registers = file (Some 0) (Some 0) (Some offset) (Some 0) r7 r8 in
      let regs2 : Registers = file (Some 0) (Some 0) (Some offset) (Some 0) (Some (symbol_word setting.at g.name.0)) (Some undefined_function_class) in
      let unknown : FlatEvaluated = signal (context_at setting k) undefined_function_class (symbol (named (text setting.names g.name.0)) ∷ []) around z in
      let unknown_is : meant ≡ unknown =
      first_one _ _ taken ∙ ap (λ o. apply_chain (context_at setting k) (signal (context_at setting k)) g o vs around z) none in
      straight setting k n m rs valid w around z meant 18 (fail + 92) (omega (arith, low)) h.call.things
      ((and_then (compute_known refl refl (sum_fits a offset (omega (arith, small))))
      (and_then (load_falls refl (address_above (a + offset) 0 (a + offset) (omega arith) (omega (arith, small))) there.0) (record { same = refl }))).same
      ∙ ap (λ x. exec c (code_of (if_equal 4 6 undefined_steps [] ∷ chain_steps)) regs (record y { cost = x })) (omega arith))
      (first_branch setting k n m rs valid w around z meant (fail + 80) (test_of Equal 4 6) undefined_steps [] chain_steps regs (mid_charged 18 y) (omega arith) (here_cost 18 h).call.things refl refl refl
      (straight setting k n m rs valid w around z meant 14 (fail + 52 + 14) (omega arith) h1.call.things
      ((and_then (load_falls refl (address_above generic generic_name (generic + generic_name) refl (omega (arith, name_low))) name.0) (and_then constant_falls (record { same = refl }))).same
      ∙ ap (λ x. exec c (code_of (returning setting.at 7 (failing_with_routine setting.at) (8 ∷ 7 ∷ []))) regs2 (record y { cost = x })) (omega arith))
      (subst (λ r. CallEnds setting (fail + 52 + 14) m rs valid w around z y2 r (exec c (code_of (returning setting.at 7 (failing_with_routine setting.at) (8 ∷ 7 ∷ []))) regs2 y2)) (sym unknown_is)
      (returned setting k n fail m 7 (failing_with_routine setting.at) (8 ∷ 7 ∷ []) (undefined_function_class ∷ symbol_word setting.at g.name.0 ∷ []) [] rs valid w around z y2 regs2 unknown (refl, (refl, tt))
      (omega arith) h2.call.things
      ((conditions n rs valid w z (mid_charged 52 y2) (omega (arith, few))).with_word undefined_function_class (symbol (named (text setting.names g.name.0))) (symbol_word setting.at g.name.0)
      (h.call.things.symbols g.name.0 named_so) (record { low = omega arith; high = omega arith; slots = refl }) (here_cost 52 h2).site (fewer_begins failing_words (omega arith) (here_cost 52 h2).call))))))
  found_comes (Some d) some taken a offset credit found chain_low r7 r8 y h =
      let start : ℕ = found.0 in
      let there = constants_law setting w z y h.call.things (a + offset) start found.1 in
      let small = there.1 in
      let at_chain = found.2 in
      let low_start = at_chain.some in
      let y1 : MidState = mid_charged 32 y in
      let h1 : Here y1 = here_cost 32 h in
      let regs : Registers = file (Some 0) (Some start) (Some offset) (Some 0) r7 r8 in
      let runs : FlatEvaluated = apply_chain (context_at setting k) (signal (context_at setting k)) g (Some d) vs around z in
      let runs_is : meant ≡ runs = first_one _ _ taken ∙ ap (λ o. apply_chain (context_at setting k) (signal (context_at setting k)) g o vs around z) some in
      straight setting k n m rs valid w around z meant 32 (chain_credit + 58 + 14) (omega (arith, chain_low)) h.call.things
      ((and_then (compute_known refl refl (sum_fits a offset (omega (arith, small))))
      (and_then (load_falls refl (address_above (a + offset) 0 (a + offset) (omega arith) (omega (arith, small))) there.0)
      (and_then (choose_second_falls refl refl (ne_eqb start 0 (λ e. omega (arith, e, low_start))) none_left) (record { same = refl })))).same
      ∙ ap (λ x. exec c (code_of chain_steps) regs (record y { cost = x })) (omega arith))
      (subst (λ r. CallEnds setting (chain_credit + 58 + 14) m rs valid w around z y1 r (exec c (code_of chain_steps) regs y1)) (sym runs_is)
      (returned setting k n (chain_credit) m 7 (chain_routine setting.at) (4 ∷ 1 ∷ 2 ∷ []) (start ∷ length vs ∷ address ∷ []) [] rs valid w around z y1 regs runs (refl, (refl, (refl, tt))) (omega arith)
      h1.call.things
      (chains_law setting k n (suc spare) rs valid w around z (mid_charged 58 y1) placed few chains g d vs start address at_chain (found.3 (length vs) taken)
      (some_primary (tables setting.program) g class_list d some) (here_cost 58 h1).lent (here_cost 58 h1).site (here_cost 58 h1).call)))

  -- ---- it is sought

  abbrev sought_steps : Steps
  sought_steps = chain_sought setting.at (compute 7 which.Add 7 2 ∷ load 7 7 0 ∷ []) ++ chain_steps

  abbrev class_loop : MidStep
  class_loop =
      loop setting placed k m rs valid w around z vs (Some generic) (Some (length vs)) (Some address) (argument setting placed k m rs valid w around z vs generic address)
      (nothing_spent setting placed k m rs valid w around z vs generic address) 0 (Point setting placed k m rs valid w around z vs generic address) (NoOthers setting placed k m rs valid w around z vs generic address)
      (finding setting placed k m rs valid w around z vs generic address) g.required meant meant_grows

  sought_comes :
      takes g.required g.rest (length vs) ≡ true → (credit : ℕ) → chain_credit + 460 * many + 152 ≤ credit → (r3 r4 r5 r6 r7 r8 : Option ℕ) (y : MidState) → Here y
      → Comes credit y (exec c (code_of sought_steps) (file r3 r4 r5 r6 r7 r8) y)
  sought_comes taken credit low r3 r4 r5 r6 r7 r8 y h = walk many_turns
    where
      required_few : g.required ≤ length vs
      required_few = enough_taken g.required (length vs) g.rest taken

      class_many : length class_list ≡ g.required
      class_many = mapped_many (class_of z.state) (take g.required vs) ∙ taken_many g.required vs required_few

      represents_classes : AllOf (λ x. x < length setting.program.classes) class_list
      represents_classes =
          all_mapped (class_of z.state) (λ x. x < length setting.program.classes)
          (λ v. class_known setting.names (tables setting.program) z.state h.call.things.represents.built_in h.call.things.represents.classes v) (take g.required vs)

      chains_at : (offset : ℕ) × OffsetIs setting at.specialised class_list offset
          × ChainFound setting g (generic + generic_groups + 8 * many + offset) (classes.chain (tables setting.program) g class_list)
      chains_at = at.chains class_list class_many represents_classes

      offset : ℕ
      offset = chains_at.0

      found_low : (o : Option Chain) → ChainFound setting g (generic + generic_groups + 8 * many + offset) o → generic + generic_groups + 8 * many + offset + 8 ≤ 2 ^ 32
      found_low None found = (constants_law setting w z y h.call.things (generic + generic_groups + 8 * many + offset) 0 found).1
      found_low (Some d) found = (constants_law setting w z y h.call.things (generic + generic_groups + 8 * many + offset) found.0 found.1).1

      below : generic + generic_groups + 8 * many + offset + 8 ≤ 2 ^ 32
      below = found_low (classes.chain (tables setting.program) g class_list) chains_at.2

      count_there : (word_at y.arena (generic + generic_specialised) ≡ Some many) × (generic + generic_specialised + 8 ≤ 2 ^ 32)
      count_there = constants_law setting w z y h.call.things (generic + generic_specialised) many at.count

      begun : Registers
      begun = file (Some many) (Some (generic + generic_groups)) (Some 0) (Some 0) r7 r8

      walk : many ≤ n → Comes credit y (exec c (code_of sought_steps) (file r3 r4 r5 r6 r7 r8) y)
      walk enough =
          straight setting k n m rs valid w around z meant 36 (credit - 36) (omega (arith, low)) h.call.things
          ((and_then (load_falls refl (address_above generic generic_specialised (generic + generic_specialised) refl (let small = count_there.1 in omega (arith, small))) count_there.0)
          (and_then constant_falls
          (and_then (compute_known refl refl (sum_fits generic_groups generic (omega (arith, below)) ∙ plus_turned))
          (and_then constant_falls
          (and_then constant_falls
          (record { same = step_then c class_loop found_steps begun _ })))))).same
          ∙ ap (λ x. mid_go_on (exec_step c class_loop begun (record y { cost = x })) (λ q s. exec c (code_of found_steps) q s)) (omega arith))
          (seeks setting placed k m rs valid w around z vs (Some generic) (Some (length vs)) (Some address) (argument setting placed k m rs valid w around z vs generic address)
          (nothing_spent setting placed k m rs valid w around z vs generic address) 0 (Point setting placed k m rs valid w around z vs generic address) (NoOthers setting placed k m rs valid w around z vs generic address)
          (finding setting placed k m rs valid w around z vs generic address) g.required meant meant_grows at.specialised n (generic + generic_groups) 0 offset 0 (credit - 36 - 460 * many - 12) (credit - 36) r7 r8 []
          (mid_charged 36 y) (λ q s. exec c (code_of found_steps) q s) (omega (arith, enough)) at.arguments (all_below g.required (length vs) required_few at.specialised at.required) at.in_order (omega arith) refl
          chains_at.1 (omega (arith, below)) (omega (arith, low)) (here_cost 36 h) (λ q s. steps_grown setting k n found_steps q s)
          (λ y' v7 v8 place others none h'.
          subst
          (λ (rs : Registers). Comes (credit - 36 - 460 * many - 12) y'
          (exec c (code_of found_steps) (Some generic ∷ Some (length vs) ∷ Some address ∷ Some 0 ∷ Some (generic + generic_groups + 8 * many) ∷ Some (0 + offset) ∷ Some 0 ∷ v7 ∷ v8 ∷ rs) y')) (sym none)
          (subst (λ o. Comes (credit - 36 - 460 * many - 12) y' (exec c (code_of found_steps) (file (Some 0) (Some (generic + generic_groups + 8 * many)) (Some o) (Some 0) v7 v8) y')) whole_offset
          (found_comes (classes.chain (tables setting.program) g class_list) refl taken (generic + generic_groups + 8 * many) offset (credit - 36 - 460 * many - 12) chains_at.2
          (omega (arith, low)) v7 v8 y' h'))))
        where
          whole_offset : offset ≡ 0 + offset
          whole_offset = omega arith

          plus_turned : generic_groups + generic ≡ generic + generic_groups
          plus_turned = omega arith

  -- ---- whether so many are taken

  abbrev wrong : Steps
  wrong = signals_steps setting.at 4 program_error_class

  abbrev test_steps : Steps
  test_steps = if_equal 5 4 (where_so LessUnsigned 1 6 wrong [] ∷ []) (where_so Different 1 6 wrong [] ∷ []) ∷ []

  module _ (odd_word credit : ℕ) (wrong_low : fail + 90 ≤ credit)
      (paid : takes g.required g.rest (length vs) ≡ true → chain_credit + 460 * many + 180 ≤ credit) where
    abbrev told : Registers
    told = file (Some arity) (Some 1) (Some odd_word) (Some g.required) None None

    goes_on : takes g.required g.rest (length vs) ≡ true → (y : MidState) → Here y → Comes (credit - 28) (mid_charged 28 y) (exec c (code_of sought_steps) told (mid_charged 28 y))
    goes_on taken y h =
        let low = paid taken in sought_comes taken (credit - 28) (omega (arith, low)) (Some arity) (Some 1) (Some odd_word) (Some g.required) None None (mid_charged 28 y) (here_cost 28 h)

    tested_comes : (t : Bool) → g.rest ≡ t → (odd_word == 1) ≡ t → (b : Bool) → takes g.required t (length vs) ≡ b → (y : MidState) → Here y
        → Comes credit y (exec c (code_of (test_steps ++ sought_steps)) told y)
    tested_comes true rest odd true taken y h =
        straight setting k n m rs valid w around z meant 28 (credit - 28) (omega (arith, wrong_low)) h.call.things
        ((and_then (choose_first_falls refl refl odd (and_then (choose_second_falls refl refl (some_more g.required (length vs) taken) none_left) none_left)) (record { same = refl })).same
        ∙ ap (λ x. exec c (code_of sought_steps) told (record y { cost = x })) (omega arith))
        (goes_on (ap (λ t. takes g.required t (length vs)) rest ∙ taken) y h)
    tested_comes false rest odd true taken y h =
        straight setting k n m rs valid w around z meant 28 (credit - 28) (omega (arith, wrong_low)) h.call.things
        ((and_then (choose_second_falls refl refl odd (and_then (choose_second_falls refl refl (so_many g.required (length vs) taken) none_left) none_left)) (record { same = refl })).same
        ∙ ap (λ x. exec c (code_of sought_steps) told (record y { cost = x })) (omega arith))
        (goes_on (ap (λ t. takes g.required t (length vs)) rest ∙ taken) y h)
    tested_comes true rest odd false taken y h =
        first_branch setting k n m rs valid w around z meant (fail + 78) (test_of Equal 5 4) (where_so LessUnsigned 1 6 wrong [] ∷ []) (where_so Different 1 6 wrong [] ∷ []) sought_steps told y (omega (arith, wrong_low))
        h.call.things refl refl odd
        (first_branch setting k n m rs valid w around z meant (fail + 66) (test_of LessUnsigned 1 6) wrong [] [] told (mid_charged 12 y) (omega arith) (here_cost 12 h).call.things refl refl
        (too_few g.required (length vs) taken)
        (fails_comes (ap (λ t. takes g.required t (length vs)) rest ∙ taken) (Some arity) (Some 1) (Some odd_word) (Some g.required) None None (mid_charged 12 (mid_charged 12 y)) (here_cost 12 (here_cost 12 h))))
    tested_comes false rest odd false taken y h =
        second_branch setting k n m rs valid w around z meant (fail + 78) (test_of Equal 5 4) (where_so LessUnsigned 1 6 wrong [] ∷ []) (where_so Different 1 6 wrong [] ∷ []) sought_steps told y (omega (arith, wrong_low))
        h.call.things refl refl odd
        (first_branch setting k n m rs valid w around z meant (fail + 66) (test_of Different 1 6) wrong [] [] told (mid_charged 12 y) (omega arith) (here_cost 12 h).call.things refl refl
        (others_many g.required (length vs) taken)
        (fails_comes (ap (λ t. takes g.required t (length vs)) rest ∙ taken) (Some arity) (Some 1) (Some odd_word) (Some g.required) None None (mid_charged 12 (mid_charged 12 y)) (here_cost 12 (here_cost 12 h))))

  -- **what the body comes to**
  generic_comes :
      (credit : ℕ) → fail + 124 ≤ credit → (takes g.required g.rest (length vs) ≡ true → chain_credit + 460 * many + 214 ≤ credit) → (y : MidState) → Here y
      → Comes credit y (exec c (code_of (generic_code setting.at)) (file None None None None None None) y)
  unfolding generic_code
  generic_comes credit low paid y h =
      let there = constants_law setting w z y h.call.things (generic + generic_arity) arity at.arity in
      let small = there.1 in
      straight setting k n m rs valid w around z meant 34 (credit - 34) (omega (arith, low)) h.call.things
      ((and_then (load_falls refl (address_above generic generic_arity (generic + generic_arity) refl (omega (arith, small))) there.0)
      (and_then constant_falls
      (and_then (compute_known refl refl (and_mask arity 1))
      (and_then (compute_known refl refl (half_is g.required g.rest))
      (record { same = refl }))))).same
      ∙ ap (λ x. exec c (code_of (test_steps ++ sought_steps)) (file (Some arity) (Some 1) (Some (arity % 2)) (Some g.required) None None) (record y { cost = x })) (omega arith))
      (tested_comes (arity % 2) (credit - 34) (omega (arith, low))
      (λ taken. let enough = paid taken in omega (arith, enough)) g.rest refl (odd_tells g.required g.rest) (takes g.required g.rest (length vs)) refl
      (mid_charged 34 y) (here_cost 34 h))

abbrev given : Setting → MidProcedure
given setting = framed generic_frame (procedure_with Turn 3 (generic_code setting.at))

-- **the application of a generic function**
pub generics_law : LawOfGenerics
unfolding generic_code
generics_law setting k turns spare rs valid w around z y placed few over chains conditions g vs generic address at named_so lent site begins =
    calls_recounted setting {c1 = inner + entry_cost 3} {m1 = turns + spare} z z.state.units z.state.units (omega arith) (omega arith)
    (turns_law setting k turns (generic_routine setting.at) (turns + spare) generic_words entry_words inner (given setting) (generic ∷ length vs ∷ address ∷ []) rs valid w around z y meant_here
    ((numbers_law setting).routine 12 (given setting) placed refl) refl refl (omega arith) (omega (arith, over)) grown begins
    (λ n e y' here. inside n e y' (record { call = here.call; site = (site.0, here.words site_address ∙ site.1, site.2); lent = lent_inside setting here.words here.from lent })))
  where
    inner : ℕ
    inner = generic_credit (length vs) - 38

    regs : Registers
    regs = Some generic ∷ Some (length vs) ∷ Some address ∷ None ∷ None ∷ None ∷ None ∷ None ∷ None ∷ []

    meant_here : FlatEvaluated
    meant_here = apply_generic_row (context_at setting k) (signal (context_at setting k)) (Some g) vs around z

    grown : FlatGrown z meant_here.state
    grown =
        grown_later
        (generic_row_applies {R = FlatLater} {k = later_kept} (context_at setting k) (tasks_below setting k) (signal (context_at setting k))
        (signals {R = FlatLater} {k = later_kept} (context_at setting k) (tasks_below setting k)) (Some g) vs around z).grows

    many : ℕ
    many = length at.specialised

    inside : (n : ℕ) → turns ≡ suc n → (y' : MidState) → Point setting placed k (n + suc spare) rs valid w around z vs generic address y'
        → CallEnds setting inner (turns + spare) rs valid w around z y' meant_here (exec (code_at setting k n) (code_of (generic_code setting.at)) regs y')
    inside n e y' h = split (cases_lt n many)
      where
        -- there are no more of them than words
        bound : (xs : List Specialised) → at.specialised ≡ xs → 2 * length xs ≤ length y'.arena.memory + 2
        bound [] same = omega arith
        bound (x ∷ xs) same =
            let most = many_words setting w z y' x xs (generic + generic_groups) h.call.things
            (subst (λ l. ConstantsAt setting (generic + generic_groups) (specialised_words l)) same at.arguments) in
            omega (arith, most)

        paid : takes g.required g.rest (length vs) ≡ true → chain_credit + 460 * many + 214 ≤ inner
        paid taken =
            let required = enough_taken g.required (length vs) g.rest taken in
            let specialised = at.few in
            omega (arith, required, specialised)

        split : (n < many) ⊎ (many ≤ n) → CallEnds setting inner (turns + spare) rs valid w around z y' meant_here (exec (code_at setting k n) (code_of (generic_code setting.at)) regs y')
        split (inl less) =
            let words_bound = bound at.specialised refl in
            let memory = some_words setting h.call.things in
            let up = grown.units in
            few_turns (omega (arith, less, words_bound, memory, over, up, e))
        split (inr enough) =
            let same : n + suc spare ≡ turns + spare = omega (arith, e) in
            subst (λ t. CallEnds setting inner t rs valid w around z y' meant_here (exec (code_at setting k n) (code_of (generic_code setting.at)) regs y')) same
            (generic_comes setting placed k n spare (omega (arith, few, e)) over rs valid around chains conditions w z g vs generic address at named_so enough inner (omega arith) paid y'
            (record { call = h.call; site = h.site; lent = h.lent }))

-- the same as it is claimed
pub generic_claims_law : LawOfGenericClaims
generic_claims_law setting k turns rs valid w around z y placed few chains conditions g vs generic address at named_so lent site begins =
    call_less setting (omega arith) (omega arith) (generics_law setting k turns 0 rs valid w around z y placed (omega (arith, few)) (omega arith) chains conditions g vs generic address at named_so lent site begins)
