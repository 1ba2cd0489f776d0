-- **A generic function is applied to the elements of a list**: their number is judged, the chain of their classes is sought, a level is judged, and the
-- chain runs.
use Rattle.std.proofs.Common.{◌≡◌, ℕ, zero, suc, ◌+◌, ◌-◌, ◌*◌, ◌%◌, ◌^◌, ◌<◌, ◌≤◌, Bool, true, false, List, [], ◌∷◌, ◌++◌, length, Option, Some, None, refl, sym, ap, ◌∙◌, subst, arith}
use Rattle.std.specs.Prelude.{◌==◌, map, take}
use Rattle.std.proofs.lemmas.Bool.{eq-eqb, ne_eqb}
use Rattle.std.proofs.lemmas.Nat.{and_mask}
use Rattle.base.specs.AllOf.{AllOf}
use Rattle.lang_meaning.specs.declared.program.GenericRow.{GenericRow}
use Rattle.lang_meaning.specs.Classes.{class_of, chain_of, of_kind, applicable, fetch}
use Rattle.lang_meaning.specs.Classes as classes
use Rattle.lang_meaning.specs.Lookup.{text}
use Rattle.lang_meaning.specs.Objects.{Chain, generic_function, program_error_class, undefined_function_class}
use Rattle.lang_meaning.specs.Signals.{takes}
use Rattle.lang_meaning.specs.State.{DynamicContext, Limit, words, unlimited}
use Rattle.lang_meaning.specs.Values.{Value, nil, symbol, named}
use Rattle.flat_language.specs.FlatNodes.{tables}
use Rattle.flat_language.specs.FlatSignals.{methods, descend, signal, apply_chain, apply_generic_row, apply_value}
use Rattle.flat_language.specs.FlatState.{no_environment, FlatState, FlatEvaluated, in_frame, charged}
use Rattle.flat_laws.specs.FlatLater.{FlatLater}
use Rattle.flat_laws.proofs.Applied.{signals, generic_row_applies}
use Rattle.flat_laws.proofs.Combined.{framed, charges}
use Rattle.flat_laws.proofs.Later.{later_kept}
use Rattle.mid_code.specs.declared.operation.Arithmetic.TheVariants as which
use Rattle.mid_code.specs.declared.operation.Comparison.TheVariants.{Equal, Different, LessUnsigned}
use Rattle.mid_code.specs.Arena.{left, word_at}
use Rattle.mid_code.specs.Meaning.{Context, exec, exec_step}
use Rattle.mid_code.specs.MidCode.{MidStep, lend, return_word, code_of}
use Rattle.mid_code.specs.State.{Registers, MidState, MidOutcome}
use Rattle.mid_code.specs.State.{charged as mid_charged, go_on as mid_go_on}
use Rattle.mid_arena.specs.Tags.{object_tag, nil_word, function_header, generic_header}
use Rattle.mid_arena.proofs.Arguments.{object_found}
use Rattle.mid_arena.proofs.Memory.{spot_low}
use Rattle.mid_arena.proofs.Running.{and_then, none_left, constant_falls, move_falls, compute_known, load_falls, choose_first_falls, choose_second_falls, address_above}
use Rattle.mid_arena.proofs.WordFacts.{sum_fits}
use Rattle.back_lowering.specs.ControlWords.{generic_arity, generic_name, generic_specialised, generic_groups}
use Rattle.back_lowering.specs.Placement.{symbol_word}
use Rattle.back_lowering.specs.RoutineCodes.{chain_sought, element_into, list_copied, returning}
use Rattle.back_lowering.specs.RoutineCodes.{signals as signals_steps}
use Rattle.back_lowering.specs.Routines.{failing_with_routine, chain_routine, level_routine}
use Rattle.back_lowering.specs.Steps.{Steps, move, constant, compute, load, call, test_of, where_so, if_equal}
use Rattle.back_relation.specs.Setting.{Setting, ConstantAt}
use Rattle.back_relation.specs.Chains.{arity_word, ChainAt, ChainTakes, GenericAt, ChainFound, OffsetIs}
use Rattle.back_relation.specs.Room.{entry_words, failing_words, level_words, words_for_handler}
use Rattle.back_relation.specs.Placed.{IsPlaced, HasSymbol}
use Rattle.back_relation.specs.Worlds.{World, Later, Standing}
use Rattle.back_relation.specs.Around.{RoomFor, CallBegins, SiteStored}
use Rattle.back_relation.specs.Ends.{RoomEnded, CallEnds}
use Rattle.back_relation.specs.Forms.{below_at, context_at, code_at}
use Rattle.back_relation.specs.Procedures.{called, ArgumentsLent}
use Rattle.back_relation.specs.RoutineClaims.{WordIs, chain_credit}
use Rattle.back_relation.specs.Starts.{FlatGrown}
use Rattle.back_relation.proofs.Growth.{grown_later}
use Rattle.back_relation.proofs.Parts.{single_step, step_then}
use Rattle.back_calling.proofs.Formed.{call_comes}
use Rattle.back_calling.proofs.Growing.{tasks_below}
use Rattle.back_calling.proofs.Inner.{returned}
use Rattle.back_calling.proofs.Levels.{level_there}
use Rattle.back_values.proofs.Constants.{constants_law}
use Rattle.back_conditions.proofs.ClassNumbers.{class_known}
use Rattle.back_calling.specs.Lending.{LentBegins}
use Rattle.back_generics.proofs.Generics.{some_primary, taken_many, mapped_many, all_mapped, enough_taken, all_below}
use Rattle.back_generics.proofs.Judging.{odd_tells, half_is, some_more, too_few, so_many, others_many, judged_over}
use Rattle.back_generics.proofs.Points.{second_of, first_one, steps_grown, straight, first_branch, second_branch}
use Rattle.back_generics.proofs.Sought.{Finding, loop, seeks}
use Rattle.back_generics.specs.Law.{ApplyParts}
use Rattle.back_generics.proofs.Applying.{at_level, HereAt, here_cost, here_then, fewer_begins, fails_comes, function_part, generic_part, applied_steps}
use Rattle.back_generics.proofs.Entering.{Here, Tail, block_comes, many_cars}
use Rattle.back_generics.proofs.ListedFunctions.{frame_full, tag_comes}
use Rattle.back_generics.proofs.Numbers.{AreDifferent}
use Rattle.back_generics.proofs.Elements.{Cursor, at_first, passes, finding}
use Rattle.back_generics.proofs.Spreads.{Path, numbers, cars}

module _ (setting : Setting) (placed : IsPlaced setting) (k t : ℕ) (few : suc t ≤ setting.turns_each) (rs valid : List Standing) (around : DynamicContext) (parts : ApplyParts setting k around)
    (w : World) (z : FlatState) (f list : Value) (word list_word : ℕ) (is_f : WordIs setting w word f) (is_list : WordIs setting w list_word list)
    (cells : List (ℕ × Value)) (path : Path z.state cells list nil) (different : AreDifferent (numbers cells)) (few_cells : 3 * length cells ≤ t) (small_many : length cells < 2 ^ 26)
    (start : ℕ) (g : GenericRow) (at : GenericAt setting start g) (named_so : HasSymbol setting g.name.0) where
  abbrev c : Context
  c = code_at setting k (suc t)

  abbrev m : ℕ
  m = suc t + 1

  abbrev HereY : MidState → Type 0
  HereY y = HereAt setting placed k t few rs valid around parts w z f list word list_word is_f is_list y

  cost_here : {y : MidState} (p : ℕ) → HereY y → HereY (mid_charged p y)
  cost_here p h = here_cost setting placed k t few rs valid around parts w z f list word list_word is_f is_list p h

  few_begins : {y : MidState} (words_here : ℕ) → words_here ≤ entry_words → CallBegins setting rs valid entry_words w around z y → CallBegins setting rs valid words_here w around z y
  few_begins words_here enough b = fewer_begins setting placed k t few rs valid around parts w z f list word list_word is_f is_list words_here enough b

  abbrev vs : List Value
  vs = cars cells

  abbrev n : ℕ
  n = length cells

  same_many : length vs ≡ n
  same_many = many_cars cells

  abbrev pub meant : FlatEvaluated
  meant = apply_generic_row (context_at setting k) (signal (context_at setting k)) (Some g) vs around z

  meant_grows : FlatGrown z meant.state
  meant_grows =
      grown_later
      (generic_row_applies {R = FlatLater} {k = later_kept} (context_at setting k) (tasks_below setting k) (signal (context_at setting k))
      (signals {R = FlatLater} {k = later_kept} (context_at setting k) (tasks_below setting k)) (Some g) vs around z).grows

  abbrev Comes : ℕ → MidState → FlatEvaluated → MidOutcome → Type 0
  Comes credit y r q = CallEnds setting credit m rs valid w around z y r q

  abbrev file : (r3 r4 r5 r6 r7 r8 r10 r11 : Option ℕ) → Registers
  file r3 r4 r5 r6 r7 r8 r10 r11 = Some start ∷ Some list_word ∷ Some n ∷ r3 ∷ r4 ∷ r5 ∷ r6 ∷ r7 ∷ r8 ∷ None ∷ r10 ∷ r11 ∷ []

  abbrev many : ℕ
  many = length at.specialised

  abbrev class_list : List ℕ
  class_list = map (class_of z.state) (take g.required vs)

  abbrev chain_is : Option Chain
  chain_is = classes.chain (tables setting.program) g class_list

  abbrev tail : Steps
  tail = call 10 (chain_routine setting.at) (11 ∷ 2 ∷ 9 ∷ []) ∷ []

  abbrev block_steps : Steps
  block_steps = lend 9 2 (code_of (list_copied setting.at ++ tail)) ∷ return_word 10 ∷ []

  abbrev level_steps : Steps
  level_steps = call 10 (level_routine setting.at) [] ∷ block_steps

  -- ---- the chain runs

  module _ (d : Chain) where
    abbrev chain_meant : FlatState → FlatEvaluated
    chain_meant x = in_frame setting.limit (16 + length vs) (λ inner. below_at setting k (methods d vs) no_environment around (charged (length vs) inner)) x

    abbrev chain_runs : FlatEvaluated
    chain_runs = apply_chain (context_at setting k) (signal (context_at setting k)) g (Some d) vs around z

    chain_grows : FlatGrown z (chain_meant z).state
    chain_grows =
        grown_later
        (framed {R = FlatLater} {k = later_kept} setting.limit (16 + length vs) z (λ inner.
        charges {R = FlatLater} {k = later_kept} (length vs) inner (tasks_below setting k (methods d vs) no_environment around (charged (length vs) inner)))).grows

    abbrev given_words : (d_start : ℕ) → ℕ → List ℕ
    given_words d_start at_block = d_start ∷ n ∷ at_block ∷ []

    block_there :
        1 ≤ k → (d_start : ℕ) → ChainAt setting d_start d → ChainTakes setting (length vs) d → (d.primary ≡ [] → ⊥) → (level : ℕ) (r3 r4 r5 r6 r7 r8 : Option ℕ) (y : MidState) → HereY y
        → Comes (368 + 54 * n) y (chain_meant z) (exec c (code_of block_steps) (file r3 r4 r5 r6 r7 r8 (Some level) (Some d_start)) y)
    block_there some d_start stands all_take primary level r3 r4 r5 r6 r7 r8 y h =
        block_comes setting placed k t rs valid around w z start list_word cells list path different is_list (omega (arith, few_cells)) (Some level) (Some d_start) tail (chain_routine setting.at) 58 chain_credit (given_words d_start)
        (chain_meant z) chain_grows r3 r4 r5 r6 r7 r8 None (368 + 54 * n) y h (omega arith) wanting behind inside
      where
        wanting : left y.arena < n + 2 → RoomEnded setting setting.limit (chain_meant z).outcome
        wanting short = by setting.limit refl h.call.room
          where
            by : (l : Limit) → setting.limit ≡ l → RoomFor l (entry_words + words_for_handler * length around.handlers) z.state y → RoomEnded setting l (chain_meant z).outcome
            by unlimited same room = tt
            by (words x) same room =
                frame_full setting setting.limit x (16 + length vs) (λ inner. below_at setting k (methods d vs) no_environment around (charged (length vs) inner)) z same (omega (arith, room, short, same_many))

        behind : (at_block to : ℕ) (r6' : Option ℕ) (x : MidState)
            → Tail setting placed k t rs valid around w z start list_word cells list path different is_list (omega (arith, few_cells)) (Some level) (Some d_start) tail (chain_routine setting.at) 58 chain_credit (given_words d_start)
            (chain_meant z) chain_grows at_block to r6' r7 r8 x
        behind at_block to r6' x =
            let regs : Registers = Some start ∷ Some list_word ∷ Some n ∷ Some nil_word ∷ Some to ∷ Some nil_word ∷ r6' ∷ r7 ∷ r8 ∷ Some at_block ∷ Some level ∷ Some d_start ∷ [] in
            record {
              regs = regs;
              low = omega arith;
              runs =
                  single_step c (call 10 (chain_routine setting.at) (11 ∷ 2 ∷ 9 ∷ [])) regs x
                  ∙ call_comes c regs x 10 (chain_routine setting.at) (11 ∷ 2 ∷ 9 ∷ []) (given_words d_start at_block) (refl, (refl, (refl, tt)));
            }

        inside :
            (w1 : World) (at_block : ℕ) (y1 : MidState) → Later w w1 → LentBegins setting rs valid entry_words (length vs) w1 around z y1 → SiteStored setting around y1 → ArgumentsLent setting w1 y1.arena at_block vs
            → CallEnds setting chain_credit m rs valid w1 around z y1 (chain_meant z) (called c (chain_routine setting.at) (given_words d_start at_block) y1)
        inside w1 at_block y1 later begins site lent =
            subst (λ a. CallEnds setting chain_credit m rs valid w1 around z y1 (chain_meant z) (called c (chain_routine setting.at) (d_start ∷ a ∷ at_block ∷ []) y1)) same_many
            (subst (λ r. CallEnds setting chain_credit m rs valid w1 around z y1 r (called c (chain_routine setting.at) (d_start ∷ length vs ∷ at_block ∷ []) y1)) (there_is k some)
            (at_level
            (λ i.
            CallEnds setting chain_credit m rs valid w1 around z y1 (apply_chain (context_at setting i) (signal (context_at setting i)) g (Some d) vs around z)
            (called (code_at setting i (suc t)) (chain_routine setting.at) (d_start ∷ length vs ∷ at_block ∷ []) y1)) k some
            (λ j same. parts.chains j same (suc t) few rs valid g d vs d_start at_block w1 around z y1 stands all_take primary begins site lent)))
          where
            there_is : (j : ℕ) → 1 ≤ j → descend (below_at setting j) (λ x. chain_meant x) around z ≡ chain_meant z
            there_is zero low = absurd (omega (arith, low))
            there_is (suc j) low = level_there setting j (λ x. chain_meant x) around z

    level_comes :
        (d_start : ℕ) → ChainAt setting d_start d → ChainTakes setting (length vs) d → (d.primary ≡ [] → ⊥) → (r3 r4 r5 r6 r7 r8 r10 : Option ℕ) (y : MidState) → HereY y
        → Comes (448 + 54 * n) y chain_runs (exec c (code_of level_steps) (file r3 r4 r5 r6 r7 r8 r10 (Some d_start)) y)
    level_comes d_start stands all_take primary r3 r4 r5 r6 r7 r8 r10 y h =
        subst (λ o. Comes (448 + 54 * n) y chain_runs o) (sym (step_then c (call 10 (level_routine setting.at) []) block_steps (file r3 r4 r5 r6 r7 r8 r10 (Some d_start)) y))
        (judged_over setting placed k (suc t) m 10 (368 + 54 * n) (448 + 54 * n) rs valid w around z y (file r3 r4 r5 r6 r7 r8 r10 (Some d_start)) (λ x. chain_meant x) (λ g x. exec c (code_of block_steps) g x)
        (few_begins level_words (omega arith) h.call) (omega arith) chain_grows (λ g x. steps_grown setting k (suc t) block_steps g x)
        (λ some level y' world back site.
        block_there some d_start stands all_take primary level r3 r4 r5 r6 r7 r8 y' (here_then setting placed k t few rs valid around parts w z f list word list_word is_f is_list world back (site h.site) h)))

  -- ---- the chain, or none

  abbrev last_steps : Steps
  last_steps = move 11 4 ∷ level_steps

  abbrev undefined_steps : Steps
  undefined_steps = load 7 0 generic_name ∷ constant 8 undefined_function_class ∷ returning setting.at 7 (failing_with_routine setting.at) (8 ∷ 7 ∷ [])

  abbrev found_steps : Steps
  found_steps = compute 4 which.Add 4 5 ∷ load 4 4 0 ∷ if_equal 4 6 undefined_steps [] ∷ last_steps

  found_comes :
      (o : Option Chain) → chain_is ≡ o → takes g.required g.rest (length vs) ≡ true → (a offset : ℕ) → ChainFound setting g (a + offset) o → (r7 r8 r10 r11 : Option ℕ) (y : MidState) → HereY y
      → Comes (486 + 54 * n) y meant (exec c (code_of found_steps) (file (Some 0) (Some a) (Some offset) (Some 0) r7 r8 r10 r11) y)
  found_comes None none taken a offset found r7 r8 r10 r11 y h =
      let there = constants_law setting w z y h.call.things (a + offset) 0 found in
      let small = there.1 in
      let name = constants_law setting w z y h.call.things (start + generic_name) (symbol_word setting.at g.name.0) at.name in
      let name_low = name.1 in
      let y1 : MidState = mid_charged 12 (mid_charged 18 y) in
      let h1 : HereY y1 = cost_here 12 (cost_here 18 h) in
      let y2 : MidState = mid_charged 14 y1 in
      let h2 : HereY y2 = cost_here 14 h1 in
      let regs : Registers = file (Some 0) (Some 0) (Some offset) (Some 0) r7 r8 r10 r11 in
      let regs2 : Registers = file (Some 0) (Some 0) (Some offset) (Some 0) (Some (symbol_word setting.at g.name.0)) (Some undefined_function_class) r10 r11 in
      let unknown : FlatEvaluated = signal (context_at setting k) undefined_function_class (symbol (named (text setting.names g.name.0)) ∷ []) around z in
      let unknown_is : meant ≡ unknown = first_one _ _ taken ∙ ap (λ o. apply_chain (context_at setting k) (signal (context_at setting k)) g o vs around z) none in
      straight setting k (suc t) m rs valid w around z meant 18 142 (omega arith) h.call.things
      ((and_then (compute_known refl refl (sum_fits a offset (omega (arith, small))))
      (and_then (load_falls refl (address_above (a + offset) 0 (a + offset) (omega arith) (omega (arith, small))) there.0) (record { same = refl }))).same
      ∙ ap (λ x. exec c (code_of (if_equal 4 6 undefined_steps [] ∷ last_steps)) regs (record y { cost = x })) (omega arith))
      (first_branch setting k (suc t) m rs valid w around z meant 130 (test_of Equal 4 6) undefined_steps [] last_steps regs (mid_charged 18 y) (omega arith) (cost_here 18 h).call.things refl refl refl
      (straight setting k (suc t) m rs valid w around z meant 14 116 (omega arith) h1.call.things
      ((and_then (load_falls refl (address_above start generic_name (start + generic_name) refl (omega (arith, name_low))) name.0) (and_then constant_falls (record { same = refl }))).same
      ∙ ap (λ x. exec c (code_of (returning setting.at 7 (failing_with_routine setting.at) (8 ∷ 7 ∷ []))) regs2 (record y { cost = x })) (omega arith))
      (subst (λ r. Comes 116 y2 r (exec c (code_of (returning setting.at 7 (failing_with_routine setting.at) (8 ∷ 7 ∷ []))) regs2 y2)) (sym unknown_is)
      (returned setting k (suc t) 50 m 7 (failing_with_routine setting.at) (8 ∷ 7 ∷ []) (undefined_function_class ∷ symbol_word setting.at g.name.0 ∷ []) [] rs valid w around z y2 regs2 unknown (refl, (refl, tt))
      (omega arith) h2.call.things
      ((parts.conditions (suc t) rs valid w z (mid_charged 52 y2) few).with_word undefined_function_class (symbol (named (text setting.names g.name.0))) (symbol_word setting.at g.name.0)
      (h.call.things.symbols g.name.0 named_so) (record { low = omega arith; high = omega arith; slots = refl }) (cost_here 52 h2).site (few_begins failing_words (omega arith) (cost_here 52 h2).call))))))
  found_comes (Some d) some taken a offset found r7 r8 r10 r11 y h =
      let d_start : ℕ = found.0 in
      let there = constants_law setting w z y h.call.things (a + offset) d_start found.1 in
      let small = there.1 in
      let at_chain = found.2 in
      let low_start = at_chain.some in
      let runs_is : meant ≡ chain_runs d = first_one _ _ taken ∙ ap (λ o. apply_chain (context_at setting k) (signal (context_at setting k)) g o vs around z) some in
      straight setting k (suc t) m rs valid w around z meant 38 (448 + 54 * n) (omega arith) h.call.things
      ((and_then (compute_known refl refl (sum_fits a offset (omega (arith, small))))
      (and_then (load_falls refl (address_above (a + offset) 0 (a + offset) (omega arith) (omega (arith, small))) there.0)
      (and_then (choose_second_falls refl refl (ne_eqb d_start 0 (λ e. omega (arith, e, low_start))) none_left) (and_then (move_falls refl) (record { same = refl }))))).same
      ∙ ap (λ x. exec c (code_of level_steps) (file (Some 0) (Some d_start) (Some offset) (Some 0) r7 r8 r10 (Some d_start)) (record y { cost = x })) (omega arith))
      (subst (λ r. Comes (448 + 54 * n) (mid_charged 38 y) r (exec c (code_of level_steps) (file (Some 0) (Some d_start) (Some offset) (Some 0) r7 r8 r10 (Some d_start)) (mid_charged 38 y))) (sym runs_is)
      (level_comes d d_start at_chain (found.3 (length vs) taken) (some_primary (tables setting.program) g class_list d some) (Some 0) (Some d_start) (Some offset) (Some 0) r7 r8 r10 (mid_charged 38 y) (cost_here 38 h)))

  -- ---- it is sought

  abbrev sought_steps : Steps
  sought_steps = move 10 1 ∷ constant 11 0 ∷ (chain_sought setting.at (element_into setting.at) ++ last_steps)

  abbrev spent : ℕ → ℕ
  spent = passes setting placed k t rs valid around w z cells (Some start) (Some list_word) (Some n) small_many

  abbrev found_by : Finding setting placed k m rs valid w around z vs (Some start) (Some list_word) (Some n) (element_into setting.at) spent n (λ y. Here setting placed k t rs valid around w z y) (λ p o. Cursor setting w z cells p o)
  found_by = finding setting placed k t rs valid around w z cells (Some start) (Some list_word) (Some n) small_many

  abbrev class_loop : MidStep
  class_loop =
      loop setting placed k m rs valid w around z vs (Some start) (Some list_word) (Some n) (element_into setting.at) spent n (λ y. Here setting placed k t rs valid around w z y) (λ p o. Cursor setting w z cells p o) found_by
      g.required meant meant_grows

  sought_comes :
      takes g.required g.rest (length vs) ≡ true → (r3 r4 r5 r6 r7 r8 r10 : Option ℕ) (y : MidState) → HereY y
      → Comes (546 + 92 * n + 460 * many) y meant (exec c (code_of sought_steps) (file r3 r4 r5 r6 r7 r8 r10 (Some start)) y)
  sought_comes taken r3 r4 r5 r6 r7 r8 r10 y h =
      straight setting k (suc t) m rs valid w around z meant 48 (498 + 92 * n + 460 * many) (omega arith) h.call.things
      ((and_then (move_falls refl)
      (and_then constant_falls
      (and_then (load_falls refl (address_above start generic_specialised (start + generic_specialised) refl (let small = count_there.1 in omega (arith, small))) count_there.0)
      (and_then constant_falls
      (and_then (compute_known refl refl (sum_fits generic_groups start (omega (arith, below)) ∙ plus_turned))
      (and_then constant_falls
      (and_then constant_falls
      (record { same = step_then c class_loop found_steps begun _ })))))))).same
      ∙ ap (λ x. mid_go_on (exec_step c class_loop begun (record y { cost = x })) (λ q s. exec c (code_of found_steps) q s)) (omega arith))
      (seeks setting placed k m rs valid w around z vs (Some start) (Some list_word) (Some n) (element_into setting.at) spent n (λ y. Here setting placed k t rs valid around w z y) (λ p o. Cursor setting w z cells p o) found_by
      g.required meant meant_grows at.specialised (suc t) (start + generic_groups) 0 offset 0 (486 + 54 * n) (498 + 92 * n + 460 * many) r7 r8 (None ∷ Some list_word ∷ Some 0 ∷ []) (mid_charged 48 y)
      (λ q s. exec c (code_of found_steps) q s) (let less = at.few in omega (arith, less, required_few, same_many, few_cells)) at.arguments
      (all_below g.required (length vs) required_few at.specialised at.required) at.in_order (omega arith) (at_first setting w z cells list list_word path is_list) chains_at.1 (omega (arith, below))
      (omega (arith, same_many)) (cost_here 48 h) (λ q s. steps_grown setting k (suc t) found_steps q s)
      (λ y' v7 v8 place others cursor h'.
      subst
      (λ (o : Registers).
      Comes (486 + 54 * n) y' meant
      (exec c (code_of found_steps) (Some start ∷ Some list_word ∷ Some n ∷ Some 0 ∷ Some (start + generic_groups + 8 * many) ∷ Some (0 + offset) ∷ Some 0 ∷ v7 ∷ v8 ∷ o) y')) (sym cursor.registers)
      (subst
      (λ o.
      Comes (486 + 54 * n) y' meant
      (exec c (code_of found_steps) (file (Some 0) (Some (start + generic_groups + 8 * many)) (Some o) (Some 0) v7 v8 (Some cursor.word) (Some (4 * place))) y')) whole_offset
      (found_comes chain_is refl taken (start + generic_groups + 8 * many) offset chains_at.2 v7 v8 (Some cursor.word) (Some (4 * place)) y' h'))))
    where
      required_few : g.required ≤ length vs
      required_few = enough_taken g.required (length vs) g.rest taken

      class_many : length class_list ≡ g.required
      class_many = mapped_many (class_of z.state) (take g.required vs) ∙ taken_many g.required vs required_few

      represents_classes : AllOf (λ x. x < length setting.program.classes) class_list
      represents_classes =
          all_mapped (class_of z.state) (λ x. x < length setting.program.classes)
          (λ v. class_known setting.names (tables setting.program) z.state h.call.things.represents.built_in h.call.things.represents.classes v) (take g.required vs)

      chains_at : (offset : ℕ) × OffsetIs setting at.specialised class_list offset × ChainFound setting g (start + generic_groups + 8 * many + offset) chain_is
      chains_at = at.chains class_list class_many represents_classes

      offset : ℕ
      offset = chains_at.0

      found_low : (o : Option Chain) → ChainFound setting g (start + generic_groups + 8 * many + offset) o → start + generic_groups + 8 * many + offset + 8 ≤ 2 ^ 32
      found_low None found = (constants_law setting w z y h.call.things (start + generic_groups + 8 * many + offset) 0 found).1
      found_low (Some d) found = (constants_law setting w z y h.call.things (start + generic_groups + 8 * many + offset) found.0 found.1).1

      below : start + generic_groups + 8 * many + offset + 8 ≤ 2 ^ 32
      below = found_low chain_is chains_at.2

      count_there : (word_at y.arena (start + generic_specialised) ≡ Some many) × (start + generic_specialised + 8 ≤ 2 ^ 32)
      count_there = constants_law setting w z y h.call.things (start + generic_specialised) many at.count

      begun : Registers
      begun = file (Some many) (Some (start + generic_groups)) (Some 0) (Some 0) r7 r8 (Some list_word) (Some 0)

      whole_offset : offset ≡ 0 + offset
      whole_offset = omega arith

      plus_turned : generic_groups + start ≡ start + generic_groups
      plus_turned = omega arith

  -- ---- whether so many are taken

  abbrev wrong : Steps
  wrong = signals_steps setting.at 4 program_error_class

  abbrev test_steps : Steps
  test_steps = if_equal 5 4 (where_so LessUnsigned 2 6 wrong [] ∷ []) (where_so Different 2 6 wrong [] ∷ []) ∷ []

  abbrev pub sought_cost : ℕ
  sought_cost = 546 + 92 * n + 460 * many

  abbrev arity : ℕ
  arity = arity_word g.required g.rest

  taken_so : {b : Bool} → takes g.required g.rest n ≡ b → takes g.required g.rest (length vs) ≡ b
  taken_so e = ap (λ a. takes g.required g.rest a) same_many ∙ e

  module _ (r7 r8 : Option ℕ) (odd_word credit : ℕ) (low : 140 ≤ credit) (paid : takes g.required g.rest (length vs) ≡ true → sought_cost + 28 ≤ credit) where
    abbrev told : Registers
    told = file (Some arity) (Some 1) (Some odd_word) (Some g.required) r7 r8 None (Some start)

    wrong_comes : takes g.required g.rest (length vs) ≡ false → (y : MidState) → HereY y → Comes 116 y meant (exec c (code_of wrong) told y)
    wrong_comes none y h =
        subst (λ r. Comes 116 y r (exec c (code_of wrong) told y)) (sym (second_of _ _ none))
        (fails_comes setting placed k t few rs valid around parts w z f list word list_word is_f is_list 4 told y (refl, tt) (omega arith) h)

    goes_on : takes g.required g.rest (length vs) ≡ true → (y : MidState) → HereY y → Comes (credit - 28) (mid_charged 28 y) meant (exec c (code_of sought_steps) told (mid_charged 28 y))
    goes_on taken y h =
        let enough = paid taken in
        straight setting k (suc t) m rs valid w around z meant 0 sought_cost (omega (arith, enough)) (cost_here 28 h).call.things (ap (λ x. exec c (code_of sought_steps) told (record y { cost = x })) (omega arith))
        (sought_comes taken (Some arity) (Some 1) (Some odd_word) (Some g.required) r7 r8 None (mid_charged 0 (mid_charged 28 y)) (cost_here 0 (cost_here 28 h)))

    tested_comes : (o : Bool) → g.rest ≡ o → (odd_word == 1) ≡ o → (b : Bool) → takes g.required o n ≡ b → (y : MidState) → HereY y → Comes credit y meant (exec c (code_of (test_steps ++ sought_steps)) told y)
    tested_comes true rest odd true taken y h =
        straight setting k (suc t) m rs valid w around z meant 28 (credit - 28) (omega (arith, low)) h.call.things
        ((and_then (choose_first_falls refl refl odd (and_then (choose_second_falls refl refl (some_more g.required n taken) none_left) none_left)) (record { same = refl })).same
        ∙ ap (λ x. exec c (code_of sought_steps) told (record y { cost = x })) (omega arith))
        (goes_on (taken_so (ap (λ o. takes g.required o n) rest ∙ taken)) y h)
    tested_comes false rest odd true taken y h =
        straight setting k (suc t) m rs valid w around z meant 28 (credit - 28) (omega (arith, low)) h.call.things
        ((and_then (choose_second_falls refl refl odd (and_then (choose_second_falls refl refl (so_many g.required n taken) none_left) none_left)) (record { same = refl })).same
        ∙ ap (λ x. exec c (code_of sought_steps) told (record y { cost = x })) (omega arith))
        (goes_on (taken_so (ap (λ o. takes g.required o n) rest ∙ taken)) y h)
    tested_comes true rest odd false taken y h =
        first_branch setting k (suc t) m rs valid w around z meant 128 (test_of Equal 5 4) (where_so LessUnsigned 2 6 wrong [] ∷ []) (where_so Different 2 6 wrong [] ∷ []) sought_steps told y (omega (arith, low))
        h.call.things refl refl odd
        (first_branch setting k (suc t) m rs valid w around z meant 116 (test_of LessUnsigned 2 6) wrong [] [] told (mid_charged 12 y) (omega arith) (cost_here 12 h).call.things refl refl
        (too_few g.required n taken)
        (wrong_comes (taken_so (ap (λ o. takes g.required o n) rest ∙ taken)) (mid_charged 12 (mid_charged 12 y)) (cost_here 12 (cost_here 12 h))))
    tested_comes false rest odd false taken y h =
        second_branch setting k (suc t) m rs valid w around z meant 128 (test_of Equal 5 4) (where_so LessUnsigned 2 6 wrong [] ∷ []) (where_so Different 2 6 wrong [] ∷ []) sought_steps told y (omega (arith, low))
        h.call.things refl refl odd
        (first_branch setting k (suc t) m rs valid w around z meant 116 (test_of Different 2 6) wrong [] [] told (mid_charged 12 y) (omega arith) (cost_here 12 h).call.things refl refl
        (others_many g.required n taken)
        (wrong_comes (taken_so (ap (λ o. takes g.required o n) rest ∙ taken)) (mid_charged 12 (mid_charged 12 y)) (cost_here 12 (cost_here 12 h))))

  -- **the generic function is applied**
  generic_comes :
      (number : ℕ) → ConstantAt setting (setting.at.generics + 4 * number) start → (credit : ℕ) → 212 ≤ credit → (takes g.required g.rest (length vs) ≡ true → sought_cost + 100 ≤ credit)
      → (r3 r4 r5 r6 r7 r8 : Option ℕ) (y : MidState) → HereY y → word_at y.arena (word + 2) ≡ Some (4 * number) → word + 2 < 2 ^ 32
      → Comes credit y meant
      (exec c (code_of (generic_part setting placed k t few rs valid around parts w z f list word list_word is_f is_list)) (Some word ∷ Some list_word ∷ Some n ∷ r3 ∷ r4 ∷ r5 ∷ r6 ∷ r7 ∷ r8 ∷ None ∷ None ∷ None ∷ []) y)
  generic_comes number at_number credit low paid r3 r4 r5 r6 r7 r8 y h there word_low =
      let here = constants_law setting w z y h.call.things (setting.at.generics + 4 * number) start at_number in
      let below = here.1 in
      let arity_there = constants_law setting w z y h.call.things (start + generic_arity) arity at.arity in
      let arity_low = arity_there.1 in
      straight setting k (suc t) m rs valid w around z meant 72 (credit - 72) (omega (arith, low)) h.call.things
      ((and_then (load_falls refl (address_above word 2 (word + 2) (omega arith) word_low) there)
      (and_then constant_falls
      (and_then (compute_known refl refl (sum_fits (4 * number) setting.at.generics (omega (arith, below))))
      (and_then (load_falls refl (address_above (4 * number + setting.at.generics) 0 (setting.at.generics + 4 * number) (omega arith) (omega (arith, below))) here.0)
      (and_then (move_falls refl)
      (and_then (load_falls refl (address_above start generic_arity (start + generic_arity) refl (omega (arith, arity_low))) arity_there.0)
      (and_then constant_falls
      (and_then (compute_known refl refl (and_mask arity 1))
      (and_then (compute_known refl refl (half_is g.required g.rest))
      (record { same = refl })))))))))).same
      ∙ ap (λ x. exec c (code_of (test_steps ++ sought_steps)) (file (Some arity) (Some 1) (Some (arity % 2)) (Some g.required) r7 r8 None (Some start)) (record y { cost = x })) (omega arith))
      (tested_comes r7 r8 (arity % 2) (credit - 72) (omega (arith, low)) (λ taken. let enough = paid taken in omega (arith, enough)) g.rest refl (odd_tells g.required g.rest) (takes g.required g.rest n) refl
      (mid_charged 72 y) (cost_here 72 h))

  -- by its tag and its header
  pub generic_found :
      (number : ℕ) → ConstantAt setting (setting.at.generics + 4 * number) start → fetch z.state f ≡ Some (generic_function number)
      → apply_value (context_at setting k) (signal (context_at setting k)) f vs around z ≡ meant → (credit : ℕ) → 290 ≤ credit
      → (takes g.required g.rest (length vs) ≡ true → sought_cost + 178 ≤ credit) → (r5 r6 r7 r8 : Option ℕ) (y : MidState) → HereY y
      → Comes credit y (apply_value (context_at setting k) (signal (context_at setting k)) f vs around z)
      (exec c (code_of (applied_steps setting placed k t few rs valid around parts w z f list word list_word is_f is_list)) (Some word ∷ Some list_word ∷ Some n ∷ Some nil_word ∷ Some nil_word ∷ r5 ∷ r6 ∷ r7 ∷ r8 ∷ None ∷ None ∷ None ∷ []) y)
  generic_found number at_number e same credit low paid r5 r6 r7 r8 y h =
      let it = object_found setting.names (tables setting.program) w.places z.state y h.call.things.represents f word (generic_function number) is_f e in
      let here = it.word in
      let aligned = it.spot_stands.aligned in
      let tag_is : (word % 4 == object_tag) ≡ true = eq-eqb (word % 4) object_tag (omega (arith, here, aligned)) in
      let front : word - 2 ≡ it.spot.address = omega (arith, here) in
      let behind : word + 2 ≡ it.spot.address + 4 = omega (arith, here) in
      let size = it.stands.size.words in
      let below = spot_low h.call.things.represents.arena it.spot_stands in
      let y1 : MidState = mid_charged 12 (mid_charged 48 y) in
      let h1 : HereY y1 = cost_here 12 (cost_here 48 h) in
      let y2 : MidState = mid_charged 12 (mid_charged 6 y1) in
      let h2 : HereY y2 = cost_here 12 (cost_here 6 h1) in
      tag_comes setting placed k t few rs valid around parts w z f list word list_word is_f is_list cells path different (omega (arith, few_cells)) (credit - 48) credit generic_header r5 r6 r7 r8 y (omega (arith, low)) h tag_is
      (ap (word_at y.arena) front ∙ it.stands.header)
      (second_branch setting k (suc t) m rs valid w around z value_is (credit - 60) (test_of Equal 3 4) of_function (constant 4 generic_header ∷ if_equal 3 4 of_generic [] ∷ []) [] (regs (Some function_header)) (mid_charged 48 y)
      (omega (arith, low)) (cost_here 48 h).call.things refl refl refl
      (straight setting k (suc t) m rs valid w around z value_is 6 (credit - 66) (omega (arith, low)) h1.call.things
      ((and_then constant_falls (record { same = refl })).same)
      (first_branch setting k (suc t) m rs valid w around z value_is (credit - 78) (test_of Equal 3 4) of_generic [] [] (regs (Some generic_header)) (mid_charged 6 y1) (omega (arith, low)) (cost_here 6 h1).call.things refl refl refl
      (subst (λ r. Comes (credit - 78) y2 r (exec c (code_of of_generic) (regs (Some generic_header)) y2)) (sym same)
      (generic_comes number at_number (credit - 78) (omega (arith, low)) (λ taken. let enough = paid taken in omega (arith, enough)) (Some generic_header) (Some generic_header) r5 r6 r7 r8 y2 h2
      (ap (word_at y.arena) behind ∙ it.stands.word) (omega (arith, behind, size, below)))))))
    where
      value_is : FlatEvaluated
      value_is = apply_value (context_at setting k) (signal (context_at setting k)) f vs around z

      of_function : Steps
      of_function = function_part setting placed k t few rs valid around parts w z f list word list_word is_f is_list

      of_generic : Steps
      of_generic = generic_part setting placed k t few rs valid around parts w z f list word list_word is_f is_list

      regs : Option ℕ → Registers
      regs r4 = Some word ∷ Some list_word ∷ Some n ∷ Some generic_header ∷ r4 ∷ r5 ∷ r6 ∷ r7 ∷ r8 ∷ None ∷ None ∷ None ∷ []
