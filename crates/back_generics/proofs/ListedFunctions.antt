-- **A function is applied to the elements of a list**: whether it takes so many is judged by its word, a level is judged, and it is entered.
use Rattle.std.proofs.Common.{◌≡◌, inl, inr, ℕ, zero, suc, ◌+◌, ◌-◌, ◌*◌, ◌%◌, ◌^◌, ◌<◌, ◌≤◌, Bool, true, false, List, [], ◌∷◌, ◌++◌, length, Option, Some, None, refl, sym, ap, ◌∙◌, subst, arith}
use Rattle.std.specs.Prelude.{◌==◌, is_some, slice_get, if◌then◌else◌}
use Rattle.std.proofs.lemmas.Bool.{eq-eqb, lt-leb}
use Rattle.std.proofs.lemmas.Bool.Decides.{nat_tests}
use Rattle.std.proofs.lemmas.Nat.{and_mask}
use Rattle.lang_meaning.specs.Classes.{fetch}
use Rattle.lang_meaning.specs.Counts.{application_words}
use Rattle.lang_meaning.specs.Objects.{Object, function, program_error_class, function_class}
use Rattle.lang_meaning.specs.Signals.{takes}
use Rattle.lang_meaning.specs.State.{DynamicContext, Limit, words, unlimited, full, room_left, with_words}
use Rattle.lang_meaning.specs.Values.{Value, nil}
use Rattle.flat_language.specs.declared.program.FlatProcedure.{FlatProcedure}
use Rattle.flat_language.specs.FlatNodes.{tables, homes, nodes}
use Rattle.flat_language.specs.FlatSignals.{with_some, form, gathered, with_record, with_boxes, descend, enter, signal, apply_object, apply_value}
use Rattle.flat_language.specs.FlatState.{Captured, captured_by, FlatState, FlatEvaluated, under, gives, no_environment, charged, with_slots, in_own_frame, in_frame, with_stack, on_state}
use Rattle.flat_laws.specs.FlatLater.{FlatLater}
use Rattle.flat_laws.proofs.Applied.{signals, enters}
use Rattle.flat_laws.proofs.Later.{later_kept}
use Rattle.mid_code.specs.declared.operation.Comparison.TheVariants.{Equal, Different, LessUnsigned}
use Rattle.mid_code.specs.Arena.{left, word_at}
use Rattle.mid_code.specs.Meaning.{Context, exec}
use Rattle.mid_code.specs.Meaning.{called as mid_called}
use Rattle.mid_code.specs.MidCode.{lend, return_word, code_of}
use Rattle.mid_code.specs.State.{Registers, MidState, MidOutcome}
use Rattle.mid_code.specs.State.{charged as mid_charged}
use Rattle.mid_arena.specs.Places.{of_object}
use Rattle.mid_arena.specs.Tags.{object_tag, nil_word, function_header, generic_header}
use Rattle.mid_arena.proofs.Arguments.{object_found, word_told, ObjectFound}
use Rattle.mid_arena.proofs.Memory.{spot_low}
use Rattle.mid_arena.proofs.Running.{and_then, none_left, constant_falls, compute_known, load_falls, choose_first_falls, choose_second_falls, address_above, address_below}
use Rattle.mid_arena.proofs.WordFacts.{four_times_count, sum_fits}
use Rattle.back_lowering.specs.Calls.{is_method}
use Rattle.back_lowering.specs.Placement.{entry_of_lambda}
use Rattle.back_lowering.specs.Program.{Extra, nothing, its_method, itself, extra_of}
use Rattle.back_lowering.specs.RoutineCodes.{wrong_number, list_copied, signals_domain}
use Rattle.back_lowering.specs.RoutineCodes.{signals as signals_steps}
use Rattle.back_lowering.specs.Routines.{level_routine}
use Rattle.back_lowering.specs.Steps.{Steps, constant, load_header, call, call_number, test_of, where_so, if_equal}
use Rattle.back_relation.specs.Setting.{Setting}
use Rattle.back_relation.specs.Chains.{arity_word}
use Rattle.back_relation.specs.Room.{entry_words, level_words, words_for_handler}
use Rattle.back_relation.specs.Placed.{IsPlaced, ArityStands}
use Rattle.back_relation.specs.Worlds.{World, Later, Standing}
use Rattle.back_relation.specs.Things.{AreMadeBy, FunctionStands}
use Rattle.back_relation.specs.Activation.{SelfHeld}
use Rattle.back_relation.specs.Around.{RoomFor, SiteStored}
use Rattle.back_relation.specs.Ends.{IsFull, RoomEnded, CallEnds, SparingCall}
use Rattle.back_relation.specs.Forms.{below_at, context_at, code_at}
use Rattle.back_relation.specs.Procedures.{called, IsFunction, CapturedFits, CalledFits, ArgumentsLent, entry_credit}
use Rattle.back_relation.specs.RoutineClaims.{WordIs}
use Rattle.back_relation.specs.Starts.{FlatGrown}
use Rattle.back_relation.proofs.Activations.{made_by_later}
use Rattle.back_relation.proofs.Growth.{grown_later}
use Rattle.back_relation.proofs.Parts.{single_step, step_then}
use Rattle.back_calling.proofs.Formed.{call_number_comes}
use Rattle.back_calling.proofs.Growing.{tasks_below}
use Rattle.back_calling.proofs.Units.{calls_recounted}
use Rattle.back_calling.proofs.Levels.{level_there}
use Rattle.back_values.proofs.Constants.{constants_law}
use Rattle.back_calling.specs.Lending.{LentBegins}
use Rattle.back_generics.proofs.Judging.{odd_tells, half_is, some_more, too_few, so_many, others_many, judged_over}
use Rattle.back_generics.proofs.Points.{steps_grown, straight, first_branch, second_branch}
use Rattle.back_generics.specs.Law.{ApplyParts}
use Rattle.back_generics.proofs.Applying.{at_level, HereAt, here_cost, here_then, fewer_begins, fails_comes, function_part, generic_part, applied_steps}
use Rattle.back_generics.proofs.Entering.{Tail, block_comes, many_cars}
use Rattle.back_generics.proofs.Numbers.{AreDifferent}
use Rattle.back_generics.proofs.Spreads.{Path, numbers, cars}

second_of : {X : Type 0} (x y : X) {b : Bool} → b ≡ false → (if b then x else y) ≡ y
second_of x y e = ap (λ b. if b then x else y) e

first_of_two : {X : Type 0} (x y : X) {b : Bool} → b ≡ true → (if b then x else y) ≡ x
first_of_two x y e = ap (λ b. if b then x else y) e

-- the words of an application are not there
pub frame_full : (setting : Setting) (l : Limit) (n size : ℕ) (body : FlatState → FlatEvaluated) (z : FlatState) → l ≡ words n → n < z.state.heap + z.state.stack + size → IsFull setting (in_frame l size body z).outcome
frame_full setting l n size body z same short =
    subst (λ (x : Limit). IsFull setting (in_frame x size body z).outcome) (sym same)
    (subst (λ (b : Bool). IsFull setting (if b then with_stack z.state.stack (body (on_state (λ y. with_words 0 size y) z)) else record { outcome = full (0 + size) (room_left (words n) (z.state.heap + z.state.stack)); state = z }).outcome)
    (sym (lt-leb (z.state.heap + z.state.stack + 0 + size) n (omega (arith, short)))) tt)

pub judged_full : (setting : Setting) (l : Limit) (n size : ℕ) (body : FlatState → FlatEvaluated) (z : FlatState) (b : Bool) (other : FlatEvaluated) → b ≡ true → l ≡ words n → n < z.state.heap + z.state.stack + size
    → IsFull setting (if b then in_frame l size body z else other).outcome
judged_full setting l n size body z b other is same short = subst (λ t. IsFull setting (if t then in_frame l size body z else other).outcome) (sym is) (frame_full setting l n size body z same short)

entered_full : (setting : Setting) (k : ℕ) (around : DynamicContext) (z : FlatState) (q : FlatProcedure) (cs : List Captured) (vs : List Value) (x : ℕ)
    → takes (length q.required) (is_some q.rest) (length vs) ≡ true → setting.limit ≡ words x → x < z.state.heap + z.state.stack + (application_words (nodes q.body) + length vs)
    → IsFull setting (enter (context_at setting k) (signal (context_at setting k)) q cs None vs around z).outcome
entered_full setting k around z q cs vs x taken same short =
    judged_full setting setting.limit x (application_words (nodes q.body) + length vs)
    (λ entered.
    gathered setting.limit (length q.required) (is_some q.rest) vs (charged (length vs) entered) (λ ws gone.
    with_record setting.limit None q.keeps_method gone (λ recorded.
    with_boxes setting.limit (homes q) recorded (λ ready.
    in_own_frame (λ inner. below_at setting k (form q.body) (record no_environment { captured = cs; method = None }) around (with_slots (homes q) ws inner)) ready))))
    z (takes (length q.required) (is_some q.rest) (length vs)) (signal (context_at setting k) program_error_class [] around z) taken same short

-- what is held of a function is held in a later world
self_held : {w w' : World} (made : List (ℕ × List Captured)) (word : Option ℕ) → Later w w' → (cs : List Captured) → SelfHeld w made word cs → SelfHeld w' made word cs
self_held made word l [] h = tt
self_held made word l (c ∷ cs) h =
    (h.0, h.1, record { number = h.2.number; captured = h.2.captured; spot = h.2.spot; there = l.spots (of_object h.2.number) h.2.spot h.2.there; here = h.2.here })

captured_fits : (setting : Setting) {w w' : World} (entry : ℕ) (extra : Extra) (q : FlatProcedure) (cs : List Captured) → Later w w' → CapturedFits setting w entry extra q cs → CapturedFits setting w' entry extra q cs
captured_fits setting entry nothing q cs l h = h
captured_fits setting entry its_method q cs l h = h
captured_fits setting entry itself q cs l h = (h.0, λ p forms at lead. made_by_later l cs forms (h.1 p forms at lead))

module _ (setting : Setting) (placed : IsPlaced setting) (k t : ℕ) (few : suc t ≤ setting.turns_each) (rs valid : List Standing) (around : DynamicContext) (parts : ApplyParts setting k around)
    (w : World) (z : FlatState) (f list : Value) (word list_word : ℕ) (is_f : WordIs setting w word f) (is_list : WordIs setting w list_word list)
    (cells : List (ℕ × Value)) (path : Path z.state cells list nil) (different : AreDifferent (numbers cells)) (few_cells : length cells ≤ t) where
  abbrev c : Context
  c = code_at setting k (suc t)

  abbrev m : ℕ
  m = suc t + 1

  abbrev HereY : MidState → Type 0
  HereY y = HereAt setting placed k t few rs valid around parts w z f list word list_word is_f is_list y

  abbrev Ends : ℕ → MidState → FlatEvaluated → MidOutcome → Type 0
  Ends credit y r q = CallEnds setting credit m rs valid w around z y r q

  abbrev regs_of : (r2 r3 r4 r5 r6 r7 r8 r9 r10 r11 : Option ℕ) → Registers
  regs_of r2 r3 r4 r5 r6 r7 r8 r9 r10 r11 = Some word ∷ Some list_word ∷ r2 ∷ r3 ∷ r4 ∷ r5 ∷ r6 ∷ r7 ∷ r8 ∷ r9 ∷ r10 ∷ r11 ∷ []

  cost_here : {y : MidState} (p : ℕ) → HereY y → HereY (mid_charged p y)
  cost_here p h = here_cost setting placed k t few rs valid around parts w z f list word list_word is_f is_list p h

  abbrev vs : List Value
  vs = cars cells

  abbrev n : ℕ
  n = length cells

  same_many : length vs ≡ n
  same_many = many_cars cells

  abbrev of_function : Steps
  of_function = function_part setting placed k t few rs valid around parts w z f list word list_word is_f is_list

  abbrev of_generic : Steps
  of_generic = generic_part setting placed k t few rs valid around parts w z f list word list_word is_f is_list

  abbrev all_steps : Steps
  all_steps = applied_steps setting placed k t few rs valid around parts w z f list word list_word is_f is_list

  module _ (number : ℕ) (extra : Extra) (q : FlatProcedure) (cs : List Captured) (is_one : IsFunction setting number extra q) (fits : CapturedFits setting w number extra q cs)
      (held : SelfHeld w z.captured (Some word) cs) (as_extra : CalledFits setting extra None) where
    abbrev meant : FlatState → FlatEvaluated
    meant x = enter (context_at setting k) (signal (context_at setting k)) q cs None vs around x

    abbrev entered : FlatEvaluated
    entered = descend (below_at setting k) (λ x. meant x) around z

    abbrev req : ℕ
    req = length q.required

    abbrev more_taken : Bool
    more_taken = is_some q.rest

    abbrev arity : ℕ
    arity = arity_word req more_taken

    abbrev tail : Steps
    tail = constant 3 0 ∷ call_number 10 11 (0 ∷ 3 ∷ 2 ∷ 9 ∷ []) ∷ []

    abbrev given_words : ℕ → List ℕ
    given_words at = word ∷ 0 ∷ n ∷ at ∷ []

    abbrev block_steps : Steps
    block_steps = lend 9 2 (code_of (list_copied setting.at ++ tail)) ∷ return_word 10 ∷ []

    meant_grows : FlatGrown z (meant z).state
    meant_grows =
        grown_later
        (enters {R = FlatLater} {k = later_kept} (context_at setting k) (tasks_below setting k) (signal (context_at setting k))
        (signals {R = FlatLater} {k = later_kept} (context_at setting k) (tasks_below setting k)) q cs None vs around z).grows

    -- the function is entered where there is a level
    entry_comes :
        1 ≤ k → takes req more_taken (length vs) ≡ true → (level : ℕ) (r3 r4 r5 r6 r7 r8 : Option ℕ) (y : MidState) → HereY y
        → Ends (160 + 54 * n) y (meant z) (exec c (code_of block_steps) (regs_of (Some n) r3 r4 r5 r6 r7 r8 None (Some level) (Some number)) y)
    entry_comes some taken level r3 r4 r5 r6 r7 r8 y h =
        block_comes setting placed k t rs valid around w z word list_word cells list path different is_list few_cells (Some level) (Some number) tail number 70 0 given_words (meant z) meant_grows
        r3 r4 r5 r6 r7 r8 None (160 + 54 * n) y h (omega arith) wanting behind inside
      where
        wanting : left y.arena < n + 2 → RoomEnded setting setting.limit (meant z).outcome
        wanting short = by setting.limit refl h.call.room
          where
            by : (l : Limit) → setting.limit ≡ l → RoomFor l (entry_words + words_for_handler * length around.handlers) z.state y → RoomEnded setting l (meant z).outcome
            by unlimited same room = tt
            by (words x) same room = entered_full setting k around z q cs vs x taken same (omega (arith, room, short, same_many))

        behind : (at to : ℕ) (r6' : Option ℕ) (x : MidState)
            → Tail setting placed k t rs valid around w z word list_word cells list path different is_list few_cells (Some level) (Some number) tail number 70 0 given_words (meant z) meant_grows at to r6' r7 r8 x
        behind at to r6' x =
            let regs : Registers = regs_of (Some n) (Some 0) (Some to) (Some nil_word) r6' r7 r8 (Some at) (Some level) (Some number) in
            record {
              regs = regs;
              low = omega arith;
              runs =
                  (and_then constant_falls
                  (record {
                    same =
                        single_step c (call_number 10 11 (0 ∷ 3 ∷ 2 ∷ 9 ∷ [])) regs (mid_charged 6 x)
                        ∙ call_number_comes c regs (mid_charged 6 x) 10 number (0 ∷ 3 ∷ 2 ∷ 9 ∷ []) (given_words at) (refl, (refl, (refl, (refl, tt)))) 11 refl
                        ∙ ap (λ p. mid_called (called c number (given_words at) (record x { cost = p })) 10 regs) (omega arith);
                  })).same;
            }

        inside :
            (w1 : World) (at : ℕ) (y1 : MidState) → Later w w1 → LentBegins setting rs valid entry_words (length vs) w1 around z y1 → SiteStored setting around y1 → ArgumentsLent setting w1 y1.arena at vs
            → CallEnds setting 0 m rs valid w1 around z y1 (meant z) (called c number (given_words at) y1)
        inside w1 at y1 later begins site lent =
            subst (λ a. CallEnds setting 0 m rs valid w1 around z y1 (meant z) (called c number (word ∷ 0 ∷ a ∷ at ∷ []) y1)) same_many
            (subst (λ r. CallEnds setting 0 m rs valid w1 around z y1 r (called c number (word ∷ 0 ∷ length vs ∷ at ∷ []) y1)) (there_is k some)
            (calls_recounted setting {c1 = entry_credit (length vs)} {m1 = suc t} z (z.state.units + 1) z.state.units (omega arith) (omega arith)
            (at_level
            (λ i.
            SparingCall setting (entry_credit (length vs)) (suc t) rs valid w1 around z y1
            (descend (below_at setting i) (λ entered. enter (context_at setting i) (signal (context_at setting i)) q cs None vs around entered) around z)
            (called (code_at setting i (suc t)) number (word ∷ 0 ∷ length vs ∷ at ∷ []) y1)) k some
            (λ j same.
            parts.entries j same (suc t) number extra q few rs valid cs vs word at w1 around z y1 is_one (captured_fits setting number extra q cs later fits) as_extra begins site lent taken
            (self_held z.captured (Some word) later cs held)))))
          where
            there_is : (j : ℕ) → 1 ≤ j → descend (below_at setting j) (λ x. meant x) around z ≡ meant z
            there_is zero low = absurd (omega (arith, low))
            there_is (suc j) low = level_there setting j (λ x. meant x) around z

    -- a level is judged
    judged_comes :
        takes req more_taken (length vs) ≡ true → (r3 r4 r5 r6 r7 r8 : Option ℕ) (y : MidState) → HereY y
        → Ends (240 + 54 * n) y entered (exec c (code_of (call 10 (level_routine setting.at) [] ∷ block_steps)) (regs_of (Some n) r3 r4 r5 r6 r7 r8 None None (Some number)) y)
    judged_comes taken r3 r4 r5 r6 r7 r8 y h =
        subst (λ o. Ends (240 + 54 * n) y entered o) (sym (step_then c (call 10 (level_routine setting.at) []) block_steps (regs_of (Some n) r3 r4 r5 r6 r7 r8 None None (Some number)) y))
        (judged_over setting placed k (suc t) m 10 (160 + 54 * n) (240 + 54 * n) rs valid w around z y (regs_of (Some n) r3 r4 r5 r6 r7 r8 None None (Some number)) (λ x. meant x) (λ g x. exec c (code_of block_steps) g x)
        (fewer_begins setting placed k t few rs valid around parts w z f list word list_word is_f is_list level_words (omega arith) h.call) (omega arith) meant_grows (λ g x. steps_grown setting k (suc t) block_steps g x)
        (λ some level y' world back site. entry_comes some taken level r3 r4 r5 r6 r7 r8 y' (here_then setting placed k t few rs valid around parts w z f list word list_word is_f is_list world back (site h.site) h)))

    -- a wrong number of arguments
    wrong_comes : takes req more_taken (length vs) ≡ false → (r3 r4 r5 r6 r7 r8 : Option ℕ) (y : MidState) → HereY y
        → Ends 196 y entered (exec c (code_of (wrong_number setting.at 5)) (regs_of (Some n) r3 r4 r5 r6 r7 r8 None None (Some number)) y)
    wrong_comes none r3 r4 r5 r6 r7 r8 y h =
        subst (λ o. Ends 196 y entered o) (sym (step_then c (call 5 (level_routine setting.at) []) (signals_steps setting.at 5 program_error_class) (regs_of (Some n) r3 r4 r5 r6 r7 r8 None None (Some number)) y))
        (judged_over setting placed k (suc t) m 5 116 196 rs valid w around z y (regs_of (Some n) r3 r4 r5 r6 r7 r8 None None (Some number)) (λ x. meant x)
        (λ g x. exec c (code_of (signals_steps setting.at 5 program_error_class)) g x)
        (fewer_begins setting placed k t few rs valid around parts w z f list word list_word is_f is_list level_words (omega arith) h.call) (omega arith) meant_grows
        (λ g x. steps_grown setting k (suc t) (signals_steps setting.at 5 program_error_class) g x)
        (λ some level y' world back site.
        subst (λ r. Ends 116 y' r (exec c (code_of (signals_steps setting.at 5 program_error_class)) (regs_of (Some n) r3 r4 (Some level) r6 r7 r8 None None (Some number)) y')) (sym (second_of _ _ none))
        (fails_comes setting placed k t few rs valid around parts w z f list word list_word is_f is_list 5 (regs_of (Some n) r3 r4 (Some level) r6 r7 r8 None None (Some number)) y' (refl, tt) (omega arith)
        (here_then setting placed k t few rs valid around parts w z f list word list_word is_f is_list world back (site h.site) h))))

    -- ---- whether so many are taken

    abbrev wrong : Steps
    wrong = wrong_number setting.at 5

    abbrev last_steps : Steps
    last_steps = call 10 (level_routine setting.at) [] ∷ block_steps

    abbrev test_steps : Steps
    test_steps = if_equal 6 5 (where_so LessUnsigned 2 7 wrong [] ∷ []) (where_so Different 2 7 wrong [] ∷ []) ∷ []

    taken_so : {b : Bool} → takes req more_taken n ≡ b → takes req more_taken (length vs) ≡ b
    taken_so e = ap (λ a. takes req more_taken a) same_many ∙ e

    module _ (r4 r8 : Option ℕ) (odd_word : ℕ) where
      abbrev told : Registers
      told = regs_of (Some n) (Some arity) r4 (Some 1) (Some odd_word) (Some req) r8 None None (Some number)

      tested_comes : (o : Bool) → more_taken ≡ o → (odd_word == 1) ≡ o → (b : Bool) → takes req o n ≡ b → (y : MidState) → HereY y
          → Ends (268 + 54 * n) y entered (exec c (code_of (test_steps ++ last_steps)) told y)
      tested_comes true rest odd true taken y h =
          straight setting k (suc t) m rs valid w around z entered 28 (240 + 54 * n) (omega arith) h.call.things
          ((and_then (choose_first_falls refl refl odd (and_then (choose_second_falls refl refl (some_more req n taken) none_left) none_left)) (record { same = refl })).same
          ∙ ap (λ x. exec c (code_of last_steps) told (record y { cost = x })) (omega arith))
          (judged_comes (taken_so (ap (λ o. takes req o n) rest ∙ taken)) (Some arity) r4 (Some 1) (Some odd_word) (Some req) r8 (mid_charged 28 y) (cost_here 28 h))
      tested_comes false rest odd true taken y h =
          straight setting k (suc t) m rs valid w around z entered 28 (240 + 54 * n) (omega arith) h.call.things
          ((and_then (choose_second_falls refl refl odd (and_then (choose_second_falls refl refl (so_many req n taken) none_left) none_left)) (record { same = refl })).same
          ∙ ap (λ x. exec c (code_of last_steps) told (record y { cost = x })) (omega arith))
          (judged_comes (taken_so (ap (λ o. takes req o n) rest ∙ taken)) (Some arity) r4 (Some 1) (Some odd_word) (Some req) r8 (mid_charged 28 y) (cost_here 28 h))
      tested_comes true rest odd false taken y h =
          first_branch setting k (suc t) m rs valid w around z entered 208 (test_of Equal 6 5) (where_so LessUnsigned 2 7 wrong [] ∷ []) (where_so Different 2 7 wrong [] ∷ []) last_steps told y (omega arith)
          h.call.things refl refl odd
          (first_branch setting k (suc t) m rs valid w around z entered 196 (test_of LessUnsigned 2 7) wrong [] [] told (mid_charged 12 y) (omega arith) (cost_here 12 h).call.things refl refl
          (too_few req n taken)
          (wrong_comes (taken_so (ap (λ o. takes req o n) rest ∙ taken)) (Some arity) r4 (Some 1) (Some odd_word) (Some req) r8 (mid_charged 12 (mid_charged 12 y)) (cost_here 12 (cost_here 12 h))))
      tested_comes false rest odd false taken y h =
          second_branch setting k (suc t) m rs valid w around z entered 208 (test_of Equal 6 5) (where_so LessUnsigned 2 7 wrong [] ∷ []) (where_so Different 2 7 wrong [] ∷ []) last_steps told y (omega arith)
          h.call.things refl refl odd
          (first_branch setting k (suc t) m rs valid w around z entered 196 (test_of Different 2 7) wrong [] [] told (mid_charged 12 y) (omega arith) (cost_here 12 h).call.things refl refl
          (others_many req n taken)
          (wrong_comes (taken_so (ap (λ o. takes req o n) rest ∙ taken)) (Some arity) r4 (Some 1) (Some odd_word) (Some req) r8 (mid_charged 12 (mid_charged 12 y)) (cost_here 12 (cost_here 12 h))))

    -- **the function is entered**, or that is an error
    function_comes :
        ArityStands setting number q → (r3 r4 r5 r6 r7 r8 : Option ℕ) (y : MidState) → HereY y → word_at y.arena (word + 2) ≡ Some number → word + 2 < 2 ^ 32
        → Ends (342 + 54 * n) y entered (exec c (code_of of_function) (regs_of (Some n) r3 r4 r5 r6 r7 r8 None None None) y)
    function_comes stands r3 r4 r5 r6 r7 r8 y h number_there low =
        let there = constants_law setting w z y h.call.things (setting.at.arities + 4 * number) arity stands in
        let below = there.1 in
        let sum : 4 * number + setting.at.arities < 2 ^ 32 = omega (arith, below) in
        straight setting k (suc t) m rs valid w around z entered 74 (268 + 54 * n) (omega arith) h.call.things
        ((and_then (load_falls refl (address_above word 2 (word + 2) (omega arith) low) number_there)
        (and_then constant_falls
        (and_then (compute_known refl refl (four_times_count number (omega (arith, below))))
        (and_then constant_falls
        (and_then (compute_known refl refl (sum_fits (4 * number) setting.at.arities sum))
        (and_then (load_falls refl (address_above (4 * number + setting.at.arities) 0 (setting.at.arities + 4 * number) (omega arith) (omega (arith, below))) there.0)
        (and_then constant_falls
        (and_then (compute_known refl refl (and_mask arity 1))
        (and_then (compute_known refl refl (half_is req more_taken))
        (record { same = refl })))))))))).same
        ∙ ap (λ x. exec c (code_of (test_steps ++ last_steps)) (told (Some setting.at.arities) r8 (arity % 2)) (record y { cost = x })) (omega arith))
        (tested_comes (Some setting.at.arities) r8 (arity % 2) more_taken refl (odd_tells req more_taken) (takes req more_taken n) refl (mid_charged 74 y) (cost_here 74 h))

  -- ---- by the tag and the header

  abbrev generic_test : Steps
  generic_test = constant 4 generic_header ∷ if_equal 3 4 of_generic [] ∷ []

  abbrev header_steps : Steps
  header_steps = load_header 3 0 ∷ constant 4 function_header ∷ if_equal 3 4 of_function generic_test ∷ []

  abbrev pub value_meant : FlatEvaluated
  value_meant = apply_value (context_at setting k) (signal (context_at setting k)) f vs around z

  small : {y : MidState} → HereY y → word < 2 ^ 32
  small {y} h = word_told setting.names (tables setting.program) w.places z.state y h.call.things.represents f word is_f

  -- where the tag is that of an object, up to its header
  pub tag_comes :
      (credit total header : ℕ) (r5 r6 r7 r8 : Option ℕ) (y : MidState) → credit + 48 ≤ total → HereY y → (word % 4 == object_tag) ≡ true → word_at y.arena (word - 2) ≡ Some header
      → Ends credit (mid_charged 48 y) value_meant (exec c (code_of (if_equal 3 4 of_function generic_test ∷ [])) (regs_of (Some n) (Some header) (Some function_header) r5 r6 r7 r8 None None None) (mid_charged 48 y))
      → Ends total y value_meant (exec c (code_of all_steps) (regs_of (Some n) (Some nil_word) (Some nil_word) r5 r6 r7 r8 None None None) y)
  tag_comes credit total header r5 r6 r7 r8 y enough h tag there e =
      let high : 2 ≤ word = grind (arith, nat_tests, tag) in
      let start : word ≡ (word - 2) + suc 1 = omega (arith, high) in
      let limit = small h in
      straight setting k (suc t) m rs valid w around z value_meant 22 (credit + 26) (omega (arith, enough)) h.call.things
      ((and_then constant_falls (and_then (compute_known refl refl (and_mask word 2)) (and_then constant_falls (record { same = refl })))).same
      ∙ ap (λ x. exec c (code_of (if_equal 3 4 header_steps [] ∷ rest_steps)) (regs_of (Some n) (Some (word % 4)) (Some object_tag) r5 r6 r7 r8 None None None) (record y { cost = x })) (omega arith))
      (first_branch setting k (suc t) m rs valid w around z value_meant (credit + 14) (test_of Equal 3 4) header_steps [] rest_steps (regs_of (Some n) (Some (word % 4)) (Some object_tag) r5 r6 r7 r8 None None None) (mid_charged 22 y) (omega arith)
      (cost_here 22 h).call.things refl refl tag
      (straight setting k (suc t) m rs valid w around z value_meant 14 credit (omega arith) (cost_here 12 (cost_here 22 h)).call.things
      ((and_then (load_falls refl (address_below word 1 (word - 2) start limit) there) (and_then constant_falls (record { same = refl }))).same
      ∙ ap (λ x. exec c (code_of (if_equal 3 4 of_function generic_test ∷ [])) (regs_of (Some n) (Some header) (Some function_header) r5 r6 r7 r8 None None None) (record y { cost = x })) (omega arith))
      (subst (λ x. Ends credit (record y { cost = x }) value_meant (exec c (code_of (if_equal 3 4 of_function generic_test ∷ [])) (regs_of (Some n) (Some header) (Some function_header) r5 r6 r7 r8 None None None) (record y { cost = x })))
      (omega arith) e)))
    where
      rest_steps : Steps
      rest_steps = signals_domain setting.at 0 3 function_class

  function_path :
      (number : ℕ) (extra : Extra) (q : FlatProcedure) (cs : List Captured) → IsFunction setting number extra q → CapturedFits setting w number extra q cs → SelfHeld w z.captured (Some word) cs
      → CalledFits setting extra None → ArityStands setting number q → value_meant ≡ descend (below_at setting k) (λ x. enter (context_at setting k) (signal (context_at setting k)) q cs None vs around x) around z
      → (r5 r6 r7 r8 : Option ℕ) (y : MidState) → HereY y → (word % 4 == object_tag) ≡ true → word_at y.arena (word - 2) ≡ Some function_header
      → word_at y.arena (word + 2) ≡ Some number → word + 2 < 2 ^ 32 → Ends (402 + 54 * n) y value_meant (exec c (code_of all_steps) (regs_of (Some n) (Some nil_word) (Some nil_word) r5 r6 r7 r8 None None None) y)
  function_path number extra q cs is_one fits held as_extra arity same r5 r6 r7 r8 y h tag header there low =
      let regs : Registers = regs_of (Some n) (Some function_header) (Some function_header) r5 r6 r7 r8 None None None in
      tag_comes (354 + 54 * n) (402 + 54 * n) function_header r5 r6 r7 r8 y (omega arith) h tag header
      (first_branch setting k (suc t) m rs valid w around z value_meant (342 + 54 * n) (test_of Equal 3 4) of_function generic_test [] regs (mid_charged 48 y) (omega arith)
      (cost_here 48 h).call.things refl refl refl
      (subst (λ r. Ends (342 + 54 * n) (mid_charged 12 (mid_charged 48 y)) r (exec c (code_of of_function) regs (mid_charged 12 (mid_charged 48 y)))) (sym same)
      (function_comes number extra q cs is_one fits held as_extra arity (Some function_header) (Some function_header) r5 r6 r7 r8 (mid_charged 12 (mid_charged 48 y)) (cost_here 12 (cost_here 48 h)) there low)))

  -- ---- by what the value is

  abbrev applied : Option Object → Option (List Captured) → FlatEvaluated
  applied o captured = apply_object (context_at setting k) (signal (context_at setting k)) o captured f vs around z

  self_is :
      (number : ℕ) (y : MidState) (h : HereY y) (o : Object) (it : ObjectFound setting.names (tables setting.program) w.places z.state y h.call.things.represents f word o) → word ≡ it.spot.address + object_tag
      → (cs : List Captured) → under it.number z.captured ≡ Some cs → SelfHeld w z.captured (Some word) cs
  self_is number y h o it here [] e = tt
  self_is number y h o it here (c ∷ cs) e = (word, refl, record { number = it.number; captured = e; spot = it.spot; there = it.found; here = here })

  defined_fits : (b : Bool) (p : ℕ) (q : FlatProcedure) → CapturedFits setting w p (if b then its_method else nothing) q []
  defined_fits true p q = refl
  defined_fits false p q = refl

  defined_called : (b : Bool) → CalledFits setting (if b then its_method else nothing) None
  defined_called true = tt
  defined_called false = refl

  pub function_found : (p : ℕ) → fetch z.state f ≡ Some (function p) → (r5 r6 r7 r8 : Option ℕ) (y : MidState) → HereY y
      → Ends (402 + 54 * n) y value_meant (exec c (code_of all_steps) (regs_of (Some n) (Some nil_word) (Some nil_word) r5 r6 r7 r8 None None None) y)
  function_found p e r5 r6 r7 r8 y h = by (under it.number z.captured) refl (h.call.things.functions it.number p it.spot it.stored it.found)
    where
      it : ObjectFound setting.names (tables setting.program) w.places z.state y h.call.things.represents f word (function p)
      it = object_found setting.names (tables setting.program) w.places z.state y h.call.things.represents f word (function p) is_f e

      captured_is : captured_by f z ≡ under it.number z.captured
      captured_is = ap (λ v. captured_by v z) it.value

      tag_is : (word % 4 == object_tag) ≡ true
      tag_is = let here = it.word in let aligned = it.spot_stands.aligned in eq-eqb (word % 4) object_tag (omega (arith, here, aligned))

      header_is : word_at y.arena (word - 2) ≡ Some function_header
      header_is = let here = it.word in let same : word - 2 ≡ it.spot.address = omega (arith, here) in ap (word_at y.arena) same ∙ it.stands.header

      behind : word + 2 ≡ it.spot.address + 4
      behind = let here = it.word in omega (arith, here)

      low : word + 2 < 2 ^ 32
      low = let here = behind in let many = it.stands.words in let below = spot_low h.call.things.represents.arena it.spot_stands in omega (arith, here, many, below)

      by : (o : Option (List Captured)) → under it.number z.captured ≡ o → FunctionStands setting w y.arena it.spot p o
          → Ends (402 + 54 * n) y value_meant (exec c (code_of all_steps) (regs_of (Some n) (Some nil_word) (Some nil_word) r5 r6 r7 r8 None None None) y)
      by None same d =
          function_path p (extra_of setting.names setting.at setting.program p) d.row [] (inl (d.there, refl)) (defined_fits (is_method setting.program p) p d.row) tt
          (defined_called (is_method setting.program p)) (placed.procedure_arities p d.row d.there)
          (ap (λ o. applied o (captured_by f z)) e ∙ ap (λ o. applied (Some (function p)) o) (captured_is ∙ same)
          ∙ ap (λ o. descend (below_at setting k) (λ x. with_some o (λ a y. gives nil y) (λ q. enter (context_at setting k) (signal (context_at setting k)) q [] None vs) around x) around z) d.there)
          r5 r6 r7 r8 y h tag_is header_is (ap (word_at y.arena) behind ∙ d.number) low
      by (Some cs) same d =
          function_path (entry_of_lambda setting.at p) itself d.row cs (inr (p, d.there, refl, refl)) (
            d.kinds,
            λ p' forms at lead.
                let one : p ≡ p' = omega (arith, at) in
                let same_forms : d.forms ≡ forms = cc (d.lead, ap (λ i. slice_get setting.leads.functions i) one, lead) in
                subst (λ fs. AreMadeBy w cs fs) same_forms d.made_by,
          )
          (self_is p y h (function p) it it.word cs same) refl (placed.lambda_arities p d.row d.there)
          (ap (λ o. applied o (captured_by f z)) e ∙ ap (λ o. applied (Some (function p)) o) (captured_is ∙ same)
          ∙ ap (λ o. descend (below_at setting k) (λ x. with_some o (λ a y. gives nil y) (λ q. enter (context_at setting k) (signal (context_at setting k)) q cs None vs) around x) around z) d.there)
          r5 r6 r7 r8 y h tag_is header_is (ap (word_at y.arena) behind ∙ d.number) low
