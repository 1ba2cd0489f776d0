-- How many slots an instance has, what is in a slot, and whether something is: the code does what the meaning says of them.
use Rattle.std.proofs.Common.{◌≡◌, ℕ, ◌+◌, ◌*◌, ◌^◌, ◌<◌, ◌≤◌, ℤ, pos, true, false, List, [], ◌∷◌, ◌++◌, length, Option, Some, None, refl, ap, ◌∙◌, arith}
use Rattle.std.specs.Prelude.{negsuc, ◌==◌, not, slice_get, slice_set, slice_index_or}
use Rattle.std.proofs.lemmas.Bool.Decides.{nat_tests}
use Rattle.std.proofs.lemmas.Option.{slice_get-get_or}
use Rattle.lang_meaning.specs.declared.program.ProgramRows.{ProgramRows}
use Rattle.lang_meaning.specs.declared.primitive.Primitive.TheVariants.{SlotCount, SlotRef, SlotBound}
use Rattle.lang_meaning.specs.Values.{Value, integer, character, symbol, nil, object, in_range}
use Rattle.lang_meaning.specs.Objects.{instance, program_error_class, standard_object_class}
use Rattle.lang_meaning.specs.State as meaning
use Rattle.lang_meaning.specs.Primitives.{Answer, result, a_slot, an_integer, an_index, says, slot_value, has_value}
use Rattle.mid_code.specs.declared.program.MidProcedure.{MidProcedure}
use Rattle.mid_code.specs.declared.operation.Arithmetic.TheVariants as which
use Rattle.mid_code.specs.declared.operation.Comparison.TheVariants.{Different}
use Rattle.base.specs.Arithmetic.{sum32}
use Rattle.mid_code.specs.Words.{address}
use Rattle.mid_code.specs.Arena.{word_at}
use Rattle.mid_code.specs.MidCode.{MidStep, return_word, code_of}
use Rattle.mid_code.specs.State.{Registers, MidState, MidOutcome, register, first_registers}
use Rattle.mid_code.specs.Meaning.{Task}
use Rattle.mid_arena.specs.Tags.{integer_word, instance_header, unbound_word}
use Rattle.mid_arena.specs.Places.{Places, word_of}
use Rattle.mid_arena.specs.Standing.{SlotAt}
use Rattle.mid_arena.specs.FixedWords.{class_address}
use Rattle.mid_arena.specs.Represents.{Represents}
use Rattle.mid_arena.specs.Steps as steps
use Rattle.mid_arena.specs.Steps.{steps_of}
use Rattle.mid_arena.specs.declared.line.Line.TheVariants as line
use Rattle.mid_arena.proofs.Running.{load_falls, constant_falls, compute_known, address_above, address_below}
use Rattle.mid_arena.proofs.Keeping.{words_at_least}
use Rattle.mid_arena.proofs.Arguments.{ObjectFound, object_found, character_word_is, length_word_is}
use Rattle.mid_arena.proofs.Telling.{integer_low, symbol_low, object_low}
use Rattle.mid_arena.proofs.Doing.{alike_self, Run, goes_on, returns_value, test_passes, second_answers}
use Rattle.mid_arena.proofs.Conditions.{program_error as of_program, signal_run}
use Rattle.mid_arena.proofs.Checking.{tag_registers, instance_registers, integer_needed}
use Rattle.mid_arena.proofs.Needing.{instance_needed}
use Rattle.mid_arena.proofs.Saying.{says_run}
use Rattle.mid_arena.proofs.Arrays.{index_needed}
use Rattle.mid_arena.proofs.Taking.{does_one, does_two}
use Rattle.mid_arena.proofs.Registers.{Scratched, not_scratched, register_here, scratched_seven, scratched_six, seven_behind_six, six_here}
use Rattle.mid_arena.proofs.WordFacts.{header_without_kind, four_times_count, sum_fits}
use Rattle.mid_arena.proofs.Memory.{spot_low}
use Rattle.mid_arena.proofs.Entering.{InEveryFrame}

-- ---- registers

pub instance_scratched : (w h : ℕ) (rs : Registers) → length rs ≡ 8 → Scratched rs (instance_registers w h rs)
instance_scratched w h rs size =
    scratched_six _ _ _ (scratched_seven _ _ _ (scratched_six _ _ _ (scratched_seven _ _ _ (scratched_six _ _ _ (scratched_seven _ _ _ (scratched_six _ _ _ (not_scratched rs size)))))))

-- behind the test of an instance and that of an integer
abbrev pub place_registers : (w x count : ℕ) → Registers → Registers
place_registers w x count rs = tag_registers x 0 (instance_registers w (instance_header count) rs)

place_scratched : (w x count : ℕ) (rs : Registers) → length rs ≡ 8 → Scratched rs (place_registers w x count rs)
place_scratched w x count rs size = scratched_six _ _ _ (scratched_seven _ _ _ (scratched_six _ _ _ (instance_scratched w (instance_header count) rs size)))

-- with four times the number of slots in register 7
abbrev pub slot_registers : (w x count : ℕ) → Registers → Registers
slot_registers w x count rs =
    slice_set (slice_set (slice_set (slice_set (slice_set (place_registers w x count rs) 7 (Some (instance_header count))) 6 (Some 4)) 7 (Some count)) 6 (Some 2))
    7 (Some (4 * count))

slot_scratched : (w x count : ℕ) (rs : Registers) → length rs ≡ 8 → Scratched rs (slot_registers w x count rs)
slot_scratched w x count rs size =
    scratched_seven _ _ _ (scratched_six _ _ _ (scratched_seven _ _ _ (scratched_six _ _ _ (scratched_seven _ _ _ (place_scratched w x count rs size)))))

-- ---- the code that primitives of slots have in common

-- what was paid where an instance was found, a place in it, and that it is one of its slots
abbrev pub instance_paid : ℕ → ℕ
instance_paid k = k + 6 + 10 + 6 + 12 + 2 + 8 + 6 + 10 + 6 + 12 + 2

abbrev pub place_paid : ℕ → ℕ
place_paid k = instance_paid k + 6 + 10 + 6 + 12 + 2

abbrev pub slot_paid : ℕ → ℕ
slot_paid k = place_paid k + 8 + 6 + 10 + 6 + 10 + 12 + 2

module _ (names : List (List ℕ)) (program : ProgramRows) (places : Places) (z : meaning.State) (y : MidState) (r : Represents names program places z y) where
  -- an instance stands in the heap or beside the code, so its word and the number of its slots are not large
  pub instance_low :
      (v : Value) (w c : ℕ) (values : List (Option Value)) (mark : Value) → ObjectFound names program places z y r v w (instance c values mark)
      → w + 4 * length values + 8 < 2 ^ 27
  instance_low v w c values mark it =
      let high = spot_low r.arena it.spot_stands in
      omega (arith, it.word, it.stands.size.words, words_at_least program c (length values), high)

  -- no value has the word of a slot without a value
  pub no_value_unbound : (v : Value) (w : ℕ) → word_of places v ≡ Some w → (w == unbound_word) ≡ false
  no_value_unbound (integer n) w e = let low = integer_low names program places z y r n w e in grind (arith, nat_tests)
  no_value_unbound (character c) w e = let is = (character_word_is places c w e).1 in grind (arith, nat_tests)
  no_value_unbound (symbol s) w e = let low = symbol_low names program places z y r s w e in grind (arith, nat_tests)
  no_value_unbound nil w e = let is : 3 ≡ w = cc e in rw (← is) refl
  no_value_unbound (object i) w e = let low = object_low names program places z y r i w e in grind (arith, nat_tests)

module _
    (names : List (List ℕ)) (program : ProgramRows) (places : Places) (z : meaning.State) (y : MidState) (r : Represents names program places z y)
    (procedures : List MidProcedure) (below : Task → MidState → MidOutcome)
  where
    -- an instance and a place of its slots, with which the code behind goes on, or a condition: it costs 170 to find them
    pub slot_needed :
        (n budget k of at w x : ℕ) (v place : Value) (next : ℕ × List (Option Value) × Value → ℕ → Answer) (rest : List MidStep) (rs : Registers)
        → of < 3 → at < 3 → length rs ≡ 8 → register of rs ≡ Some w → register at rs ≡ Some x → word_of places v ≡ Some w → word_of places place ≡ Some x
        → k + 300 + 250 * z.units ≤ budget + 250 * (z.units + 3)
        → ((c : ℕ) (values : List (Option Value)) (mark : Value) (j : ℕ) → ObjectFound names program places z y r v w (instance c values mark)
        → j < length values → x ≡ 4 * j
        → Run names program places z y procedures below n budget (next (c, values, mark) j) (code_of rest) (slot_registers w x (length values) rs) (slot_paid k))
        → Run names program places z y procedures below n budget (a_slot v place z next) (code_of (steps_of (line.NeedPlace of at) ++ rest)) rs k
    slot_needed n budget k of at w x v place next rest rs of_low at_low size of_held at_held of_word at_word cost more =
        instance_needed names program places z y r procedures below n of w standard_object_class v rs of_low size of_held of_word (omega arith) budget k
        (λ i. an_integer place z (λ m. an_index m (length i.1) z (λ j. next i j)))
        (steps.need_integer at ++ steps.slot_count of ++ indexing) (omega (arith, cost))
        (λ c values mark found.
        let it = object_found names program places z y r v w (instance c values mark) of_word found in
        let scratched = instance_scratched w (instance_header (length values)) rs size in
        integer_needed names program places z y r procedures below n budget _ at x place (λ m. an_index m (length values) z (λ j. next (c, values, mark) j))
        (steps.slot_count of ++ indexing) (instance_registers w (instance_header (length values)) rs) at_low scratched.size (scratched.others at (omega arith) ∙ at_held) at_word
        (omega (arith, cost)) (λ m is range word. counted c values mark m it range word))
      where
        indexing : List MidStep
        indexing = steps.need_below at 7 ∷ rest

        counted :
            (c : ℕ) (values : List (Option Value)) (mark : Value) (m : ℤ) → ObjectFound names program places z y r v w (instance c values mark)
            → in_range m ≡ true → x ≡ integer_word m
            → Run names program places z y procedures below n budget (an_index m (length values) z (λ j. next (c, values, mark) j)) (code_of (steps.slot_count of ++ indexing))
            (place_registers w x (length values) rs) (place_paid k)
        counted c values mark m it range word =
            let low = instance_low names program places z y r v w c values mark it in
            let count : ℕ = length values in
            let place_there : Scratched rs (place_registers w x count rs) = place_scratched w x count rs size in
            let first : Scratched rs (slice_set (place_registers w x count rs) 7 (Some (instance_header count))) = scratched_seven _ _ _ place_there in
            let second : Scratched rs (slice_set (slice_set (slice_set (place_registers w x count rs) 7 (Some (instance_header count))) 6 (Some 4)) 7 (Some count)) =
            scratched_seven _ _ _ (scratched_six _ _ _ first) in
            let last : Scratched rs (slot_registers w x count rs) = slot_scratched w x count rs size in
            goes_on names program places z y procedures below
            (load_falls (place_there.others of (omega arith) ∙ of_held) (address_below w 1 it.spot.address it.word (omega (arith, low))) it.stands.header)
            (goes_on names program places z y procedures below constant_falls
            (goes_on names program places z y procedures below
            (compute_known (seven_behind_six _ _ _ place_there.size) (six_here _ _ first.size) (header_without_kind count))
            (goes_on names program places z y procedures below constant_falls
            (goes_on names program places z y procedures below
            (compute_known (seven_behind_six _ _ _ (scratched_six _ _ _ first).size) (six_here _ _ second.size) (four_times_count count (omega (arith, low))))
            (index_needed names program places z y r procedures below n budget (place_paid k + 8 + 6 + 10 + 6 + 10) at count m (λ j. next (c, values, mark) j) rest
            (slot_registers w x count rs) last.size (last.others at (omega arith) ∙ at_held ∙ ap (λ u. Some u) word)
            (register_here _ 7 (4 * count) (omega (arith, (scratched_six _ _ (Some 2) second).size))) range (omega (arith, low)) (omega (arith, cost))
            (λ j inside at_place. more c values mark j it inside (word ∙ at_place)))))))

-- ---- slots one by one

pub slot_count_does : InEveryFrame SlotCount
slot_count_does = does_one SlotCount refl (λ v w names program places z y procedures below n r are units.
    instance_needed names program places z y r procedures below n 0 w standard_object_class v (first_registers 8 (w ∷ [])) (omega arith) refl refl are.0 (omega arith)
    (y.cost + 130 + 244 * 1) y.cost (λ i. result (integer (pos (length i.1))) z)
    (steps.load 5 0 (negsuc 1) ∷ steps.compute_by 5 which.ShiftRight 5 4 ++ steps.compute_by 5 which.ShiftLeft 5 2 ++ return_word 5 ∷ []) (omega arith)
    (λ c values mark found.
    let it = object_found names program places z y r v w (instance c values mark) are.0 found in
    let low = instance_low names program places z y r v w c values mark it in
    goes_on names program places z y procedures below
    (load_falls refl (address_below w 1 it.spot.address it.word (omega (arith, low))) it.stands.header)
    (goes_on names program places z y procedures below constant_falls
    (goes_on names program places z y procedures below (compute_known refl refl (header_without_kind (length values)))
    (goes_on names program places z y procedures below constant_falls
    (goes_on names program places z y procedures below (compute_known refl refl (four_times_count (length values) (omega (arith, low))))
    (returns_value names program places z y procedures below r refl (length_word_is places (length values) (omega (arith, low))) (alike_self z) (omega arith))))))))

module _
    (names : List (List ℕ)) (program : ProgramRows) (places : Places) (z : meaning.State) (y : MidState) (r : Represents names program places z y)
    (w x c : ℕ) (v : Value) (values : List (Option Value)) (mark : Value) (j : ℕ)
    (it : ObjectFound names program places z y r v w (instance c values mark)) (inside : j < length values) (place : x ≡ 4 * j)
  where
    low : w + 4 * length values + 8 < 2 ^ 27
    low = instance_low names program places z y r v w c values mark it

    -- the address of the slot's word, as it is computed
    pub slot_sum : sum32 w x ≡ w + x
    slot_sum = sum_fits w x (omega (arith, low))

    pub slot_word_address : address (w + x) (pos 6) ≡ it.spot.address + 8 + 4 * j
    slot_word_address = address_above (w + x) 6 (it.spot.address + 8 + 4 * j) (omega (arith, it.word)) (omega (arith, it.word, low))

    -- what the slot has
    pub data SlotHolds : Type 0 where
      no_value : slice_get values j ≡ Some None → word_at y.arena (it.spot.address + 8 + 4 * j) ≡ Some unbound_word → SlotHolds
      a_value :
          (u : Value) (word : ℕ) → slice_get values j ≡ Some (Some u) → word_of places u ≡ Some word → word_at y.arena (it.spot.address + 8 + 4 * j) ≡ Some word
          → SlotHolds

    pub slot_holds : SlotHolds
    slot_holds = by (slice_index_or values j None) (slice_get-get_or values j None inside) (it.stands.values_there j inside)
      where
        by : (o : Option Value) → slice_get values j ≡ Some o → SlotAt places y.arena (it.spot.address + 8 + 4 * j) o → SlotHolds
        by None got at = no_value got at
        by (Some u) got at = a_value u at.word got at.of_value at.stands

-- the lines behind the test of a place
abbrev taking : List MidStep
taking =
    steps.compute 5 which.Add 0 1 ∷ steps.load 5 5 (pos 6) ∷ steps.constant 6 unbound_word
    ∷ steps.signal_unless (steps.comparing Different 5 6) (pos (class_address program_error_class)) ∷ return_word 5 ∷ []

abbrev telling : List MidStep
telling =
    steps.compute 5 which.Add 0 1 ∷ steps.load 4 5 (pos 6) ∷ steps.constant 6 unbound_word ∷ steps.says (steps.comparing Different 4 6)

-- registers where the address of the slot was computed, or the slot's word
abbrev summed : (w x count : ℕ) → Registers
summed w x count = slice_set (slot_registers w x count (first_registers 8 (w ∷ x ∷ []))) 5 (Some (w + x))

module _
    (names : List (List ℕ)) (program : ProgramRows) (places : Places) (z : meaning.State) (y : MidState) (r : Represents names program places z y)
    (w x c : ℕ) (v : Value) (values : List (Option Value)) (mark : Value) (j : ℕ)
    (it : ObjectFound names program places z y r v w (instance c values mark)) (inside : j < length values) (place : x ≡ 4 * j)
    (procedures : List MidProcedure) (below : Task → MidState → MidOutcome) (n budget k : ℕ)
  where
    taken :
        SlotHolds names program places z y r w x c v values mark j it inside place → k + 250 ≤ budget
        → Run names program places z y procedures below n budget (slot_value (slice_get values j) z)
        (code_of (steps.load 5 5 (pos 6) ∷ steps.constant 6 unbound_word
        ∷ steps.signal_unless (steps.comparing Different 5 6) (pos (class_address program_error_class)) ∷ return_word 5 ∷ []))
        (summed w x (length values)) k
    taken (no_value got at) cost =
        rw got
        (goes_on names program places z y procedures below (load_falls refl (slot_word_address names program places z y r w x c v values mark j it inside place) at)
        (goes_on names program places z y procedures below constant_falls
        (second_answers names program places z y procedures below refl refl refl
        (signal_run names program places z y r procedures below n budget _ program_error_class z _ refl of_program (alike_self z) (omega (arith, cost))))))
    taken (a_value u word got is at) cost =
        rw got
        (goes_on names program places z y procedures below (load_falls refl (slot_word_address names program places z y r w x c v values mark j it inside place) at)
        (goes_on names program places z y procedures below constant_falls
        (test_passes names program places z y procedures below refl refl (ap not (no_value_unbound names program places z y r u word is))
        (returns_value names program places z y procedures below r refl is (alike_self z) (omega (arith, cost))))))

    told :
        SlotHolds names program places z y r w x c v values mark j it inside place → k + 250 ≤ budget
        → Run names program places z y procedures below n budget (says (has_value (slice_get values j)) z)
        (code_of (steps.load 4 5 (pos 6) ∷ steps.constant 6 unbound_word ∷ steps.says (steps.comparing Different 4 6))) (summed w x (length values)) k
    told (no_value got at) cost =
        rw got
        (goes_on names program places z y procedures below (load_falls refl (slot_word_address names program places z y r w x c v values mark j it inside place) at)
        (goes_on names program places z y procedures below constant_falls
        (says_run names program places z y r procedures below n budget _ unbound_word unbound_word false (steps.comparing Different 4 6) z _ refl
        (λ e. omega arith) (λ e. omega arith) refl refl refl (alike_self z) (omega (arith, cost)))))
    told (a_value u word got is at) cost =
        rw got
        (goes_on names program places z y procedures below (load_falls refl (slot_word_address names program places z y r w x c v values mark j it inside place) at)
        (goes_on names program places z y procedures below constant_falls
        (says_run names program places z y r procedures below n budget _ word unbound_word true (steps.comparing Different 4 6) z _ refl
        (λ e. omega arith) (λ e. omega arith) refl refl (ap not (no_value_unbound names program places z y r u word is)) (alike_self z) (omega (arith, cost)))))

pub slot_ref_does : InEveryFrame SlotRef
slot_ref_does = does_two SlotRef refl (λ v u w x names program places z y procedures below n r are units.
    slot_needed names program places z y r procedures below n (y.cost + 130 + 244 * 2) y.cost 0 1 w x v u (λ i at. slot_value (slice_get i.1 at) z)
    taking (first_registers 8 (w ∷ x ∷ [])) (omega arith) (omega arith) refl refl refl are.0 are.1.0 (omega arith)
    (λ c values mark j it inside place.
    goes_on names program places z y procedures below (compute_known refl refl (slot_sum names program places z y r w x c v values mark j it inside place))
    (taken names program places z y r w x c v values mark j it inside place procedures below n _ _
    (slot_holds names program places z y r w x c v values mark j it inside place) (omega arith))))

pub slot_bound_does : InEveryFrame SlotBound
slot_bound_does = does_two SlotBound refl (λ v u w x names program places z y procedures below n r are units.
    slot_needed names program places z y r procedures below n (y.cost + 130 + 244 * 2) y.cost 0 1 w x v u (λ i at. says (has_value (slice_get i.1 at)) z)
    telling (first_registers 8 (w ∷ x ∷ [])) (omega arith) (omega arith) refl refl refl are.0 are.1.0 (omega arith)
    (λ c values mark j it inside place.
    goes_on names program places z y procedures below (compute_known refl refl (slot_sum names program places z y r w x c v values mark j it inside place))
    (told names program places z y r w x c v values mark j it inside place procedures below n _ _
    (slot_holds names program places z y r w x c v values mark j it inside place) (omega arith))))
