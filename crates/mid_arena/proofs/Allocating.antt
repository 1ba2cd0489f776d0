-- A new instance of a class has slots without values, as the meaning says, and nil in the place of its mark where it is a condition.
use Rattle.std.proofs.Common.{◌≡◌, ℕ, suc, ◌+◌, ◌*◌, ◌<◌, ◌≤◌, pos, Bool, true, false, List, [], ◌∷◌, ◌++◌, length, replicate, Option, Some, None, refl, sym, ap, ◌∙◌, arith}
use Rattle.std.specs.Prelude.{◌==◌, not, nat_lt, slice_get, slice_index_or, if◌then◌else◌}
use Rattle.std.proofs.lemmas.List.{get_or-replicate, length-replicate}
use Rattle.std.proofs.lemmas.Option.{slice_get_within}
use Rattle.lang_meaning.specs.declared.program.ClassRow.{ClassRow}
use Rattle.lang_meaning.specs.declared.program.ProgramRows.{ProgramRows}
use Rattle.lang_meaning.specs.declared.primitive.Primitive.TheVariants.{Allocate}
use Rattle.lang_meaning.specs.Values.{Value, nil, object, truth}
use Rattle.lang_meaning.specs.Objects.{Object, instance, class_object, serious_condition_class, program_error_class}
use Rattle.lang_meaning.specs.State as meaning
use Rattle.lang_meaning.specs.Classes.{fetch, slots, is_below}
use Rattle.lang_meaning.specs.InitialHeap.{class_value}
use Rattle.lang_meaning.specs.Primitives.{Answer, makes, program_error, can_be_made, instance_words, primitive}
use Rattle.mid_code.specs.declared.program.MidProcedure.{MidProcedure}
use Rattle.mid_code.specs.declared.operation.Comparison.TheVariants.{Different}
use Rattle.base.specs.Arithmetic.{sum32, shift_right, one_if_less, difference32}
use Rattle.mid_code.specs.Arena.{Arena, left, word_at}
use Rattle.mid_code.specs.MidCode.{MidStep, code_of}
use Rattle.mid_code.specs.State.{MidState, MidOutcome, falls, returns, no_room, ends, first_registers}
use Rattle.mid_code.specs.Meaning.{Task, Context}
use Rattle.mid_arena.specs.Tags.{object_tag, nil_word, unbound_word, instance_header}
use Rattle.mid_arena.specs.Places.{Spot, Places, with_object, word_of}
use Rattle.mid_arena.specs.Standing.{SlotAt}
use Rattle.mid_arena.specs.FixedWords.{class_address}
use Rattle.mid_arena.specs.Layouts.{InstanceAt}
use Rattle.mid_arena.specs.Represents.{Represents}
use Rattle.mid_arena.specs.Answers.{units_after}
use Rattle.mid_arena.specs.Steps as steps
use Rattle.mid_arena.proofs.Keeping.{same_word}
use Rattle.mid_arena.proofs.WordFacts.{truth_bit}
use Rattle.mid_arena.proofs.Running.{RunsTo, none_left, parts_then, and_then, and_ends, costing, constant_falls, compute_known, load_falls, request_wanting, address_above}
use Rattle.mid_arena.proofs.Arguments.{ObjectFound, object_found, word_told}
use Rattle.mid_arena.proofs.Making.{Room, is_left, is_wanting, room_for, answers_made, answers_wanting}
use Rattle.mid_arena.proofs.Doing.{alike_self, Run, goes_on, test_passes, second_answers, paid}
use Rattle.mid_arena.proofs.Conditions.{program_error as of_program, signal_run}
use Rattle.mid_arena.proofs.Needing.{class_needed}
use Rattle.mid_arena.specs.ClassesThere.{ClassesThere}
use Rattle.mid_arena.proofs.SlotRows.{class_low}
use Rattle.mid_arena.proofs.Allotting.{allotted, allotted_grows, allotted_heap, allotted_blocks, allotted_word, allotted_mark}
use Rattle.mid_arena.proofs.Allotting.{asking_code, beginning_code, allocating_code, mark_address, beginning_falls}
use Rattle.mid_arena.proofs.Taking.{does_one}
use Rattle.mid_arena.proofs.Lists.{replicated}
use Rattle.mid_arena.proofs.Filling.{filling_code, filling_ends}
use Rattle.mid_arena.proofs.Memory.{heap_below, stands_with_heap}
use Rattle.mid_arena.proofs.Telling.{truth_told}
use Rattle.mid_arena.proofs.Entering.{InEveryFrame}

module _ (names : List (List ℕ)) (program : ProgramRows) (places : Places) (z : meaning.State) (y : MidState) (r : Represents names program places z y) where
  -- the bit of a condition
  bit_told : (b : Bool) (word : ℕ) → word_of places (truth b) ≡ Some word → one_if_less 0 (difference32 word nil_word) ≡ (if b then 1 else 0)
  bit_told b word e =
      let tells : nat_lt 0 (difference32 word nil_word) ≡ b = truth_bit word (word_told names program places z y r (truth b) word e) ∙ truth_told names program places z y r b word e in
      rw tells refl

  module _ (classes : ClassesThere names program z) (v : Value) (w c : ℕ) (word : word_of places v ≡ Some w) (it : ObjectFound names program places z y r v w (class_object c)) where
    -- how many slots instances have, and 1 where they are conditions
    abbrev count : ℕ
    count = length (slots program c)

    abbrev bit : ℕ
    bit = if is_below program c serious_condition_class then 1 else 0

    bit_small : bit < 2
    bit_small = by (is_below program c serious_condition_class)
      where
        by : (b : Bool) → (if b then 1 else 0) < 2
        by true = omega arith
        by false = omega arith

    asking_falls :
        {c' : Context} {r1 r2 r3 r4 r5 r6 r7 : Option ℕ} (k : ℕ)
        → RunsTo c' (code_of asking_code) (Some w ∷ r1 ∷ r2 ∷ r3 ∷ r4 ∷ r5 ∷ r6 ∷ r7 ∷ []) (paid y k)
        (ends falls (Some w ∷ r1 ∷ r2 ∷ Some (2 + count + bit) ∷ Some bit ∷ Some (4 * count) ∷ Some 2 ∷ r7 ∷ []) (paid y (k + 90)))
    asking_falls k =
        let high = class_low names program places z y r classes v w c it in
        let small : bit < 2 = bit_small in
        let slots_is : shift_right (4 * count) 2 ≡ count = omega arith in
        let with_mark : sum32 count bit ≡ count + bit = omega (arith, high, small) in
        let all : sum32 (count + bit) 2 ≡ 2 + count + bit = omega (arith, high, small) in
        costing
        (and_then
        (load_falls refl (address_above w 14 (it.spot.address + 16) (omega (arith, it.word)) (omega (arith, it.word, high))) it.stands.condition.stands)
        (and_then constant_falls
        (and_then (compute_known refl refl refl)
        (and_then constant_falls
        (and_then (compute_known refl refl (bit_told (is_below program c serious_condition_class) it.stands.condition.word it.stands.condition.of_value))
        (and_then (load_falls refl (address_above w 22 (it.spot.address + 24) (omega (arith, it.word)) (omega (arith, it.word, high))) it.stands.count)
        (and_then constant_falls
        (and_then (compute_known refl refl slots_is)
        (and_then (compute_known refl refl with_mark)
        (and_then constant_falls
        (and_then (compute_known refl refl all) none_left))))))))))) (omega arith)

    -- the instance
    abbrev made : Object
    made = instance c (replicate count None) nil

    module _ (room : 2 + count + bit ≤ left y.arena) where
      abbrev instance_words_all : List ℕ
      instance_words_all = instance_header count ∷ w ∷ replicate count unbound_word

      abbrev instance_arena : Arena
      instance_arena = allotted (2 + count + bit) (mark_address y.arena.heap_to count bit) instance_words_all y.arena

      abbrev instance_spot : Spot
      instance_spot = record { address = y.arena.heap_to; words = 2 + count + bit; tag = object_tag }

      many : length instance_words_all ≡ 2 + count
      many = omega (arith, length-replicate count unbound_word)

      there : (x i u : ℕ) → x ≡ y.arena.heap_to + 4 * i → slice_get instance_words_all i ≡ Some u → word_at instance_arena x ≡ Some u
      there =
          allotted_word y.arena (2 + count + bit) (mark_address y.arena.heap_to count bit) instance_words_all r.arena room (omega (arith, many))
          (omega (arith, r.arena.aligned)) (omega arith)

      instance_stands : InstanceAt names program (with_object instance_spot places) instance_arena instance_spot c (replicate count None) nil
      instance_stands = record {
        size = record { words = ap (instance_words program c) (sym no_values); tag = refl };
        count = no_values;
        header = there y.arena.heap_to 0 (instance_header count) (omega arith) refl ∙ ap (λ n. Some (instance_header n)) (sym no_values);
        class = record {
          word = w;
          of_value =
              same_word instance_spot places (class_value names program c) w
              (ap (word_of places) (classes.values v c (fetched it.value it.stored)) ∙ word);
          stands = there (y.arena.heap_to + 4) 1 w (omega arith) refl;
        };
        values_there = λ i h. empty i (omega (arith, no_values, h));
        mark = λ condition. record { word = nil_word; of_value = refl; stands = mark_there condition };
      }
        where
          no_values : length (replicate {A = Option Value} count None) ≡ count
          no_values = length-replicate count None

          fetched : {u : Value} {i : ℕ} → u ≡ object i → slice_get z.store i ≡ Some (class_object c) → fetch z u ≡ Some (class_object c)
          fetched e found = ap (fetch z) e ∙ found

          empty : (i : ℕ) → i < count → SlotAt (with_object instance_spot places) instance_arena (y.arena.heap_to + 8 + 4 * i) (slice_index_or (replicate count None) i None)
          empty i low =
              rw (get_or-replicate {A = Option Value} count i None None low)
              (there (y.arena.heap_to + 8 + 4 * i) (suc (suc i)) unbound_word (omega arith) (replicated count i unbound_word low))

          mark_there : is_below program c serious_condition_class ≡ true → word_at instance_arena (y.arena.heap_to + 8 + 4 * length (replicate {A = Option Value} count None)) ≡ Some nil_word
          mark_there condition =
              let one : bit ≡ 1 = rw condition refl in
              ap (word_at instance_arena) (omega (arith, one, no_values))
              ∙ allotted_mark y.arena (2 + count + bit) (mark_address y.arena.heap_to count bit) instance_words_all r.arena room (omega (arith, many))
              (omega (arith, r.arena.aligned)) (omega arith) (omega (arith, many, one)) (omega arith)

    -- it is made, where its words are left
    allocating_run :
        (procedures : List MidProcedure) (below : Task → MidState → MidOutcome) (n budget k : ℕ) (r1 r2 r3 r4 r5 r6 r7 : Option ℕ) → count ≤ n
        → k + 272 + 38 * count ≤ budget + 250 * (2 + count) → c < length program.classes
        → Run names program places z y procedures below n budget (makes (instance_words program c count) 0 made z) (code_of allocating_code)
        (Some w ∷ r1 ∷ r2 ∷ r3 ∷ r4 ∷ r5 ∷ r6 ∷ r7 ∷ []) k
    allocating_run procedures below n budget k r1 r2 r3 r4 r5 r6 r7 turns cost known = by (room_for (2 + count + bit) y.arena)
      where
        by :
            Room (2 + count + bit) y.arena
            → Run names program places z y procedures below n budget (makes (instance_words program c count) 0 made z) (code_of allocating_code)
            (Some w ∷ r1 ∷ r2 ∷ r3 ∷ r4 ∷ r5 ∷ r6 ∷ r7 ∷ []) k
        by (is_wanting lacking) = record {
          outcome =
              ends (no_room (2 + count + bit) (left y.arena)) (Some w ∷ r1 ∷ r2 ∷ Some (2 + count + bit) ∷ Some bit ∷ Some (4 * count) ∷ Some 2 ∷ r7 ∷ [])
              (paid y (k + 90 + 20));
          runs = parts_then asking_code (beginning_code ++ filling_code) (asking_falls k) (and_ends tt (request_wanting refl lacking));
          answers = answers_wanting names program places z y r (2 + count + bit) _ (k + 90 + 20) lacking refl (omega (arith, cost));
        }
        by (is_left room) =
            let high = class_low names program places z y r classes v w c it in
            let mark : ℕ = mark_address y.arena.heap_to count bit in
            let all : List ℕ = instance_words_all room in
            let few : length all ≤ 2 + count + bit = omega (arith, many room) in
            let now : MidState = record y { arena = allotted (2 + count + bit) mark all y.arena; cost = k + 90 + 140 + 42 + 38 * count } in
            record {
              outcome =
                  ends (returns (y.arena.heap_to + 2))
                  (Some w ∷ r1 ∷ r2 ∷ Some (y.arena.heap_to + 2) ∷ Some unbound_word ∷ Some (y.arena.heap_to + 4 * count) ∷ Some 2 ∷ Some (y.arena.heap_to + 4 * count) ∷ [])
                  now;
              runs =
                  parts_then asking_code (beginning_code ++ filling_code) (asking_falls k)
                  (parts_then beginning_code filling_code (beginning_falls y (k + 90) w count bit r.arena bit_small room)
                  (filling_ends procedures below n count y.arena.heap_to unbound_word (k + 90 + 140)
                  (record y { arena = allotted (2 + count + bit) (mark_address y.arena.heap_to count bit) (instance_header count ∷ w ∷ []) y.arena }) turns
                  r.arena.aligned r.arena.heap (omega arith) (heap_below (stands_with_heap (2 + count + bit) r.arena room))));
              answers =
                  answers_made names program places z y r (2 + count + bit) 0 made z now _ (alike_self z)
                  (allotted_grows y.arena (2 + count + bit) mark all r.arena room few (omega (arith, r.arena.aligned)) (omega arith) (omega arith))
                  (allotted_heap y.arena (2 + count + bit) mark all r.arena room few (omega (arith, r.arena.aligned)) (omega arith))
                  (allotted_blocks y.arena (2 + count + bit) mark all r.arena room few (omega (arith, r.arena.aligned)) (omega arith))
                  refl refl (omega arith) (instance_stands room) known (omega (arith, cost));
            }

-- a class of which instances can be made is of the program
made_known : (program : ProgramRows) (c : ℕ) → can_be_made program c ≡ true → c < length program.classes
made_known program c e = by (slice_get program.classes c) refl
  where
    by : (row : Option ClassRow) → slice_get program.classes c ≡ row → c < length program.classes
    by (Some row) found = slice_get_within program.classes c row found
    by None found = let none : can_be_made program c ≡ false = rw found refl in absurd (cc (none, e))

-- the lines behind the test of the class
abbrev making : List MidStep
making =
    steps.load 4 0 (pos 10) ∷ steps.constant 6 nil_word
    ∷ steps.signal_unless (steps.comparing Different 4 6) (pos (class_address program_error_class)) ∷ allocating_code

-- the units behind the answer, where an instance can be made
units_of_instance :
    (names : List (List ℕ)) (program : ProgramRows) (v : Value) (c n : ℕ) (z : meaning.State) → fetch z v ≡ Some (class_object c) → can_be_made program c ≡ true
    → units_after names program (primitive names program Allocate (v ∷ []) z) ≤ z.units + n → length (slots program c) ≤ n
units_of_instance names program v c n z found can units =
    let so : z.units + instance_words program c (length (slots program c)) + 0 ≤ z.units + n = rw (found, can) at units in omega (arith, so)

-- the answer where the argument is that class
abbrev allocation : ProgramRows → ℕ → meaning.State → Answer
allocation program c z =
    if can_be_made program c then
    makes (instance_words program c (length (slots program c))) 0 (instance c (replicate (length (slots program c)) None) nil) z
    else program_error z

module _
    (names : List (List ℕ)) (program : ProgramRows) (places : Places) (z : meaning.State) (y : MidState) (r : Represents names program places z y)
    (classes : ClassesThere names program z) (v : Value) (w c : ℕ) (word : word_of places v ≡ Some w) (it : ObjectFound names program places z y r v w (class_object c))
    (procedures : List MidProcedure) (below : Task → MidState → MidOutcome) (n budget k : ℕ) (turns : can_be_made program c ≡ true → length (slots program c) ≤ n)
    (cost : k + 200 ≤ budget)
  where
    making_run :
        (six seven : Option ℕ)
        → Run names program places z y procedures below n budget (allocation program c z) (code_of making)
        (Some w ∷ None ∷ None ∷ None ∷ None ∷ None ∷ six ∷ seven ∷ []) k
    making_run six seven =
        let high = class_low names program places z y r classes v w c it in
        goes_on names program places z y procedures below
        (load_falls refl (address_above w 10 (it.spot.address + 12) (omega (arith, it.word)) (omega (arith, it.word, high))) it.stands.made.stands)
        (goes_on names program places z y procedures below constant_falls (by (can_be_made program c) refl))
      where
        tested : not (it.stands.made.word == nil_word) ≡ can_be_made program c
        tested = truth_told names program places z y r (can_be_made program c) it.stands.made.word it.stands.made.of_value

        by :
            (b : Bool) → can_be_made program c ≡ b
            → Run names program places z y procedures below n budget (allocation program c z)
            (code_of (steps.signal_unless (steps.comparing Different 4 6) (pos (class_address program_error_class)) ∷ allocating_code))
            (Some w ∷ None ∷ None ∷ None ∷ Some it.stands.made.word ∷ None ∷ Some nil_word ∷ seven ∷ []) (k + 8 + 6)
        by true e =
            rw e
            (test_passes names program places z y procedures below refl refl (tested ∙ e)
            (allocating_run names program places z y r classes v w c word it procedures below n budget _ _ _ _ _ _ _ _ (turns e) (omega (arith, cost)) (made_known program c e)))
        by false e =
            rw e
            (second_answers names program places z y procedures below refl refl (tested ∙ e)
            (signal_run names program places z y r procedures below n budget _ program_error_class z _ refl of_program (alike_self z) (omega (arith, cost))))

pub allocate_does : InEveryFrame Allocate
allocate_does = does_one Allocate refl (λ v w names program places z y procedures below n r are units.
    class_needed names program places z y r procedures below n (y.cost + 130 + 244 * 1) y.cost 0 w v (λ c. allocation program c z) making (first_registers 8 (w ∷ []))
    (omega arith) refl refl are.0 (omega arith)
    (λ c found.
    making_run names program places z y r r.classes v w c are.0
    (object_found names program places z y r v w (class_object c) are.0 found) procedures below n _ _
    (λ can. units_of_instance names program v c n z found can units) (omega arith) _ _))
