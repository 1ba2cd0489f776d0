-- The code that makes a condition and hands it over.
use Rattle.std.proofs.Common.{◌≡◌, ℕ, zero, suc, ◌+◌, ◌*◌, ◌^◌, ◌<◌, ◌≤◌, true, List, [], ◌∷◌, ◌++◌, length, Option, Some, refl, sym, ◌∙◌, arith}
use Rattle.std.specs.Prelude.{pos, slice_index_or}
use Rattle.std.proofs.Math.ListN.{length-append}
use Rattle.lang_meaning.specs.declared.program.ProgramRows.{ProgramRows}
use Rattle.lang_meaning.specs.BuiltIn.{built_in_slots}
use Rattle.lang_meaning.specs.Values.{Value}
use Rattle.lang_meaning.specs.Objects.{built_in_classes, serious_condition_class, domain_error_class}
use Rattle.lang_meaning.specs.State as meaning
use Rattle.lang_meaning.specs.Classes.{slots}
use Rattle.lang_meaning.specs.InitialHeap.{class_value}
use Rattle.lang_meaning.specs.Primitives.{domain_error, fails, instance_words}
use Rattle.mid_code.specs.declared.operation.Operation.TheVariants.{Request}
use Rattle.mid_code.specs.declared.program.MidProcedure.{MidProcedure}
use Rattle.mid_code.specs.Arena.{left, is_lent, word_at, with_word}
use Rattle.mid_code.specs.MidCode.{MidStep, perform, MidCode, step_and, code_of}
use Rattle.mid_code.specs.State.{Registers, MidState, MidOutcome, falls, returns, no_room, ends, register}
use Rattle.mid_code.specs.Meaning.{Task, Context}
use Rattle.mid_arena.specs.Tags.{nil_word, signal_word, instance_header}
use Rattle.mid_arena.specs.Places.{Places, word_of, WordsOf}
use Rattle.mid_arena.specs.FixedWords.{class_address, pending_address}
use Rattle.mid_arena.specs.Represents.{Represents}
use Rattle.mid_arena.specs.Answers.{done, Signalled}
use Rattle.mid_arena.specs.Steps as steps
use Rattle.mid_arena.proofs.Memory.{heap_below}
use Rattle.mid_arena.proofs.Running.{RunsTo, and_then, and_ends, none_left, costing, parts_then, constant_falls, compute_known, load_falls, store_falls, store_in_heap, request_falls}
use Rattle.mid_arena.proofs.Running.{request_wanting, return_ends, address_above, address_here}
use Rattle.mid_arena.proofs.BuiltInFacts.{built_in_known, is_condition_class, slot_count_is, condition_words}
use Rattle.mid_arena.proofs.Keeping.{as_many_words}
use Rattle.mid_arena.proofs.Making.{Room, is_left, is_wanting, room_for, begun, begun_grows, begun_heap, begun_blocks, fixed_below, answers_wanting, condition_at, signalled_new, fixed_still_lent}
use Rattle.mid_arena.proofs.Doing.{SameObjects, Run, paid}
use Rattle.mid_arena.proofs.Registers.{EightRegisters, eight, eight_registers}

-- a class of conditions that is built in, has no slots, and is signalled by primitives
pub data PlainCondition : ℕ → Type 0 where
  program_error : PlainCondition 24
  division_by_zero : PlainCondition 27
  integer_overflow : PlainCondition 28

plain_low : {class : ℕ} → PlainCondition class → serious_condition_class < suc class
plain_low program_error = omega arith
plain_low division_by_zero = omega arith
plain_low integer_overflow = omega arith

plain_high : {class : ℕ} → PlainCondition class → class < built_in_classes
plain_high program_error = omega arith
plain_high division_by_zero = omega arith
plain_high integer_overflow = omega arith

plain_slots : {class : ℕ} → PlainCondition class → slice_index_or built_in_slots class 0 ≡ 0
plain_slots program_error = refl
plain_slots division_by_zero = refl
plain_slots integer_overflow = refl

-- ---- registers

-- the first three do not hang on the others
first_three : (of : ℕ) (r0 r1 r2 : Option ℕ) (rs rs' : Registers) → of < 3 → register of (r0 ∷ r1 ∷ r2 ∷ rs') ≡ register of (r0 ∷ r1 ∷ r2 ∷ rs)
first_three zero r0 r1 r2 rs rs' h = refl
first_three (suc zero) r0 r1 r2 rs rs' h = refl
first_three (suc (suc zero)) r0 r1 r2 rs rs' h = refl
first_three (suc (suc (suc of))) r0 r1 r2 rs rs' h = absurd (omega arith)

-- ---- parts of the code

-- the slots and the mark of a domain error, behind its header and its class
abbrev error_slots : (of expected : ℕ) → List MidStep
error_slots of expected =
    steps.store of 3 (pos 8) ∷ steps.load 4 5 (pos (class_address expected)) ∷ steps.store 4 3 (pos 12) ∷ steps.constant 4 nil_word
    ∷ steps.store 4 3 (pos 16) ∷ steps.hand_over

-- the mark of a condition without slots
abbrev mark_slot : List MidStep
mark_slot = steps.constant 4 nil_word ∷ steps.store 4 3 (pos 8) ∷ steps.hand_over

-- a condition is handed over
hand_over_ends :
    {c : Context} {r0 r1 r2 r4 r6 r7 : Option ℕ} {x : MidState} (b : ℕ) → b + 2 < 2 ^ 32 → is_lent x.arena pending_address ≡ true
    → RunsTo c (code_of steps.hand_over) (r0 ∷ r1 ∷ r2 ∷ Some b ∷ r4 ∷ Some 0 ∷ r6 ∷ r7 ∷ []) x
    (ends (returns signal_word) (r0 ∷ r1 ∷ r2 ∷ Some (b + 2) ∷ Some signal_word ∷ Some 0 ∷ r6 ∷ r7 ∷ [])
    (record x { arena = with_word pending_address (b + 2) x.arena; cost = x.cost + 44 }))
unfolding steps.hand_over
hand_over_ends b small lent =
    costing
    (and_then constant_falls
    (and_then (compute_known refl refl (omega arith))
    (and_then (store_falls refl refl (address_above 0 pending_address pending_address refl (omega arith)) lent)
    (and_then constant_falls
    (and_ends tt (return_ends refl)))))) (omega arith)

module _ (names : List (List ℕ)) (program : ProgramRows) (places : Places) (z : meaning.State) (y : MidState) (r : Represents names program places z y) where
  -- the words of an instance are requested, and its header and its class stored
  begin_falls :
      {c : Context} {r0 r1 r2 r3 r4 r5 r6 r7 : Option ℕ} (words header class word k : ℕ) → 2 ≤ words → words ≤ left y.arena → class < 184
      → word_at y.arena class ≡ Some word
      → RunsTo c (code_of (steps.begin_instance words header (pos class))) (r0 ∷ r1 ∷ r2 ∷ r3 ∷ r4 ∷ r5 ∷ r6 ∷ r7 ∷ []) (paid y k)
      (ends falls (r0 ∷ r1 ∷ r2 ∷ Some y.arena.heap_to ∷ Some word ∷ Some 0 ∷ r6 ∷ r7 ∷ [])
      (record y { arena = begun words (header ∷ word ∷ []) y.arena; cost = k + 62 }))
  begin_falls words header class word k some room low stands =
      let small = heap_below r.arena in
      let fixed = fixed_below names program places z y r in
      let loaded : word_at (begun words (header ∷ []) y.arena) class ≡ Some word =
      (begun_grows words (header ∷ []) r.arena room (omega arith)).words class (omega arith) ∙ stands in
      costing
      (and_then constant_falls
      (and_then (request_falls refl room)
      (and_then constant_falls
      (and_then constant_falls
      (and_then (store_in_heap refl refl (address_here y.arena.heap_to (omega arith)) r.arena.aligned (omega (arith, r.arena.heap)) (omega arith))
      (and_then (load_falls refl (address_above 0 class class (omega arith) (omega arith)) loaded)
      (and_then (store_in_heap refl refl (address_above y.arena.heap_to 4 (y.arena.heap_to + 4) refl (omega arith)) (omega (arith, r.arena.aligned)) (omega (arith, r.arena.heap)) (omega arith))
      none_left))))))) (omega arith)

module _ (names : List (List ℕ)) (program : ProgramRows) (places : Places) (z : meaning.State) (y : MidState) (r : Represents names program places z y) where
  -- the slots and the mark of a domain error are stored, and it is handed over
  error_ends :
      {c : Context} {r0 r1 r2 r4 r6 r7 : Option ℕ} (of w expected word header named k : ℕ) → of < 3
      → register of (r0 ∷ r1 ∷ r2 ∷ Some y.arena.heap_to ∷ r4 ∷ Some 0 ∷ r6 ∷ r7 ∷ []) ≡ Some w → expected < 34
      → word_at y.arena (class_address expected) ≡ Some word → 5 ≤ left y.arena
      → RunsTo c (code_of (error_slots of expected)) (r0 ∷ r1 ∷ r2 ∷ Some y.arena.heap_to ∷ r4 ∷ Some 0 ∷ r6 ∷ r7 ∷ [])
      (record y { arena = begun 5 (header ∷ named ∷ []) y.arena; cost = k })
      (ends (returns signal_word) (r0 ∷ r1 ∷ r2 ∷ Some (y.arena.heap_to + 2) ∷ Some signal_word ∷ Some 0 ∷ r6 ∷ r7 ∷ [])
      (record y {
        arena = with_word pending_address (y.arena.heap_to + 2) (begun 5 (header ∷ named ∷ w ∷ word ∷ nil_word ∷ []) y.arena);
        cost = k + 82;
      }))
  error_ends of w expected word header named k low at class stands room =
      let small = heap_below r.arena in
      let fixed = fixed_below names program places z y r in
      let heap : ℕ = y.arena.heap_to in
      let loaded : word_at (begun 5 (header ∷ named ∷ w ∷ []) y.arena) (class_address expected) ≡ Some word =
      (begun_grows 5 (header ∷ named ∷ w ∷ []) r.arena room (omega arith)).words (class_address expected) (omega arith) ∙ stands in
      let all : List ℕ = header ∷ named ∷ w ∷ word ∷ nil_word ∷ [] in
      costing
      (and_then (store_in_heap at refl (address_above heap 8 (heap + 4 + 4) (omega arith) (omega arith)) (omega (arith, r.arena.aligned)) (omega (arith, r.arena.heap)) (omega arith))
      (and_then (load_falls refl (address_above 0 (class_address expected) (class_address expected) (omega arith) (omega arith)) loaded)
      (and_then (store_in_heap refl refl (address_above heap 12 (heap + 4 + 4 + 4) (omega arith) (omega arith)) (omega (arith, r.arena.aligned)) (omega (arith, r.arena.heap)) (omega arith))
      (and_then constant_falls
      (and_then (store_in_heap refl refl (address_above heap 16 (heap + 4 + 4 + 4 + 4) (omega arith) (omega arith)) (omega (arith, r.arena.aligned)) (omega (arith, r.arena.heap)) (omega arith))
      (hand_over_ends heap (omega arith) (fixed_still_lent names program places z y r (begun 5 all y.arena) (begun_grows 5 all r.arena room (omega arith)) pending_address refl (omega arith))))))))
      (omega arith)

  -- the mark of a condition without slots is stored, and it is handed over
  plain_ends :
      {c : Context} {r0 r1 r2 r4 r6 r7 : Option ℕ} (header named k : ℕ) → 3 ≤ left y.arena
      → RunsTo c (code_of mark_slot) (r0 ∷ r1 ∷ r2 ∷ Some y.arena.heap_to ∷ r4 ∷ Some 0 ∷ r6 ∷ r7 ∷ [])
      (record y { arena = begun 3 (header ∷ named ∷ []) y.arena; cost = k })
      (ends (returns signal_word) (r0 ∷ r1 ∷ r2 ∷ Some (y.arena.heap_to + 2) ∷ Some signal_word ∷ Some 0 ∷ r6 ∷ r7 ∷ [])
      (record y { arena = with_word pending_address (y.arena.heap_to + 2) (begun 3 (header ∷ named ∷ nil_word ∷ []) y.arena); cost = k + 58 }))
  plain_ends header named k room =
      let small = heap_below r.arena in
      let heap : ℕ = y.arena.heap_to in
      let all : List ℕ = header ∷ named ∷ nil_word ∷ [] in
      costing
      (and_then constant_falls
      (and_then (store_in_heap refl refl (address_above heap 8 (heap + 4 + 4) (omega arith) (omega arith)) (omega (arith, r.arena.aligned)) (omega (arith, r.arena.heap)) (omega arith))
      (hand_over_ends heap (omega arith) (fixed_still_lent names program places z y r (begun 3 all y.arena) (begun_grows 3 all r.arena room (omega arith)) pending_address refl (omega arith)))))
      (omega arith)

  -- where its words are not left, the code of a condition ends so
  wanting :
      {c : Context} {code : MidCode} {r0 r1 r2 r3 r4 r5 r6 r7 : Option ℕ} (words k : ℕ) → left y.arena < words
      → RunsTo c (step_and (steps.constant 3 words) (step_and (perform (Request 3 3)) code)) (r0 ∷ r1 ∷ r2 ∷ r3 ∷ r4 ∷ r5 ∷ r6 ∷ r7 ∷ []) (paid y k)
      (ends (no_room words (left y.arena)) (r0 ∷ r1 ∷ r2 ∷ Some words ∷ r4 ∷ r5 ∷ r6 ∷ r7 ∷ []) (paid y (k + 26)))
  wanting words k lacking = costing (and_then constant_falls (and_ends tt (request_wanting refl lacking))) (omega arith)

  -- a condition of a class that is built in, with all slots that the class has, whose words were all stored, is to be signalled
  signalled :
      (class : ℕ) (vs : List Value) (ws : List ℕ) (z' : meaning.State) (rs : Registers) (k : ℕ) → SameObjects z z'
      → serious_condition_class < suc class → (high : class < built_in_classes) → length vs ≡ length (slots program class) → WordsOf places vs ws
      → 3 + length vs ≤ left y.arena
      → Signalled names program places z y class vs z'
      (ends (returns signal_word) rs (record y {
        arena = with_word pending_address (y.arena.heap_to + 2)
            (begun (3 + length vs) (instance_header (length vs) ∷ (r.fixed.classes class high).word ∷ (ws ++ nil_word ∷ [])) y.arena);
        cost = k;
      }))
  signalled class vs ws z' rs k alike low high count are room =
      let named = r.fixed.classes class high in
      let stored : List ℕ = instance_header (length vs) ∷ named.word ∷ (ws ++ nil_word ∷ []) in
      signalled_new names program places z y r class vs (3 + length vs) z' (record y { arena = begun (3 + length vs) stored y.arena }) rs k alike
      (sym (condition_words program r.built_in class (length vs) low high))
      (begun_grows (3 + length vs) stored r.arena room (omega (arith, length-append ws (nil_word ∷ []), as_many_words places vs ws are))) (begun_heap (3 + length vs) stored y.arena) (begun_blocks (3 + length vs) stored y.arena) refl refl
      (condition_at names program places z y r class named.word vs ws (is_condition_class program r.built_in class low high) count named.of_value are room)
      (built_in_known program r.built_in class high)

module _ (names : List (List ℕ)) (program : ProgramRows) (places : Places) (z : meaning.State) (y : MidState) (r : Represents names program places z y)
    (procedures : List MidProcedure) (below : Task → MidState → MidOutcome) where
  -- a domain error of the value whose word is in a register
  pub domain_error_run :
      (n budget k of w expected : ℕ) (v : Value) (z' : meaning.State) (rs : Registers) → of < 3 → length rs ≡ 8 → register of rs ≡ Some w → word_of places v ≡ Some w
      → expected < 34 → SameObjects z z' → k + 160 + 250 * z.units ≤ budget + 250 * (z'.units + 5)
      → Run names program places z y procedures below n budget (domain_error v expected z') (code_of (steps.domain_error of (pos (class_address expected)))) rs k
  unfolding steps.domain_error
  domain_error_run n budget k of w expected v z' rs low size at word class alike cost = by rs (eight_registers rs size) at (room_for 5 y.arena)
    where
      words : instance_words program domain_error_class 2 ≡ 5
      words = condition_words program r.built_in domain_error_class 2 (omega arith) (omega arith)

      by :
          (rs : Registers) → EightRegisters rs → register of rs ≡ Some w → Room 5 y.arena
          → Run names program places z y procedures below n budget (domain_error v expected z') (code_of (steps.domain_error of (pos (class_address expected)))) rs k
      by rs (eight r0 r1 r2 r3 r4 r5 r6 r7) at (is_wanting lacking) = record {
        outcome = ends (no_room 5 (left y.arena)) (r0 ∷ r1 ∷ r2 ∷ Some 5 ∷ r4 ∷ r5 ∷ r6 ∷ r7 ∷ []) (paid y (k + 26));
        runs = wanting names program places z y r 5 k lacking;
        answers = answers_wanting names program places z y r 5 _ (k + 26) lacking (sym words) (omega (arith, words, cost));
      }
      by rs (eight r0 r1 r2 r3 r4 r5 r6 r7) at (is_left room) =
          let high : domain_error_class < built_in_classes = omega arith in
          let named = r.fixed.classes domain_error_class high in
          let wanted = r.fixed.classes expected class in
          let heap : ℕ = y.arena.heap_to in
          let last : List ℕ = instance_header 2 ∷ named.word ∷ w ∷ wanted.word ∷ nil_word ∷ [] in
          record {
            outcome =
                ends (returns signal_word) (r0 ∷ r1 ∷ r2 ∷ Some (heap + 2) ∷ Some signal_word ∷ Some 0 ∷ r6 ∷ r7 ∷ [])
                (record y { arena = with_word pending_address (heap + 2) (begun 5 last y.arena); cost = k + 62 + 82 });
            runs =
                parts_then (steps.begin_instance 5 (instance_header 2) (pos (class_address domain_error_class))) (error_slots of expected)
                (begin_falls names program places z y r 5 (instance_header 2) (class_address domain_error_class) named.word k (omega arith) room (omega arith) named.stands)
                (error_ends names program places z y r of w expected wanted.word (instance_header 2) named.word (k + 62) low
                (first_three of r0 r1 r2 (r3 ∷ r4 ∷ r5 ∷ r6 ∷ r7 ∷ []) (Some heap ∷ Some named.word ∷ Some 0 ∷ r6 ∷ r7 ∷ []) low ∙ at) class wanted.stands room);
            answers = record {
              comes = done (signalled names program places z y r domain_error_class (v ∷ class_value names program expected ∷ []) (w ∷ wanted.word ∷ []) z' _ (k + 62 + 82) alike
                  (omega arith) high (sym (slot_count_is program r.built_in domain_error_class high)) (word, (wanted.of_value, tt)) room);
              cost = omega (arith, words, cost);
            };
          }

  -- a condition without slots
  pub signal_run :
      (n budget k class : ℕ) (z' : meaning.State) (rs : Registers) → length rs ≡ 8 → PlainCondition class → SameObjects z z'
      → k + 130 + 250 * z.units ≤ budget + 250 * (z'.units + 3)
      → Run names program places z y procedures below n budget (fails class [] z') (code_of (steps.signal (pos (class_address class)))) rs k
  unfolding steps.signal
  signal_run n budget k class z' rs size plain alike cost = by rs (eight_registers rs size) (room_for 3 y.arena)
    where
      low : serious_condition_class < suc class
      low = plain_low plain

      high : class < built_in_classes
      high = plain_high plain

      words : instance_words program class 0 ≡ 3
      words = condition_words program r.built_in class 0 low high

      by :
          (rs : Registers) → EightRegisters rs → Room 3 y.arena
          → Run names program places z y procedures below n budget (fails class [] z') (code_of (steps.signal (pos (class_address class)))) rs k
      by rs (eight r0 r1 r2 r3 r4 r5 r6 r7) (is_wanting lacking) = record {
        outcome = ends (no_room 3 (left y.arena)) (r0 ∷ r1 ∷ r2 ∷ Some 3 ∷ r4 ∷ r5 ∷ r6 ∷ r7 ∷ []) (paid y (k + 26));
        runs = wanting names program places z y r 3 k lacking;
        answers = answers_wanting names program places z y r 3 _ (k + 26) lacking (sym words) (omega (arith, words, cost));
      }
      by rs (eight r0 r1 r2 r3 r4 r5 r6 r7) (is_left room) =
          let named = r.fixed.classes class high in
          let heap : ℕ = y.arena.heap_to in
          let last : List ℕ = instance_header 0 ∷ named.word ∷ nil_word ∷ [] in
          record {
            outcome =
                ends (returns signal_word) (r0 ∷ r1 ∷ r2 ∷ Some (heap + 2) ∷ Some signal_word ∷ Some 0 ∷ r6 ∷ r7 ∷ [])
                (record y { arena = with_word pending_address (heap + 2) (begun 3 last y.arena); cost = k + 62 + 58 });
            runs =
                parts_then (steps.begin_instance 3 (instance_header 0) (pos (class_address class))) mark_slot
                (begin_falls names program places z y r 3 (instance_header 0) (class_address class) named.word k (omega arith) room (omega (arith, high)) named.stands)
                (plain_ends names program places z y r (instance_header 0) named.word (k + 62) room);
            answers = record {
              comes = done (signalled names program places z y r class [] [] z' _ (k + 62 + 58) alike low high
                  (sym (slot_count_is program r.built_in class high ∙ plain_slots plain)) tt room);
              cost = omega (arith, words, cost);
            };
          }
