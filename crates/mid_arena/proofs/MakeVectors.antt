-- A vector that is made has the same element at each place, as the meaning says.
use Rattle.std.proofs.Common.{◌≡◌, ℕ, suc, ◌+◌, ◌*◌, ◌^◌, ◌<◌, ◌≤◌, ℤ, pos, List, [], ◌∷◌, ◌++◌, length, replicate, Option, Some, refl, sym, ap, ◌∙◌, arith}
use Rattle.std.specs.Prelude.{slice_get}
use Rattle.std.proofs.lemmas.List.{get_or-replicate, length-replicate}
use Rattle.lang_meaning.specs.declared.program.ProgramRows.{ProgramRows}
use Rattle.lang_meaning.specs.declared.primitive.Primitive.TheVariants.{MakeVector}
use Rattle.lang_meaning.specs.Values.{Value, nil, integer}
use Rattle.lang_meaning.specs.Objects.{vector, integer_class}
use Rattle.lang_meaning.specs.State as meaning
use Rattle.lang_meaning.specs.Primitives.{domain_error, needs, length_of, makes_vector, primitive}
use Rattle.mid_code.specs.declared.program.MidProcedure.{MidProcedure}
use Rattle.mid_code.specs.declared.operation.Arithmetic.TheVariants as which
use Rattle.mid_code.specs.declared.operation.Operation.TheVariants.{Move, Request}
use Rattle.base.specs.Arithmetic.{sum32, shift_right}
use Rattle.mid_code.specs.Arena.{left, word_at}
use Rattle.mid_code.specs.MidCode.{MidStep, perform, code_of}
use Rattle.mid_code.specs.State.{MidState, MidOutcome, falls, returns, no_room, ends, first_registers}
use Rattle.mid_code.specs.Meaning.{Task, Context}
use Rattle.mid_arena.specs.Tags.{object_tag, vector_header}
use Rattle.mid_arena.specs.Places.{Spot, Places, with_object, word_of}
use Rattle.mid_arena.specs.Standing.{ArenaStands}
use Rattle.mid_arena.specs.Layouts.{VectorAt}
use Rattle.mid_arena.specs.Represents.{Represents}
use Rattle.mid_arena.specs.Answers.{units_after}
use Rattle.mid_arena.specs.Steps as steps
use Rattle.mid_arena.proofs.Keeping.{same_word}
use Rattle.mid_arena.proofs.Memory.{heap_below, stands_with_heap}
use Rattle.mid_arena.proofs.Running.{RunsTo, none_left, parts_then, and_then, and_ends, costing, constant_falls, compute_known, move_falls, store_in_heap, request_falls}
use Rattle.mid_arena.proofs.Running.{request_wanting, address_here, address_above}
use Rattle.mid_arena.proofs.Making.{Room, is_left, is_wanting, room_for, begun, begun_grows, begun_heap, begun_blocks, begun_word, answers_made, answers_wanting}
use Rattle.mid_arena.proofs.Doing.{alike_self, Run, paid}
use Rattle.mid_arena.proofs.Checking.{integer_needed}
use Rattle.mid_arena.proofs.Arrays.{length_test, length_needed}
use Rattle.mid_arena.proofs.Taking.{does_two}
use Rattle.mid_arena.proofs.Lists.{replicated}
use Rattle.mid_arena.proofs.Filling.{filling_code, filling_ends}
use Rattle.mid_arena.proofs.Entering.{InEveryFrame}

-- the code behind the tests of the length, with four times the length in register 0 and the element in register 1: how many words are wanted
abbrev asking_code : List MidStep
asking_code = steps.compute_by 5 which.ShiftRight 0 2 ++ steps.compute_by 5 which.Add 5 2

-- they are requested, the header and the length are stored, and the loop is made ready
abbrev beginning_code : List MidStep
beginning_code =
    perform (Request 3 5) ∷ steps.constant 4 vector_header ∷ steps.store 4 3 (pos 0) ∷ steps.store 0 3 (pos 4)
    ∷ steps.compute 5 which.Add 0 3 ∷ perform (Move 4 1) ∷ perform (Move 7 3) ∷ []

-- the elements are stored, and the pointer is returned: all of it
abbrev vector_code : List MidStep
vector_code = asking_code ++ (beginning_code ++ filling_code)

-- what each part comes to
asking_falls :
    {c : Context} {r1 r2 r3 r4 r5 r6 r7 : Option ℕ} {x : MidState} (count : ℕ) → count < 2 ^ 29
    → RunsTo c (code_of asking_code) (Some (4 * count) ∷ r1 ∷ r2 ∷ r3 ∷ r4 ∷ r5 ∷ r6 ∷ r7 ∷ []) x
    (ends falls (Some (4 * count) ∷ r1 ∷ r2 ∷ r3 ∷ r4 ∷ Some (2 + count) ∷ Some 2 ∷ r7 ∷ []) (record x { cost = x.cost + 32 }))
asking_falls count low =
    let asked : shift_right (4 * count) 2 ≡ count = omega arith in
    let asked_all : sum32 count 2 ≡ 2 + count = omega arith in
    costing
    (and_then constant_falls
    (and_then (compute_known refl refl asked)
    (and_then constant_falls
    (and_then (compute_known refl refl asked_all) none_left)))) (omega arith)

beginning_falls :
    {c : Context} {r2 r3 r4 r6 r7 : Option ℕ} {b : ℕ} (y : MidState) (k count : ℕ) → ArenaStands y.arena → 2 + count ≤ left y.arena
    → RunsTo c (code_of beginning_code) (Some (4 * count) ∷ Some b ∷ r2 ∷ r3 ∷ r4 ∷ Some (2 + count) ∷ r6 ∷ r7 ∷ []) (paid y k)
    (ends falls (Some (4 * count) ∷ Some b ∷ r2 ∷ Some y.arena.heap_to ∷ Some b ∷ Some (y.arena.heap_to + 4 * count) ∷ r6 ∷ Some y.arena.heap_to ∷ [])
    (record y { arena = begun (2 + count) (vector_header ∷ (4 * count) ∷ []) y.arena; cost = k + 64 }))
beginning_falls y k count stands room =
    let heap : ℕ = y.arena.heap_to in
    let high : heap + 4 * (2 + count) ≤ 2 ^ 26 = heap_below (stands_with_heap (2 + count) stands room) in
    let end_is : sum32 (4 * count) heap ≡ heap + 4 * count = omega arith in
    costing
    (and_then (request_falls refl room)
    (and_then constant_falls
    (and_then (store_in_heap refl refl (address_here heap (omega arith)) stands.aligned (omega (arith, stands.heap)) (omega arith))
    (and_then (store_in_heap refl refl (address_above heap 4 (heap + 4) refl (omega arith)) (omega (arith, stands.aligned)) (omega (arith, stands.heap)) (omega arith))
    (and_then (compute_known refl refl end_is)
    (and_then (move_falls refl)
    (and_then (move_falls refl) none_left))))))) (omega arith)

module _ (names : List (List ℕ)) (program : ProgramRows) (places : Places) (z : meaning.State) (y : MidState) (r : Represents names program places z y) where
  module _ (count b : ℕ) (v : Value) (word : word_of places v ≡ Some b) (room : 2 + count ≤ left y.arena) where
    -- the words of the vector, and its spot
    abbrev all_words : List ℕ
    all_words = vector_header ∷ (4 * count) ∷ replicate count b

    abbrev made_spot : Spot
    made_spot = record { address = y.arena.heap_to; words = 2 + length (replicate count v); tag = object_tag }

    -- where they were all stored the vector stands
    vector_stands : VectorAt (with_object made_spot places) (begun (2 + count) all_words y.arena) made_spot (replicate count v)
    vector_stands = record {
      size = record { words = refl; tag = refl };
      header = moved y.arena.heap_to 0 vector_header (omega arith) refl;
      count = moved (y.arena.heap_to + 4) 1 (4 * count) (omega arith) refl ∙ ap (λ n. Some (4 * n)) (sym (length-replicate count v));
      values = λ i h.
          let low : i < count = omega (arith, length-replicate count v) in
          record {
            word = b;
            of_value = ap (word_of (with_object made_spot places)) (get_or-replicate count i v nil low) ∙ same_word made_spot places v b word;
            stands = moved (y.arena.heap_to + 8 + 4 * i) (suc (suc i)) b (omega arith) (replicated count i b low);
          };
    }
      where
        moved :
            (x i w : ℕ) → x ≡ y.arena.heap_to + 4 * i → slice_get all_words i ≡ Some w → word_at (begun (2 + count) all_words y.arena) x ≡ Some w
        moved x i w same found = begun_word (2 + count) all_words x i w r.arena room (omega (arith, length-replicate count b)) same found

  module _ (procedures : List MidProcedure) (below : Task → MidState → MidOutcome) where
    -- the vector is made, where its words are left
    vector_run :
        (n budget k b count : ℕ) (v : Value) (c d e f g h : Option ℕ) → count < 2 ^ 29 → word_of places v ≡ Some b → count ≤ n
        → k + 138 + 38 * count ≤ budget + 250 * (2 + count)
        → Run names program places z y procedures below n budget (makes_vector (replicate count v) z) (code_of vector_code)
        (Some (4 * count) ∷ Some b ∷ c ∷ d ∷ e ∷ f ∷ g ∷ h ∷ []) k
    vector_run n budget k b count v c d e f g h low word turns cost = by (room_for (2 + count) y.arena)
      where
        many : length (replicate count v) ≡ count
        many = length-replicate count v

        by :
            Room (2 + count) y.arena
            → Run names program places z y procedures below n budget (makes_vector (replicate count v) z) (code_of vector_code)
            (Some (4 * count) ∷ Some b ∷ c ∷ d ∷ e ∷ f ∷ g ∷ h ∷ []) k
        by (is_wanting lacking) = record {
          outcome = ends (no_room (2 + count) (left y.arena)) (Some (4 * count) ∷ Some b ∷ c ∷ d ∷ e ∷ Some (2 + count) ∷ Some 2 ∷ h ∷ []) (paid y (k + 32 + 20));
          runs = parts_then asking_code (beginning_code ++ filling_code) (asking_falls count low) (and_ends tt (request_wanting refl lacking));
          answers = answers_wanting names program places z y r (2 + count) _ (k + 32 + 20) lacking (omega (arith, many)) (omega (arith, many, cost));
        }
        by (is_left room) =
            let all : List ℕ = all_words count b v word room in
            let now : MidState = record y { arena = begun (2 + count) all y.arena; cost = k + 32 + 64 + 42 + 38 * count } in
            record {
              outcome =
                  ends (returns (y.arena.heap_to + 2))
                  (Some (4 * count) ∷ Some b ∷ c ∷ Some (y.arena.heap_to + 2) ∷ Some b ∷ Some (y.arena.heap_to + 4 * count) ∷ Some 2 ∷ Some (y.arena.heap_to + 4 * count) ∷ []) now;
              runs =
                  parts_then asking_code (beginning_code ++ filling_code) (asking_falls count low)
                  (parts_then beginning_code filling_code (beginning_falls y (k + 32) count r.arena room)
                  (filling_ends procedures below n count y.arena.heap_to b (k + 32 + 64) (record y { arena = begun (2 + count) (vector_header ∷ (4 * count) ∷ []) y.arena }) turns
                  r.arena.aligned r.arena.heap (omega arith) (heap_below (stands_with_heap (2 + count) r.arena room))));
              answers =
                  answers_made names program places z y r (2 + length (replicate count v)) 0 (vector (replicate count v)) z now _ (alike_self z)
                  (begun_grows (2 + count) all r.arena room (omega (arith, length-replicate count b))) (begun_heap (2 + count) all y.arena ∙ omega (arith, many)) (begun_blocks (2 + count) all y.arena) refl refl
                  (omega arith) (vector_stands count b v word room) tt (omega (arith, many, cost));
            }

-- the units behind the answer, where the first argument is a length
units_of_vector :
    (names : List (List ℕ)) (program : ProgramRows) (v w : Value) (i : ℤ) (count : ℕ) (z : meaning.State) → v ≡ integer i → length_of i ≡ Some count
    → units_after names program (primitive names program MakeVector (v ∷ w ∷ []) z) ≡ z.units + (2 + length (replicate count w)) + 0
units_of_vector names program v w i count z v_is length_is = rw (v_is, length_is) refl

pub make_vector_does : InEveryFrame MakeVector
make_vector_does = does_two MakeVector refl (λ v w a b names program places z y procedures below n r are units.
    integer_needed names program places z y r procedures below n (y.cost + 130 + 244 * 2) y.cost 0 a v
    (λ i. needs (length_of i) (domain_error v integer_class z) (λ count. makes_vector (replicate count w) z))
    (length_test vector_code)
    (first_registers 8 (a ∷ b ∷ [])) (omega arith) refl refl are.0 (omega arith)
    (λ i i_is range i_word.
    length_needed names program places z y r procedures below n (y.cost + 130 + 244 * 2) _ a i v (λ count. makes_vector (replicate count w) z) vector_code _ refl refl
    are.0 range i_word (omega arith)
    (λ count length_is low a_is.
    rw a_is
    (vector_run names program places z y r procedures below n (y.cost + 130 + 244 * 2) _ b count w _ _ _ _ _ _ low are.1.0
    (omega (arith, units, units_of_vector names program v w i count z i_is length_is, length-replicate count w)) (omega arith)))))
