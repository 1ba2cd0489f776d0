-- A string that is made has the same character at each place, as the meaning says.
use Rattle.std.proofs.Common.{◌≡◌, ℕ, suc, ◌+◌, ◌*◌, ◌^◌, ◌<◌, ◌≤◌, ℤ, pos, List, [], ◌∷◌, ◌++◌, length, replicate, Option, Some, ⊎_elim, refl, sym, ap, ◌∙◌, arith}
use Rattle.std.specs.Prelude.{◌≢◌}
use Rattle.std.proofs.lemmas.Bool.Decides.{nat_tests}
use Rattle.std.proofs.lemmas.Bool.{cases_eq}
use Rattle.std.proofs.lemmas.List.{length-replicate}
use Rattle.lang_meaning.specs.declared.program.ProgramRows.{ProgramRows}
use Rattle.lang_meaning.specs.declared.primitive.Primitive.TheVariants.{MakeString}
use Rattle.lang_meaning.specs.Values.{Value, integer, character}
use Rattle.lang_meaning.specs.Objects.{string, integer_class}
use Rattle.lang_meaning.specs.State as meaning
use Rattle.lang_meaning.specs.Primitives.{domain_error, needs, a_character, length_of, makes_string, primitive}
use Rattle.mid_code.specs.declared.program.MidProcedure.{MidProcedure}
use Rattle.mid_code.specs.declared.operation.Arithmetic.TheVariants as which
use Rattle.mid_code.specs.declared.operation.Operation.TheVariants.{Move, Request}
use Rattle.base.specs.Arithmetic.{sum32}
use Rattle.mid_code.specs.Arena.{Arena, stack_from, left, word_at, with_word, with_heap}
use Rattle.mid_code.specs.MidCode.{MidStep, perform, return_word, code_of}
use Rattle.mid_code.specs.State.{MidState, MidOutcome, falls, returns, no_room, ends, first_registers}
use Rattle.mid_code.specs.Meaning.{Task, Context}
use Rattle.mid_arena.specs.Tags.{object_tag, string_header, character_word}
use Rattle.mid_arena.specs.Places.{Places}
use Rattle.mid_arena.specs.Standing.{ArenaStands}
use Rattle.mid_arena.specs.Layouts.{byte_words, packed, TextAt}
use Rattle.mid_arena.specs.Represents.{Represents}
use Rattle.mid_arena.specs.Answers.{units_after}
use Rattle.mid_arena.specs.Steps as steps
use Rattle.mid_arena.specs.Steps.{steps_of}
use Rattle.mid_arena.specs.declared.line.Line.TheVariants as line
use Rattle.mid_arena.proofs.WordFacts.{character_code, four_times_count, sum_fits}
use Rattle.mid_arena.proofs.ArithmeticBytes.{replicated_bytes, byte_words_is, full_word, last_word, packed_in_front, packed_last}
use Rattle.mid_arena.proofs.Memory.{room_below, heap_below, stands_with_heap, grows_with_heap, grows_stored, grows_with_words, stored_in_heap, word_elsewhere, with_words, words_in_front, words_stand}
use Rattle.mid_arena.proofs.Running.{RunsTo, StepsTo, turning, none_left, parts_then, and_then, and_ends, costing, constant_falls, compute_falls, compute_known, move_falls, store_in_heap}
use Rattle.mid_arena.proofs.Running.{request_falls, request_wanting, return_ends, address_here, address_above}
use Rattle.mid_arena.proofs.Making.{Room, is_left, is_wanting, room_for, answers_made, answers_wanting}
use Rattle.mid_arena.proofs.Doing.{alike_self, Run, paid}
use Rattle.mid_arena.proofs.Checking.{integer_needed, character_needed}
use Rattle.mid_arena.proofs.Filling.{fill, six_after, fill_falls}
use Rattle.mid_arena.proofs.Arrays.{length_test, length_needed}
use Rattle.mid_arena.specs.Growing.{Grows}
use Rattle.mid_arena.proofs.Taking.{does_two}
use Rattle.mid_arena.proofs.Lists.{replicated}
use Rattle.mid_arena.proofs.Entering.{InEveryFrame}

-- ---- the arena

-- the words of a string are requested and its header is stored; then all words of bytes are filled; and at last the last of them and the length are stored
abbrev begun_string : (count : ℕ) → Arena → Arena
begun_string count a = with_word a.heap_to string_header (with_heap (2 + byte_words count) a)

abbrev filled_string : (count c : ℕ) → Arena → Arena
filled_string count c a = with_words (a.heap_to + 8) (replicate (byte_words count) (full_word c)) (begun_string count a)

abbrev ended_string : (count c : ℕ) → Arena → Arena
ended_string count c a = with_word (a.heap_to + 4 * byte_words count + 4) (last_word (full_word c) (4 * count)) (filled_string count c a)

abbrev made_string : (count c : ℕ) → Arena → Arena
made_string count c a = with_word (a.heap_to + 4) (4 * count) (ended_string count c a)

-- to store words changes the memory alone
only_memory : (x : ℕ) (ws : List ℕ) (a : Arena) → with_words x ws a ≡ record a { memory = (with_words x ws a).memory }
only_memory x [] a = refl
only_memory x (w ∷ ws) a = only_memory (x + 4) ws (with_word x w a)

filled_heap : (count c : ℕ) (a : Arena) → (filled_string count c a).heap_to ≡ a.heap_to + 4 * (2 + byte_words count)
filled_heap count c a = ap (λ b. b.heap_to) (only_memory (a.heap_to + 8) (replicate (byte_words count) (full_word c)) (begun_string count a))

filled_from : (count c : ℕ) (a : Arena) → (filled_string count c a).heap_from ≡ a.heap_from
filled_from count c a = ap (λ b. b.heap_from) (only_memory (a.heap_to + 8) (replicate (byte_words count) (full_word c)) (begun_string count a))

filled_blocks : (count c : ℕ) (a : Arena) → (filled_string count c a).blocks ≡ a.blocks
filled_blocks count c a = ap (λ b. b.blocks) (only_memory (a.heap_to + 8) (replicate (byte_words count) (full_word c)) (begun_string count a))

module _ (a : Arena) (count c : ℕ) (stands : ArenaStands a) (room : 2 + byte_words count ≤ left a) (small : c < 256) where
  -- all words end below the stack
  below : a.heap_to + 4 * (2 + byte_words count) ≤ stack_from a
  below = room_below (2 + byte_words count) stands room

  begun_string_grows : Grows a (begun_string count a)
  begun_string_grows =
      grows_stored a.heap_to string_header (grows_with_heap (2 + byte_words count) stands room) stands.aligned (omega arith) (omega (arith, below))

  filled_string_grows : Grows a (filled_string count c a)
  filled_string_grows =
      grows_with_words (a.heap_to + 8) (replicate (byte_words count) (full_word c)) begun_string_grows (omega (arith, stands.aligned)) (omega arith)
      (omega (arith, below, length-replicate (byte_words count) (full_word c)))

  ended_string_grows : Grows a (ended_string count c a)
  ended_string_grows =
      grows_stored (a.heap_to + 4 * byte_words count + 4) (last_word (full_word c) (4 * count)) filled_string_grows (omega (arith, stands.aligned)) (omega arith)
      (omega (arith, below))

  made_string_grows : Grows a (made_string count c a)
  made_string_grows = grows_stored (a.heap_to + 4) (4 * count) ended_string_grows (omega (arith, stands.aligned)) (omega arith) (omega (arith, below))

  -- the words that stand there
  made_elsewhere : (x : ℕ) → a.heap_to + 4 ≢ x → word_at (made_string count c a) x ≡ word_at (ended_string count c a) x
  made_elsewhere x other = word_elsewhere (ended_string count c a) (a.heap_to + 4) (4 * count) x (omega (arith, stands.aligned)) (grind (arith, nat_tests))

  ended_elsewhere : (x : ℕ) → a.heap_to + 4 * byte_words count + 4 ≢ x → word_at (ended_string count c a) x ≡ word_at (filled_string count c a) x
  ended_elsewhere x other =
      word_elsewhere (filled_string count c a) (a.heap_to + 4 * byte_words count + 4) (last_word (full_word c) (4 * count)) x
      (omega (arith, stands.aligned)) (grind (arith, nat_tests))

  header_there : word_at (made_string count c a) a.heap_to ≡ Some string_header
  header_there =
      made_elsewhere a.heap_to (λ e. omega arith) ∙ ended_elsewhere a.heap_to (λ e. omega arith)
      ∙ words_in_front (a.heap_to + 8) (replicate (byte_words count) (full_word c)) (begun_string count a) a.heap_to (omega (arith, stands.aligned)) (omega arith)
      ∙ stored_in_heap a.heap_to string_header (grows_with_heap (2 + byte_words count) stands room).stands stands.aligned stands.heap (omega arith)

  count_there : word_at (made_string count c a) (a.heap_to + 4) ≡ Some (4 * count)
  count_there =
      stored_in_heap (a.heap_to + 4) (4 * count) ended_string_grows.stands (omega (arith, stands.aligned))
      (omega (arith, stands.heap, filled_from count c a)) (omega (arith, filled_heap count c a))

  bytes_there : (i : ℕ) → i < byte_words count → word_at (made_string count c a) (a.heap_to + 8 + 4 * i) ≡ Some (packed (replicate count c) (4 * i))
  bytes_there i low = made_elsewhere (a.heap_to + 8 + 4 * i) (λ e. omega arith) ∙ ⊎_elim last in_front (cases_eq (suc i) (byte_words count))
    where
      last : suc i ≡ byte_words count → word_at (ended_string count c a) (a.heap_to + 8 + 4 * i) ≡ Some (packed (replicate count c) (4 * i))
      last e =
          ap (word_at (ended_string count c a)) (omega arith)
          ∙ stored_in_heap (a.heap_to + 4 * byte_words count + 4) (last_word (full_word c) (4 * count)) filled_string_grows.stands (omega (arith, stands.aligned))
          (omega (arith, stands.heap, filled_from count c a)) (omega (arith, filled_heap count c a))
          ∙ ap (λ w. Some w) (sym (packed_last count c i small (sym e)))

      in_front : suc i ≢ byte_words count → word_at (ended_string count c a) (a.heap_to + 8 + 4 * i) ≡ Some (packed (replicate count c) (4 * i))
      in_front other =
          ended_elsewhere (a.heap_to + 8 + 4 * i) (λ e. other (omega arith))
          ∙ words_stand (a.heap_to + 8) (replicate (byte_words count) (full_word c)) (begun_string count a) i (full_word c) begun_string_grows.stands
          (omega (arith, stands.aligned)) (omega (arith, stands.heap)) (omega (arith, length-replicate (byte_words count) (full_word c)))
          (replicated (byte_words count) i (full_word c) low)
          ∙ ap (λ w. Some w) (sym (packed_in_front count c i small (omega (arith, low, other))))

  string_stands :
      TextAt (made_string count c a) (record { address = a.heap_to; words = 2 + byte_words (length (replicate count c)); tag = object_tag }) string_header
      (replicate count c)
  string_stands =
      let many : length (replicate count c) ≡ count = length-replicate count c in
      record {
        size = record { words = refl; tag = refl };
        bytes = replicated_bytes count c small;
        header = header_there;
        count = count_there ∙ ap (λ n. Some (4 * n)) (sym many);
        words = λ i h. bytes_there i (omega (arith, many, h));
      }

-- ---- the code

-- behind the tests, with four times the length in register 0 and the character in register 1: how many words are wanted
abbrev asking_code : List MidStep
asking_code = steps.compute_by 5 which.Add 0 12 ++ steps.compute_by 5 which.ShiftRight 5 4 ++ steps.compute_by 4 which.Add 5 2

-- they are requested, the header is stored, and the loop is made ready
abbrev beginning_code : List MidStep
beginning_code =
    perform (Request 3 4) ∷ steps.constant 4 string_header ∷ steps.store 4 3 (pos 0) ∷ steps.compute_by 4 which.ShiftRight 1 8
    ++ steps.compute_by 4 which.Multiply 4 16843009 ++ steps.compute_by 5 which.ShiftLeft 5 2 ++ steps.compute 5 which.Add 5 3 ∷ perform (Move 7 3) ∷ []

-- the last word and the length are stored, and the pointer is returned
abbrev ending_code : List MidStep
ending_code =
    steps.compute_by 7 which.ShiftLeft 0 28 ++ steps.compute_by 7 which.ShiftRight 7 27 ++ steps.constant 6 32 ∷ steps.compute 7 which.Subtract 6 7
    ∷ steps.compute 7 which.ShiftRight 4 7 ∷ steps.store 7 5 (pos 4) ∷ steps.store 0 3 (pos 4) ∷ steps.compute_by 3 which.Add 3 2 ++ return_word 3 ∷ []

-- all of it
abbrev string_code : List MidStep
string_code = asking_code ++ (beginning_code ++ (fill ∷ ending_code))

-- what each part comes to
asking_falls :
    {c : Context} {r1 r2 r3 r4 r5 r6 r7 : Option ℕ} {x : MidState} (count : ℕ) → count < 2 ^ 29
    → RunsTo c (code_of asking_code) (Some (4 * count) ∷ r1 ∷ r2 ∷ r3 ∷ r4 ∷ r5 ∷ r6 ∷ r7 ∷ []) x
    (ends falls (Some (4 * count) ∷ r1 ∷ r2 ∷ r3 ∷ Some (2 + byte_words count) ∷ Some (byte_words count) ∷ Some 2 ∷ r7 ∷ []) (record x { cost = x.cost + 48 }))
asking_falls count low =
    let asked : sum32 (byte_words count) 2 ≡ 2 + byte_words count = omega arith in
    costing
    (and_then constant_falls
    (and_then (compute_falls refl refl)
    (and_then constant_falls
    (and_then (compute_known refl refl (byte_words_is count (omega arith)))
    (and_then constant_falls
    (and_then (compute_known refl refl asked) none_left)))))) (omega arith)

beginning_falls :
    {context : Context} {r2 r3 r6 r7 : Option ℕ} (y : MidState) (k count c : ℕ) → ArenaStands y.arena → 2 + byte_words count ≤ left y.arena
    → RunsTo context (code_of beginning_code)
    (Some (4 * count) ∷ Some (character_word c) ∷ r2 ∷ r3 ∷ Some (2 + byte_words count) ∷ Some (byte_words count) ∷ r6 ∷ r7 ∷ []) (paid y k)
    (ends falls
    (Some (4 * count) ∷ Some (character_word c) ∷ r2 ∷ Some y.arena.heap_to ∷ Some (full_word c)
    ∷ Some (y.arena.heap_to + 4 * byte_words count) ∷ Some 2 ∷ Some y.arena.heap_to ∷ [])
    (record y { arena = begun_string count y.arena; cost = k + 98 }))
beginning_falls y k count c stands room =
    let heap : ℕ = y.arena.heap_to in
    let words : ℕ = byte_words count in
    let high : heap + 4 * (2 + words) ≤ 2 ^ 26 = heap_below (stands_with_heap (2 + words) stands room) in
    let end_is : sum32 (4 * words) heap ≡ heap + 4 * words = omega arith in
    costing
    (and_then (request_falls refl room)
    (and_then constant_falls
    (and_then (store_in_heap refl refl (address_here heap (omega arith)) stands.aligned (omega (arith, stands.heap)) (omega arith))
    (and_then constant_falls
    (and_then (compute_known refl refl (character_code c))
    (and_then constant_falls
    (and_then (compute_falls refl refl)
    (and_then constant_falls
    (and_then (compute_known refl refl (four_times_count words (omega arith)))
    (and_then (compute_known refl refl end_is)
    (and_then (move_falls refl) none_left))))))))))) (omega arith)

filling_falls :
    {r0 r1 r2 r6 : Option ℕ} (procedures : List MidProcedure) (below : Task → MidState → MidOutcome) (n : ℕ) (y : MidState) (k count c : ℕ) → ArenaStands y.arena
    → 2 + byte_words count ≤ left y.arena → byte_words count ≤ n
    → StepsTo (turning procedures below n) fill
    (r0 ∷ r1 ∷ r2 ∷ Some y.arena.heap_to ∷ Some (full_word c) ∷ Some (y.arena.heap_to + 4 * byte_words count) ∷ r6 ∷ Some y.arena.heap_to ∷ [])
    (record y { arena = begun_string count y.arena; cost = k })
    (ends falls
    (r0 ∷ r1 ∷ r2 ∷ Some y.arena.heap_to ∷ Some (full_word c) ∷ Some (y.arena.heap_to + 4 * byte_words count) ∷ six_after (byte_words count) r6
    ∷ Some (y.arena.heap_to + 4 * byte_words count) ∷ [])
    (record y { arena = filled_string count c y.arena; cost = k + (12 + 38 * byte_words count) }))
filling_falls procedures below n y k count c stands room turns =
    let heap : ℕ = y.arena.heap_to in
    let words : ℕ = byte_words count in
    let high : heap + 4 * (2 + words) ≤ 2 ^ 26 = heap_below (stands_with_heap (2 + words) stands room) in
    fill_falls procedures below words n heap (heap + 8) (heap + 4 * words) _ _ _ _ _ _ _ turns refl refl (omega (arith, stands.aligned))
    (omega (arith, stands.heap)) (omega arith) (omega arith)

ending_ends :
    {context : Context} {r1 r2 r6 r7 : Option ℕ} (y : MidState) (k count c : ℕ) → ArenaStands y.arena → 2 + byte_words count ≤ left y.arena
    → RunsTo context (code_of ending_code)
    (Some (4 * count) ∷ r1 ∷ r2 ∷ Some y.arena.heap_to ∷ Some (full_word c) ∷ Some (y.arena.heap_to + 4 * byte_words count) ∷ r6 ∷ r7 ∷ [])
    (record y { arena = filled_string count c y.arena; cost = k })
    (ends (returns (y.arena.heap_to + 2))
    (Some (4 * count) ∷ r1 ∷ r2 ∷ Some (y.arena.heap_to + 2) ∷ Some (full_word c) ∷ Some (y.arena.heap_to + 4 * byte_words count) ∷ Some 2
    ∷ Some (last_word (full_word c) (4 * count)) ∷ [])
    (record y { arena = made_string count c y.arena; cost = k + 104 }))
ending_ends y k count c stands room =
    let heap : ℕ = y.arena.heap_to in
    let words : ℕ = byte_words count in
    let high : heap + 4 * (2 + words) ≤ 2 ^ 26 = heap_below (stands_with_heap (2 + words) stands room) in
    costing
    (and_then constant_falls
    (and_then (compute_falls refl refl)
    (and_then constant_falls
    (and_then (compute_falls refl refl)
    (and_then constant_falls
    (and_then (compute_falls refl refl)
    (and_then (compute_falls refl refl)
    (and_then
    (store_in_heap refl refl (address_above (heap + 4 * words) 4 (heap + 4 * words + 4) refl (omega arith)) (omega (arith, stands.aligned))
    (omega (arith, stands.heap, filled_from count c y.arena)) (omega (arith, filled_heap count c y.arena)))
    (and_then
    (store_in_heap refl refl (address_above heap 4 (heap + 4) refl (omega arith)) (omega (arith, stands.aligned))
    (omega (arith, stands.heap, filled_from count c y.arena)) (omega (arith, filled_heap count c y.arena)))
    (and_then constant_falls
    (and_then (compute_known refl refl (sum_fits heap 2 (omega arith)))
    (and_ends tt (return_ends refl))))))))))))) (omega arith)

module _
    (names : List (List ℕ)) (program : ProgramRows) (places : Places) (z : meaning.State) (y : MidState) (r : Represents names program places z y)
    (procedures : List MidProcedure) (below : Task → MidState → MidOutcome)
  where
    -- the string is made, where its words are left
    string_run :
        (n budget k count c : ℕ) (r2 r3 r4 r5 r6 r7 : Option ℕ) → count < 2 ^ 29 → c < 256 → byte_words count ≤ n
        → k + 262 + 38 * byte_words count ≤ budget + 250 * (2 + byte_words count + count)
        → Run names program places z y procedures below n budget (makes_string (replicate count c) z) (code_of string_code)
        (Some (4 * count) ∷ Some (character_word c) ∷ r2 ∷ r3 ∷ r4 ∷ r5 ∷ r6 ∷ r7 ∷ []) k
    string_run n budget k count c r2 r3 r4 r5 r6 r7 low small turns cost = by (room_for (2 + byte_words count) y.arena)
      where
        many : length (replicate count c) ≡ count
        many = length-replicate count c

        by :
            Room (2 + byte_words count) y.arena
            → Run names program places z y procedures below n budget (makes_string (replicate count c) z) (code_of string_code)
            (Some (4 * count) ∷ Some (character_word c) ∷ r2 ∷ r3 ∷ r4 ∷ r5 ∷ r6 ∷ r7 ∷ []) k
        by (is_wanting lacking) = record {
          outcome =
              ends (no_room (2 + byte_words count) (left y.arena))
              (Some (4 * count) ∷ Some (character_word c) ∷ r2 ∷ r3 ∷ Some (2 + byte_words count) ∷ Some (byte_words count) ∷ Some 2 ∷ r7 ∷ []) (paid y (k + 48 + 20));
          runs = parts_then asking_code (beginning_code ++ (fill ∷ ending_code)) (asking_falls count low) (and_ends tt (request_wanting refl lacking));
          answers = answers_wanting names program places z y r (2 + byte_words count) _ (k + 48 + 20) lacking (omega (arith, many)) (omega (arith, many, cost));
        }
        by (is_left room) =
            let paid_then : ℕ = k + 48 + 98 + (12 + 38 * byte_words count) in
            let now : MidState = record y { arena = made_string count c y.arena; cost = paid_then + 104 } in
            record {
              outcome =
                  ends (returns (y.arena.heap_to + 2))
                  (Some (4 * count) ∷ Some (character_word c) ∷ r2 ∷ Some (y.arena.heap_to + 2) ∷ Some (full_word c) ∷ Some (y.arena.heap_to + 4 * byte_words count)
                  ∷ Some 2 ∷ Some (last_word (full_word c) (4 * count)) ∷ []) now;
              runs =
                  parts_then asking_code (beginning_code ++ (fill ∷ ending_code)) (asking_falls count low)
                  (parts_then beginning_code (fill ∷ ending_code) (beginning_falls y (k + 48) count c r.arena room)
                  (and_then (filling_falls procedures below n y (k + 48 + 98) count c r.arena room turns) (ending_ends y paid_then count c r.arena room)));
              answers =
                  answers_made names program places z y r (2 + byte_words (length (replicate count c))) (length (replicate count c)) (string (replicate count c)) z now _
                  (alike_self z) (made_string_grows y.arena count c r.arena room small) (filled_heap count c y.arena ∙ omega (arith, many))
                  (filled_blocks count c y.arena) refl refl (omega arith) (string_stands y.arena count c r.arena room small) tt (omega (arith, many, cost));
            }

-- the units behind the answer, where the arguments are a length and a character
units_of_string :
    (names : List (List ℕ)) (program : ProgramRows) (v w : Value) (i : ℤ) (count c : ℕ) (z : meaning.State) → v ≡ integer i → w ≡ character c
    → length_of i ≡ Some count
    → units_after names program (primitive names program MakeString (v ∷ w ∷ []) z)
    ≡ z.units + (2 + byte_words (length (replicate count c))) + length (replicate count c)
units_of_string names program v w i count c z v_is w_is length_is = rw (v_is, w_is, length_is) refl

pub make_string_does : InEveryFrame MakeString
make_string_does = does_two MakeString refl (λ v w a b names program places z y procedures below n r are units.
    integer_needed names program places z y r procedures below n (y.cost + 130 + 244 * 2) y.cost 0 a v
    (λ i. a_character w z (λ c. needs (length_of i) (domain_error v integer_class z) (λ count. makes_string (replicate count c) z)))
    (steps_of (line.NeedCharacter 1) ++ length_test string_code) (first_registers 8 (a ∷ b ∷ [])) (omega arith) refl refl are.0 (omega arith)
    (λ i i_is range i_word.
    character_needed names program places z y r procedures below n (y.cost + 130 + 244 * 2) _ 1 b w
    (λ c. needs (length_of i) (domain_error v integer_class z) (λ count. makes_string (replicate count c) z)) (length_test string_code)
    _ (omega arith) refl refl are.1.0 (omega arith)
    (λ c c_is c_low c_word.
    length_needed names program places z y r procedures below n (y.cost + 130 + 244 * 2) _ a i v (λ count. makes_string (replicate count c) z) string_code _ refl refl
    are.0 range i_word (omega arith)
    (λ count length_is low a_is.
    rw (a_is, c_word)
    (string_run names program places z y r procedures below n (y.cost + 130 + 244 * 2) _ count c _ _ _ _ _ _ low (omega (arith, c_low))
    (omega (arith, units, units_of_string names program v w i count c z i_is c_is length_is, length-replicate count c)) (omega arith))))))
