-- The line that searches the precedence list of a class, beside the meaning's question whether a class is below another.
use Rattle.std.proofs.Common.{◌≡◌, ℕ, zero, suc, ◌+◌, ◌*◌, ◌^◌, ◌<◌, ◌≤◌, pos, Bool, true, false, List, [], ◌∷◌, ◌++◌, length, Some, refl, ap, ◌∙◌, arith}
use Rattle.std.specs.Prelude.{◌==◌, nat_lt, slice_set, slice_index_or}
use Rattle.std.proofs.lemmas.Bool.Decides.{nat_tests}
use Rattle.lang_meaning.specs.declared.program.ProgramRows.{ProgramRows}
use Rattle.lang_meaning.specs.Values.{Value}
use Rattle.lang_meaning.specs.Lookup.{is_in, passed}
use Rattle.lang_meaning.specs.Objects.{class_object}
use Rattle.lang_meaning.specs.Classes.{fetch, precedence, is_below}
use Rattle.lang_meaning.specs.Primitives.{says}
use Rattle.lang_meaning.specs.State as meaning
use Rattle.mid_code.specs.declared.program.MidProcedure.{MidProcedure}
use Rattle.mid_code.specs.declared.operation.Arithmetic.TheVariants as which
use Rattle.mid_code.specs.declared.operation.Comparison.TheVariants.{Equal}
use Rattle.mid_code.specs.Arena.{word_at}
use Rattle.base.specs.Arithmetic.{sum32}
use Rattle.mid_code.specs.MidCode.{MidStep, return_word, code_of}
use Rattle.mid_code.specs.State.{Registers, MidState, MidOutcome, falls, returns, ends, register}
use Rattle.mid_code.specs.Meaning.{Task}
use Rattle.mid_arena.specs.Tags.{nil_word}
use Rattle.mid_arena.specs.Places.{Places, word_of}
use Rattle.mid_arena.specs.FixedWords.{true_address}
use Rattle.mid_arena.specs.Represents.{Represents}
use Rattle.mid_arena.specs.Steps as steps
use Rattle.mid_arena.proofs.Running.{StepsTo, turning, none_left, and_then, and_ends, constant_falls, compute_known, load_falls, return_ends, choose_first_ends, choose_second_falls}
use Rattle.mid_arena.proofs.Running.{repeat_falls, repeat_turn, repeat_ends, address_here, address_up, address_above}
use Rattle.mid_arena.proofs.Arguments.{ObjectFound, object_found}
use Rattle.mid_arena.proofs.Doing.{alike_charged, paid, Run, goes_on, returns_value, step_returns}
use Rattle.mid_arena.proofs.Registers.{register_beside, register_here, same_size}
use Rattle.mid_arena.proofs.Memory.{spot_low}

-- what the loop does in a turn
abbrev search_body : List MidStep
search_body =
    steps.load 7 5 (pos 0) ∷ steps.either (steps.comparing Equal 7 4) (steps.constant 7 0 ∷ steps.load 7 7 (pos true_address) ∷ return_word 7 ∷ []) []
    ∷ steps.compute_by 5 which.Add 5 4

abbrev search : MidStep
search = steps.while_below 5 3 search_body

module _
    (names : List (List ℕ)) (program : ProgramRows) (places : Places) (z : meaning.State) (y : MidState) (r : Represents names program places z y)
    (procedures : List MidProcedure) (below : Task → MidState → MidOutcome) (d : ℕ)
  where
    -- The loop in front of the words of some classes: it returns t where the class is among them, else it falls out.
    pub data Searched (n : ℕ) (cs : List ℕ) (rs : Registers) (k : ℕ) : Type 0 where
      found_there :
          (rs' : Registers) (k' : ℕ) → is_in d cs ≡ true → StepsTo (turning procedures below n) search rs (paid y k) (ends (returns r.fixed.true_value.word) rs' (paid y k'))
          → k' ≤ k + 12 + 52 * passed (λ c. d == c) cs → Searched n cs rs k
      not_there :
          (rs' : Registers) (k' : ℕ) → is_in d cs ≡ false → StepsTo (turning procedures below n) search rs (paid y k) (ends falls rs' (paid y k'))
          → length rs' ≡ 8 → k' ≤ k + 12 + 52 * passed (λ c. d == c) cs → Searched n cs rs k

    -- the registers in front of the loop: the addresses of the next word and of the end, and the word of the class
    record InFront (at count : ℕ) (rs : Registers) : Type 0 where
      pub size : length rs ≡ 8
      pub next : register 5 rs ≡ Some at
      pub end : register 3 rs ≡ Some (at + 4 * count)
      pub sought : register 4 rs ≡ Some (4 * d)
      pub bounded : at + 4 * count < 2 ^ 32

    -- behind a turn
    abbrev after_turn : (at c : ℕ) → Registers → Registers
    after_turn at c rs = slice_set (slice_set (slice_set rs 7 (Some (4 * c))) 6 (Some 4)) 5 (Some (at + 4))

    module _ (at count c : ℕ) (rs : Registers) (f : InFront at (suc count) rs) where
      loaded_size : length (slice_set rs 7 (Some (4 * c))) ≡ 8
      loaded_size = same_size rs 7 (Some (4 * c)) f.size

      put_size : length (slice_set (slice_set rs 7 (Some (4 * c))) 6 (Some 4)) ≡ 8
      put_size = same_size (slice_set rs 7 (Some (4 * c))) 6 (Some 4) loaded_size

      loaded_beside : (i : ℕ) → i < 7 → register i (slice_set rs 7 (Some (4 * c))) ≡ register i rs
      loaded_beside i h = register_beside rs 7 i (Some (4 * c)) (omega arith)

      put_beside : (i : ℕ) → i < 6 → register i (slice_set (slice_set rs 7 (Some (4 * c))) 6 (Some 4)) ≡ register i rs
      put_beside i h = register_beside (slice_set rs 7 (Some (4 * c))) 6 i (Some 4) (omega arith) ∙ loaded_beside i (omega arith)

      next_in_front : InFront (at + 4) count (after_turn at c rs)
      next_in_front =
          let behind = slice_set (slice_set rs 7 (Some (4 * c))) 6 (Some 4) in
          let same : at + 4 * suc count ≡ at + 4 + 4 * count = omega arith in
          record {
            size = same_size behind 5 (Some (at + 4)) put_size;
            next = register_here behind 5 (at + 4) (omega (arith, put_size));
            end = register_beside behind 5 3 (Some (at + 4)) (omega arith) ∙ put_beside 3 (omega arith) ∙ f.end ∙ ap (λ e. Some e) same;
            sought = register_beside behind 5 4 (Some (at + 4)) (omega arith) ∙ put_beside 4 (omega arith) ∙ f.sought;
            bounded = omega (arith, f.bounded);
          }

      -- the loop's test holds
      is_in_front : nat_lt at (at + 4 * suc count) ≡ true
      is_in_front = grind (arith, nat_tests)

      -- the word is loaded
      word_loaded :
          (n : ℕ) {k : ℕ} → word_at y.arena at ≡ Some (4 * c)
          → StepsTo (turning procedures below n) (steps.load 7 5 (pos 0)) rs (paid y k) (ends falls (slice_set rs 7 (Some (4 * c))) (paid y (k + 8)))
      word_loaded n at_word = load_falls f.next (address_here at (omega (arith, f.bounded))) at_word

      -- it is the one that is sought: t is returned
      found_in_turn :
          (n : ℕ) {k : ℕ} → word_at y.arena at ≡ Some (4 * c) → (d == c) ≡ true
          → StepsTo (turning procedures below n) search rs (paid y k)
          (ends (returns r.fixed.true_value.word) (slice_set (slice_set (slice_set rs 7 (Some (4 * c))) 7 (Some 0)) 7 (Some r.fixed.true_value.word))
          (paid y (k + 12 + 8 + 12 + 6 + 8 + 14)))
      found_in_turn n at_word same =
          let zero_size : length (slice_set (slice_set rs 7 (Some (4 * c))) 7 (Some 0)) ≡ 8 = same_size (slice_set rs 7 (Some (4 * c))) 7 (Some 0) loaded_size in
          let tested : (4 * c == 4 * d) ≡ true = grind (arith, nat_tests) in
          repeat_ends tt none_left f.next f.end is_in_front
          (and_then (word_loaded _ at_word)
          (and_ends tt (choose_first_ends tt (register_here rs 7 (4 * c) (omega (arith, f.size))) (loaded_beside 4 (omega arith) ∙ f.sought) tested
          (and_then constant_falls
          (and_then
          (load_falls (register_here (slice_set rs 7 (Some (4 * c))) 7 0 (omega (arith, loaded_size))) (address_up 0 true_address (omega arith)) r.fixed.true_value.stands)
          (and_ends tt (return_ends (register_here (slice_set (slice_set rs 7 (Some (4 * c))) 7 (Some 0)) 7 r.fixed.true_value.word (omega (arith, zero_size))))))))))

      -- it is another one: the loop goes on with the next one
      passed_in_turn :
          (m : ℕ) {k : ℕ} {o : MidOutcome} → word_at y.arena at ≡ Some (4 * c) → (d == c) ≡ false
          → StepsTo (turning procedures below m) search (after_turn at c rs) (paid y (k + 12 + 8 + 12 + 2 + 6 + 10 + 2)) o
          → StepsTo (turning procedures below (suc m)) search rs (paid y k) o
      passed_in_turn m {k = k} at_word other more =
          let tested : (4 * c == 4 * d) ≡ false = grind (arith, nat_tests) in
          let sum : sum32 at 4 ≡ at + 4 = omega (arith, f.bounded) in
          repeat_turn procedures below m none_left f.next f.end is_in_front
          (and_then (word_loaded _ at_word)
          (and_then (choose_second_falls (register_here rs 7 (4 * c) (omega (arith, f.size))) (loaded_beside 4 (omega arith) ∙ f.sought) tested none_left)
          (and_then constant_falls
          (and_then
          (compute_known (put_beside 5 (omega arith) ∙ f.next) (register_here (slice_set rs 7 (Some (4 * c))) 6 4 (omega (arith, loaded_size))) sum) none_left))))
          more

    -- where the words of these classes stand one after another
    abbrev WordsFrom : ℕ → List ℕ → Type 0
    WordsFrom at cs = (i : ℕ) → i < length cs → word_at y.arena (at + 4 * i) ≡ Some (4 * slice_index_or cs i 0)

    module _ (c : ℕ) (cs : List ℕ) (rs : Registers) (k at : ℕ) (f : InFront at (suc (length cs)) rs) (words : WordsFrom at (c ∷ cs)) where
      first_word : word_at y.arena at ≡ Some (4 * c)
      first_word = let same : at + 4 * 0 ≡ at = omega arith in rw same at (words 0 (omega arith))

      later_words : WordsFrom (at + 4) cs
      later_words i h = let same : at + 4 * suc i ≡ at + 4 + 4 * i = omega arith in rw same at (words (suc i) (omega arith))

      -- the first class is another one, and a turn is left
      searched_on : (m : ℕ) → (d == c) ≡ false → Searched m cs (after_turn at c rs) (k + 12 + 8 + 12 + 2 + 6 + 10 + 2) → Searched (suc m) (c ∷ cs) rs k
      searched_on m e (found_there rs' k' there steps within) =
          found_there rs' k' (rw e there) (passed_in_turn at (length cs) c rs f m first_word e steps) (rw e (omega (arith, within)))
      searched_on m e (not_there rs' k' there steps size within) =
          not_there rs' k' (rw e there) (passed_in_turn at (length cs) c rs f m first_word e steps) size (rw e (omega (arith, within)))

      searched_first :
          (n : ℕ) → passed (λ c. d == c) (c ∷ cs) ≤ n
          → ((m : ℕ) → passed (λ c. d == c) cs ≤ m → Searched m cs (after_turn at c rs) (k + 12 + 8 + 12 + 2 + 6 + 10 + 2)) → Searched n (c ∷ cs) rs k
      searched_first n turns later = by (d == c) refl
        where
          with_turns : (m : ℕ) → (d == c) ≡ false → 1 + passed (λ c. d == c) cs ≤ m → Searched m (c ∷ cs) rs k
          with_turns zero e h = absurd (omega (arith, h))
          with_turns (suc m) e h = searched_on m e (later m (omega (arith, h)))

          by : (b : Bool) → (d == c) ≡ b → Searched n (c ∷ cs) rs k
          by true e = found_there _ _ (rw e refl) (found_in_turn at (length cs) c rs f n first_word e) (rw e (omega arith))
          by false e = with_turns n e (rw e at turns)

    search_from : (n : ℕ) (cs : List ℕ) (rs : Registers) (k at : ℕ) → passed (λ c. d == c) cs ≤ n → InFront at (length cs) rs → WordsFrom at cs → Searched n cs rs k
    search_from n [] rs k at turns f words =
        let behind : nat_lt at (at + 4 * 0) ≡ false = grind (arith, nat_tests) in
        not_there rs (k + 12) refl (repeat_falls none_left f.next f.end behind) f.size (omega arith)
    search_from n (c ∷ cs) rs k at turns f words =
        searched_first c cs rs k at f words n turns (λ m h.
        search_from m cs (after_turn at c rs) (k + 12 + 8 + 12 + 2 + 6 + 10 + 2) (at + 4) h (next_in_front at (length cs) c rs f) (later_words c cs rs k at f words))

-- the lines that ask whether the class in a register is below the one in register 1
abbrev pub asking : (of : ℕ) → List MidStep
asking of =
    steps.load 4 1 (pos 2) ∷ steps.load 3 of (pos 18) ∷ steps.compute_by 5 which.Add of 26
    ++ steps.compute 3 which.Add 3 5 ∷ search ∷ steps.constant 5 nil_word ∷ return_word 5 ∷ []

module _
    (names : List (List ℕ)) (program : ProgramRows) (places : Places) (z : meaning.State) (y : MidState) (r : Represents names program places z y)
    (procedures : List MidProcedure) (below : Task → MidState → MidOutcome)
  where
    -- The loop, and nil behind it, where a class is sought among others.
    sought_run :
        (n budget k at d : ℕ) (cs : List ℕ) (rs : Registers) → passed (λ c. d == c) cs ≤ n → InFront names program places z y r procedures below d at (length cs) rs
        → WordsFrom names program places z y r procedures below d at cs → k + 32 ≤ budget
        → Run names program places z y procedures below n budget (says (is_in d cs) (meaning.charged (passed (λ c. d == c) cs) z))
        (code_of (search ∷ steps.constant 5 nil_word ∷ return_word 5 ∷ [])) rs k
    sought_run n budget k at d cs rs turns f words cost = by (search_from names program places z y r procedures below d n cs rs k at turns f words)
      where
        by :
            Searched names program places z y r procedures below d n cs rs k
            → Run names program places z y procedures below n budget (says (is_in d cs) (meaning.charged (passed (λ c. d == c) cs) z))
            (code_of (search ∷ steps.constant 5 nil_word ∷ return_word 5 ∷ [])) rs k
        by (found_there rs' k' there steps within) =
            rw there (step_returns names program places z y procedures below r steps r.fixed.true_value.of_value (alike_charged z (passed (λ c. d == c) cs)) (omega (arith, within, cost)))
        by (not_there rs' k' there steps size within) =
            rw there
            (goes_on names program places z y procedures below steps
            (goes_on names program places z y procedures below constant_falls
            (returns_value names program places z y procedures below r (register_here rs' 5 nil_word (omega (arith, size))) refl
            (alike_charged z (passed (λ c. d == c) cs)) (omega (arith, within, cost)))))

    -- a class is below another
    module _
        (n budget k of w x c d : ℕ) (v u : Value) (rs : Registers) (low : of < 3) (size : length rs ≡ 8) (held : register of rs ≡ Some w)
        (word : word_of places v ≡ Some w) (found : fetch z v ≡ Some (class_object c)) (other_held : register 1 rs ≡ Some x)
        (other_word : word_of places u ≡ Some x) (other_found : fetch z u ≡ Some (class_object d))
        (turns : passed (λ e. d == e) (precedence program c) ≤ n) (cost : k + 74 ≤ budget)
      where
        one : ObjectFound names program places z y r v w (class_object c)
        one = object_found names program places z y r v w (class_object c) word found

        other : ObjectFound names program places z y r u x (class_object d)
        other = object_found names program places z y r u x (class_object d) other_word other_found

        abbrev list : ℕ
        list = one.spot.address + 28

        abbrev count : ℕ
        count = length (precedence program c)

        bounded : list + 4 * count < 2 ^ 32
        bounded = omega (arith, one.stands.size.words, spot_low r.arena one.spot_stands)

        other_bounded : other.spot.address + 4 < 2 ^ 32
        other_bounded = omega (arith, other.stands.size.words, spot_low r.arena other.spot_stands)

        abbrev asked : Registers
        asked = slice_set rs 4 (Some (4 * d))

        abbrev counted : Registers
        counted = slice_set asked 3 (Some (4 * count))

        abbrev offset_put : Registers
        offset_put = slice_set counted 6 (Some 26)

        abbrev begun : Registers
        begun = slice_set offset_put 5 (Some list)

        abbrev in_front : Registers
        in_front = slice_set begun 3 (Some (list + 4 * count))

        asked_size : length asked ≡ 8
        asked_size = same_size rs 4 (Some (4 * d)) size

        counted_size : length counted ≡ 8
        counted_size = same_size asked 3 (Some (4 * count)) asked_size

        offset_size : length offset_put ≡ 8
        offset_size = same_size counted 6 (Some 26) counted_size

        begun_size : length begun ≡ 8
        begun_size = same_size offset_put 5 (Some list) offset_size

        -- the class is in its register as before
        held_asked : register of asked ≡ Some w
        held_asked = register_beside rs 4 of (Some (4 * d)) (omega arith) ∙ held

        held_offset : register of offset_put ≡ Some w
        held_offset = register_beside counted 6 of (Some 26) (omega arith) ∙ register_beside asked 3 of (Some (4 * count)) (omega arith) ∙ held_asked

        -- and the number of its classes
        count_there : register 3 begun ≡ Some (4 * count)
        count_there =
            register_beside offset_put 5 3 (Some list) (omega arith) ∙ register_beside counted 6 3 (Some 26) (omega arith)
            ∙ register_here asked 3 (4 * count) (omega (arith, asked_size))

        ready : InFront names program places z y r procedures below d list count in_front
        ready = record {
          size = same_size begun 3 (Some (list + 4 * count)) begun_size;
          next = register_beside begun 3 5 (Some (list + 4 * count)) (omega arith) ∙ register_here offset_put 5 list (omega (arith, offset_size));
          end = register_here begun 3 (list + 4 * count) (omega (arith, begun_size));
          sought =
              register_beside begun 3 4 (Some (list + 4 * count)) (omega arith) ∙ register_beside offset_put 5 4 (Some list) (omega arith)
              ∙ register_beside counted 6 4 (Some 26) (omega arith) ∙ register_beside asked 3 4 (Some (4 * count)) (omega arith)
              ∙ register_here rs 4 (4 * d) (omega (arith, size));
          bounded = bounded;
        }

        pub asking_run :
            Run names program places z y procedures below n budget (says (is_below program c d) (meaning.charged (passed (λ e. d == e) (precedence program c)) z))
            (code_of (asking of)) rs k
        asking_run =
            let begin : sum32 w 26 ≡ list = omega (arith, one.word, bounded) in
            let end : sum32 (4 * count) list ≡ list + 4 * count = omega (arith, bounded) in
            goes_on names program places z y procedures below
            (load_falls other_held (address_above x 2 (other.spot.address + 4) (omega (arith, other.word)) other_bounded) other.stands.number)
            (goes_on names program places z y procedures below
            (load_falls held_asked (address_above w 18 (one.spot.address + 20) (omega (arith, one.word)) (omega (arith, bounded))) one.stands.above)
            (goes_on names program places z y procedures below constant_falls
            (goes_on names program places z y procedures below
            (compute_known held_offset (register_here counted 6 26 (omega (arith, counted_size))) begin)
            (goes_on names program places z y procedures below
            (compute_known count_there (register_here offset_put 5 list (omega (arith, offset_size))) end)
            (sought_run n budget (k + 8 + 8 + 6 + 10 + 10) list d (precedence program c) in_front turns ready one.stands.classes (omega (arith, cost)))))))
