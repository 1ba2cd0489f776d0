-- The code that keeps the call of a method: words are requested, the chain and the number are stored, and the words of the arguments are copied.
use Rattle.std.proofs.Common.{◌≡◌, ◌⊎◌, inl, inr, ℕ, zero, suc, ◌+◌, ◌*◌, ◌^◌, ◌%◌, ◌<◌, ◌≤◌, List, [], ◌∷◌, ◌++◌, length, Option, Some, None, refl, sym, ap, ◌∙◌, subst, arith}
use Rattle.std.specs.Prelude.{not, slice_index_or}
use Rattle.std.proofs.lemmas.Bool.{eq-eqb, ne_eqb}
use Rattle.base.specs.Arithmetic.{sum32}
use Rattle.lang_meaning.specs.Values.{Value, nil}
use Rattle.mid_code.specs.declared.operation.Arithmetic.TheVariants as which
use Rattle.mid_code.specs.declared.program.MidProcedure.{MidProcedure}
use Rattle.mid_code.specs.Arena.{Arena, begin_of, stack_from, left, word_at, with_word}
use Rattle.mid_code.specs.Meaning.{Task}
use Rattle.mid_code.specs.MidCode.{MidStep, return_word, code_of}
use Rattle.mid_code.specs.State.{Registers, falls, returns, no_room, ends, MidState, MidOutcome}
use Rattle.mid_code.specs.State.{charged as mid_charged}
use Rattle.mid_arena.specs.Places.{Places, WordsOf}
use Rattle.mid_arena.specs.Standing.{ArenaStands, ValueAt, ValuesAt}
use Rattle.mid_arena.proofs.Making.{begun, begun_grows, begun_heap, begun_blocks}
use Rattle.mid_arena.proofs.Memory.{heap_below, with_words, word_elsewhere}
use Rattle.mid_arena.proofs.Running.{RunsTo, StepsTo, turning, and_then, and_ends, none_left, costing, parts_then, constant_falls, compute_known, move_falls, load_falls, store_in_heap, request_falls, request_wanting, return_ends, repeat_falls, repeat_turn, address_here, address_up}
use Rattle.mid_arena.proofs.WordFacts.{sum_fits, four_times_count}
use Rattle.back_lowering.specs.RoutineCodes.{add_to, turns_while}
use Rattle.back_lowering.specs.Steps.{Steps, move, constant, compute, load, store, request}
use Rattle.back_function_entries.proofs.Lying.{Lies, behind_lie, lying_stays}

-- words one after another
abbrev pub WordsAt : Arena → ℕ → List ℕ → Type 0
WordsAt a x [] = Unit {0}
WordsAt a x (w ∷ ws) = (word_at a x ≡ Some w) × WordsAt a (x + 4) ws

-- the words of values that stand one after another
pub record LentWords (places : Places) (a : Arena) (x : ℕ) (vs : List Value) : Type 0 where
  pub words : List ℕ
  pub are : WordsOf places vs words
  pub at : WordsAt a x words
  pub count : length words ≡ length vs

pub lent_words : (places : Places) (a : Arena) (x : ℕ) (vs : List Value) → ValuesAt places a x vs → LentWords places a x vs
lent_words places a x [] values = record { words = []; are = tt; at = tt; count = refl }
lent_words places a x (v ∷ vs) values =
    let here : x + 4 * 0 ≡ x = omega arith in
    let first : ValueAt places a x v = subst (λ p. ValueAt places a p v) here (values 0 (omega arith)) in
    let rest = lent_words places a (x + 4) vs (λ i few.
    let there : x + 4 * suc i ≡ x + 4 + 4 * i = omega arith in
    subst (λ p. ValueAt places a p (slice_index_or vs i nil)) there (values (suc i) (omega (arith, few)))) in
    record { words = first.word ∷ rest.words; are = (first.of_value, rest.are); at = (first.stands, rest.at); count = ap (λ n. suc n) rest.count }

-- words before or behind another one stay where it is stored
abbrev Elsewhere : (to x count : ℕ) → Type 0
Elsewhere to x n = (to < x) ⊎ (x + 4 * n ≤ to)

not_here : (to x n : ℕ) → Elsewhere to x (suc n) → to ≡ x → ⊥
not_here to x n (inl low) same = omega (arith, same, low)
not_here to x n (inr high) same = omega (arith, same, high)

next_elsewhere : (to x n : ℕ) → Elsewhere to x (suc n) → Elsewhere to (x + 4) n
next_elsewhere to x n (inl low) = inl (omega (arith, low))
next_elsewhere to x n (inr high) = inr (omega (arith, high))

words_stay : (a : Arena) (to w : ℕ) (x : ℕ) (ws : List ℕ) → to % 4 ≡ 0 → Elsewhere to x (length ws) → WordsAt a x ws → WordsAt (with_word to w a) x ws
words_stay a to w x [] e other h = tt
words_stay a to w x (v ∷ ws) e other h =
    (word_elsewhere a to w x e (ne_eqb to x (not_here to x (length ws) other)) ∙ h.0, words_stay a to w (x + 4) ws e (next_elsewhere to x (length ws) other) h.1)

-- ---- the loop

abbrev copy_steps : Steps
copy_steps = load 7 2 0 ∷ store 7 6 0 ∷ (add_to 2 7 4 ++ add_to 6 7 4)

abbrev pub copy_loop : MidStep
copy_loop = turns_while [] 2 5 copy_steps

abbrev pub copying : (chain n from kept end to : ℕ) → Option ℕ → Registers
copying chain n from kept end to last = Some chain ∷ Some n ∷ Some from ∷ Some 2 ∷ Some kept ∷ Some end ∷ Some to ∷ last ∷ []

-- as many words as are copied are behind those that they come to, or in front of them
abbrev Beside : (from to count : ℕ) → Type 0
Beside from to n = (to + 4 * n ≤ from) ⊎ (from + 4 * n ≤ to)

stored_beside : (from to n : ℕ) → Beside from to (suc n) → Elsewhere to (from + 4) n
stored_beside from to n (inl behind) = inl (omega (arith, behind))
stored_beside from to n (inr front) = inr (omega (arith, front))

next_beside : (from to n : ℕ) → Beside from to (suc n) → Beside (from + 4) (to + 4) n
next_beside from to n (inl behind) = inl (omega (arith, behind))
next_beside from to n (inr front) = inr (omega (arith, front))

module _ (procedures : List MidProcedure) (below : Task → MidState → MidOutcome) (chain n kept end : ℕ) (low : end < 2 ^ 32) where
  pub record Copied (t : ℕ) (ws : List ℕ) (from to : ℕ) (last : Option ℕ) (y : MidState) : Type 0 where
    pub from_then : ℕ
    pub to_then : ℕ
    pub last_then : Option ℕ
    pub total : ℕ
    pub runs :
        StepsTo (turning procedures below t) copy_loop (copying chain n from kept end to last) y
        (ends falls (copying chain n from_then kept end to_then last_then) (record y { arena = with_words to ws y.arena; cost = total }))
    pub is : total ≡ y.cost + 62 * length ws + 12

  pub copies :
      (ws : List ℕ) (t from to : ℕ) (last : Option ℕ) (y : MidState) → WordsAt y.arena from ws → from + 4 * length ws ≡ end → to % 4 ≡ 0 → y.arena.heap_from ≤ to
      → to + 4 * length ws ≤ y.arena.heap_to → y.arena.heap_to < 2 ^ 32 → Beside from to (length ws) → length ws ≤ t → Copied t ws from to last y
  copies [] t from to last y at last_word aligned above inside under beside enough = record {
    from_then = from;
    to_then = to;
    last_then = last;
    total = y.cost + 12;
    runs = repeat_falls none_left refl refl (ap not (eq-eqb from end (omega (arith, last_word))));
    is = omega arith;
  }
  copies (w ∷ ws) zero from to last y at last_word aligned above inside under beside enough = absurd (omega (arith, enough))
  copies (w ∷ ws) (suc t) from to last y at last_word aligned above inside under beside enough =
      let more : end ≡ from → ⊥ = λ e. omega (arith, e, last_word) in
      let rest =
      copies ws t (from + 4) (to + 4) (Some 4) (mid_charged 2 (record y { arena = with_word to w y.arena; cost = y.cost + 60 }))
      (words_stay y.arena to w (from + 4) ws aligned (stored_beside from to (length ws) beside) at.1) (omega (arith, last_word)) (omega (arith, aligned)) (omega (arith, above)) (omega (arith, inside)) under
      (next_beside from to (length ws) beside) (omega (arith, enough)) in
      record {
        from_then = rest.from_then;
        to_then = rest.to_then;
        last_then = rest.last_then;
        total = rest.total;
        runs =
            repeat_turn procedures below t
            {r = ends falls (copying chain n rest.from_then kept end rest.to_then rest.last_then) (record y { arena = with_words (to + 4) ws (with_word to w y.arena); cost = rest.total })}
            none_left refl refl (ap not (ne_eqb from end (λ e. more (sym e)))) turned rest.runs;
        is = let sum = rest.is in omega (arith, sum);
      }
    where
      turned :
          RunsTo (turning procedures below (suc t)) (code_of copy_steps) (copying chain n from kept end to last) (mid_charged 12 y)
          (ends falls (copying chain n (from + 4) kept end (to + 4) (Some 4)) (record y { arena = with_word to w y.arena; cost = y.cost + 60 }))
      turned =
          costing {n = y.cost + 60}
          (and_then (load_falls refl (address_here from (omega (arith, low, last_word))) at.0)
          (and_then (store_in_heap refl refl (address_here to (omega (arith, inside, under))) aligned above (omega (arith, inside)))
          (and_then constant_falls
          (and_then (compute_known refl refl (sum_fits from 4 (omega (arith, low, last_word))))
          (and_then constant_falls
          (and_then (compute_known refl refl (sum_fits to 4 (omega (arith, inside, under)))) none_left))))))
          (omega arith)

-- ---- the code

abbrev asking_steps : Steps
asking_steps = constant 3 2 ∷ compute 4 which.Add 1 3 ∷ []

abbrev storing_steps : Steps
storing_steps = request 4 4 ∷ store 0 4 0 ∷ store 1 4 4 ∷ add_to 4 5 8

abbrev setting_steps : Steps
setting_steps = compute 5 which.ShiftLeft 1 3 ∷ compute 5 which.Add 5 2 ∷ move 6 4 ∷ []

abbrev ending_steps : Steps
ending_steps = copy_loop ∷ return_word 4 ∷ []

abbrev pub keep_steps : Steps
keep_steps = asking_steps ++ (storing_steps ++ (setting_steps ++ ending_steps))

module _ (procedures : List MidProcedure) (below : Task → MidState → MidOutcome) (t chain n address : ℕ) (y : MidState) (arena : ArenaStands y.arena) (small : n ≤ 2 ^ 24) where
  abbrev at_first : (fourth fifth : Option ℕ) → Registers
  at_first third fourth = Some chain ∷ Some n ∷ Some address ∷ third ∷ fourth ∷ None ∷ None ∷ None ∷ []

  abbrev pub asked : Registers
  asked = at_first (Some 2) (Some (2 + n))

  asking_run : RunsTo (turning procedures below t) (code_of asking_steps) (at_first None None) y (ends falls asked (record y { cost = y.cost + 16 }))
  asking_run =
      let sum : sum32 n 2 ≡ 2 + n = sum_fits n 2 (omega (arith, small)) ∙ omega arith in
      costing {n = y.cost + 16} (and_then constant_falls (and_then (compute_known refl refl sum) none_left)) (omega arith)

  -- there are not so many words
  wanting_run :
      left y.arena < 2 + n
      → RunsTo (turning procedures below t) (code_of (storing_steps ++ (setting_steps ++ ending_steps))) asked (record y { cost = y.cost + 16 })
      (ends (no_room (2 + n) (left y.arena)) asked (record y { cost = y.cost + 36 }))
  wanting_run wants = costing {n = y.cost + 36} (and_ends tt (request_wanting refl wants)) (omega arith)

  pub keeping_wanting :
      left y.arena < 2 + n
      → RunsTo (turning procedures below t) (code_of keep_steps) (at_first None None) y (ends (no_room (2 + n) (left y.arena)) asked (record y { cost = y.cost + 36 }))
  keeping_wanting wants = parts_then asking_steps (storing_steps ++ (setting_steps ++ ending_steps)) asking_run (wanting_run wants)

  module _ (room : 2 + n ≤ left y.arena) (ws : List ℕ) (count : length ws ≡ n) (at : WordsAt y.arena address ws) (lies : Lies y.arena address n) (low : address + 4 * n < 2 ^ 32)
      (enough : n ≤ t) where
    abbrev heap : ℕ
    heap = y.arena.heap_to

    abbrev with_two : Arena
    with_two = begun (2 + n) (chain ∷ n ∷ []) y.arena

    abbrev kept : ℕ
    kept = heap + 4 + 4

    stored_run :
        RunsTo (turning procedures below t) (code_of storing_steps) asked (record y { cost = y.cost + 16 })
        (ends falls (Some chain ∷ Some n ∷ Some address ∷ Some 2 ∷ Some kept ∷ Some 8 ∷ None ∷ None ∷ []) (record y { arena = with_two; cost = y.cost + 68 }))
    stored_run =
        let under = heap_below arena in
        let aligned = arena.aligned in
        let heap_from = arena.heap in
        let sum : sum32 heap 8 ≡ kept = sum_fits heap 8 (omega (arith, under)) ∙ omega arith in
        costing {n = y.cost + 68}
        (and_then (request_falls refl room)
        (and_then (store_in_heap refl refl (address_here heap (omega (arith, under))) aligned heap_from (omega arith))
        (and_then (store_in_heap refl refl (address_up heap 4 (omega (arith, under))) (omega (arith, aligned)) (omega (arith, heap_from)) (omega arith))
        (and_then constant_falls
        (and_then (compute_known refl refl sum) none_left)))))
        (omega arith)

    end_word : sum32 (4 * n) address ≡ address + 4 * n
    end_word = sum_fits (4 * n) address (omega (arith, low)) ∙ omega arith

    set_run :
        RunsTo (turning procedures below t) (code_of setting_steps) (Some chain ∷ Some n ∷ Some address ∷ Some 2 ∷ Some kept ∷ Some 8 ∷ None ∷ None ∷ []) (record y { arena = with_two; cost = y.cost + 68 })
        (ends falls (copying chain n address kept (address + 4 * n) kept None) (record y { arena = with_two; cost = y.cost + 94 }))
    set_run =
        costing {n = y.cost + 94}
        (and_then (compute_known refl refl (four_times_count n (omega (arith, small))))
        (and_then (compute_known refl refl end_word)
        (and_then (move_falls refl) none_left)))
        (omega arith)

    pub copied : Copied procedures below chain n kept (address + 4 * n) low t ws address kept None (record y { arena = with_two; cost = y.cost + 94 })
    copied =
        let grows = begun_grows (2 + n) (chain ∷ n ∷ []) arena room (omega arith) in
        let to = begun_heap (2 + n) (chain ∷ n ∷ []) y.arena in
        let stands = grows.heap.stands in
        copies procedures below chain n kept (address + 4 * n) low ws t address kept None (record y { arena = with_two; cost = y.cost + 94 })
        (words_then address ws (subst (λ m. Lies y.arena address m) (sym count) lies) at) (omega (arith, count)) (let aligned = arena.aligned in omega (arith, aligned)) (let heap_from = arena.heap in omega (arith, heap_from)) (omega (arith, to, count))
        (let under = heap_below stands in omega (arith, under)) (beside lies) (omega (arith, count, enough))
      where
        same : stack_from with_two ≡ stack_from y.arena
        same =
            let grows = begun_grows (2 + n) (chain ∷ n ∷ []) arena room (omega arith) in
            ap (λ m. begin_of m with_two.blocks) grows.heap.size ∙ ap (begin_of (length y.arena.memory)) (begun_blocks (2 + n) (chain ∷ n ∷ []) y.arena)

        words_then : (x : ℕ) (vs : List ℕ) → Lies y.arena x (length vs) → WordsAt y.arena x vs → WordsAt with_two x vs
        words_then x [] lie h = tt
        words_then x (v ∷ vs) lie h =
            let grows = begun_grows (2 + n) (chain ∷ n ∷ []) arena room (omega arith) in
            let here : x + 4 * 0 ≡ x = omega arith in (
              subst (λ p. word_at with_two p ≡ word_at y.arena p) here (lying_stays grows same x (suc (length vs)) 0 (omega arith) lie) ∙ h.0,
              words_then (x + 4) vs (behind_lie y.arena x (suc (length vs)) (length vs) (omega arith) lie) h.1,
            )

        beside : Lies y.arena address n → Beside address kept (length ws)
        beside (inl low_stack) =
            let grows = begun_grows (2 + n) (chain ∷ n ∷ []) arena room (omega arith) in
            let to = begun_heap (2 + n) (chain ∷ n ∷ []) y.arena in
            let room_then = grows.heap.stands.room in
            inl (omega (arith, low_stack, to, room_then, same, count))
        beside (inr end_heap) = inr (omega (arith, end_heap, count))

    -- **all words are kept**, and the address behind the first two is returned
    abbrev pub behind_code : Registers
    behind_code = copying chain n copied.from_then kept (address + 4 * n) copied.to_then copied.last_then

    ended_run :
        RunsTo (turning procedures below t) (code_of ending_steps) (copying chain n address kept (address + 4 * n) kept None) (record y { arena = with_two; cost = y.cost + 94 })
        (ends (returns kept) behind_code (record y { arena = begun (2 + n) (chain ∷ n ∷ ws) y.arena; cost = y.cost + (120 + 62 * n) }))
    ended_run =
        costing {n = y.cost + (120 + 62 * n)} (and_then copied.runs (and_ends tt (return_ends refl))) (let sum = copied.is in omega (arith, sum, count))

    pub keeping_runs :
        RunsTo (turning procedures below t) (code_of keep_steps) (at_first None None) y
        (ends (returns kept) behind_code (record y { arena = begun (2 + n) (chain ∷ n ∷ ws) y.arena; cost = y.cost + (120 + 62 * n) }))
    keeping_runs =
        parts_then asking_steps (storing_steps ++ (setting_steps ++ ending_steps)) asking_run
        (parts_then storing_steps (setting_steps ++ ending_steps) stored_run (parts_then setting_steps ending_steps set_run ended_run))
