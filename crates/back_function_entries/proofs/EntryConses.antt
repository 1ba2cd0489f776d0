-- One turn of the loop of the routine of lists: a word is loaded, and a cons with it is made in front of the list.
use Rattle.std.proofs.Common.{◌≡◌, ℕ, suc, ◌+◌, ◌^◌, ◌<◌, ◌≤◌, true, [], ◌∷◌, ◌++◌, length, Option, Some, None, refl, ap, ◌∙◌, subst, arith}
use Rattle.std.specs.Prelude.{not}
use Rattle.std.proofs.lemmas.Bool.{ne_eqb}
use Rattle.base.specs.Arithmetic.{difference32}
use Rattle.lang_meaning.specs.State.{has_room}
use Rattle.lang_meaning.specs.Values.{Value, object}
use Rattle.flat_language.specs.FlatState.{FlatState}
use Rattle.mid_code.specs.declared.operation.Arithmetic.TheVariants as which
use Rattle.mid_code.specs.declared.operation.Comparison.TheVariants.{Different}
use Rattle.mid_code.specs.Arena.{Arena, left, word_at}
use Rattle.mid_code.specs.Law.{Grown}
use Rattle.mid_code.specs.Meaning.{exec, exec_step, levels}
use Rattle.mid_code.specs.MidCode.{MidStep, code_of}
use Rattle.mid_code.specs.State.{Registers, falls, no_room, ends, MidState, MidOutcome}
use Rattle.mid_code.specs.State.{charged as mid_charged}
use Rattle.mid_code.specs.Words.{compares}
use Rattle.mid_arena.specs.Growing.{Grows}
use Rattle.mid_arena.specs.Places.{word_of}
use Rattle.mid_arena.specs.Tags.{cons_tag}
use Rattle.mid_arena.proofs.Making.{begun, begun_grows}
use Rattle.mid_arena.proofs.Memory.{heap_below}
use Rattle.mid_arena.proofs.Running.{RunsTo, StepsTo, and_then, and_ends, none_left, costing, constant_falls, compute_known, load_falls, store_in_heap, request_falls, request_wanting, address_here, address_up, parts_then, repeat_turn, repeat_ends}
use Rattle.mid_arena.proofs.WordFacts.{sum_fits}
use Rattle.back_lowering.specs.RoutineCodes.{turns_while}
use Rattle.back_lowering.specs.Steps.{Steps, constant, compute, load, store, request}
use Rattle.back_relation.specs.Setting.{Setting}
use Rattle.back_relation.specs.Placed.{IsPlaced}
use Rattle.back_relation.specs.Worlds.{World}
use Rattle.back_relation.specs.Things.{Things}
use Rattle.back_relation.specs.Around.{RoomFor}
use Rattle.back_relation.specs.Ends.{WorldKept, Around}
use Rattle.back_relation.specs.Forms.{code_at}
use Rattle.back_relation.proofs.Parts.{go_on_ends}
use Rattle.back_relation.proofs.Starts.{room_after}
use Rattle.back_relation.proofs.Straight.{things_cost, world_cost, around_cost}
use Rattle.back_relation.proofs.Then.{world_then, back_then}
use Rattle.back_function_entries.proofs.Conses.{with_cons, cons_world, cons_is, cons_kept, cons_around}
use Rattle.back_values.proofs.BoxesMade.{steps_grow}

-- a word is loaded; a cons is made
abbrev pub load_steps : Steps
load_steps =
    constant 4 1 ∷ compute 1 which.Subtract 1 4 ∷ constant 4 4 ∷ compute 0 which.Subtract 0 4 ∷ load 5 0 0 ∷ constant 4 2 ∷ []

abbrev pub cons_steps : Steps
cons_steps = request 4 4 ∷ store 5 4 0 ∷ store 2 4 4 ∷ constant 5 cons_tag ∷ compute 2 which.Add 4 5 ∷ []

abbrev pub turn_steps : Steps
turn_steps = load_steps ++ cons_steps

-- the loop, where the address behind the words is in 0, their number in 1, the list in 2, and 3 has 0
abbrev pub loop : MidStep
loop = turns_while [] 1 3 turn_steps

abbrev pub at_turn : (address count list : ℕ) → (fourth fifth : Option ℕ) → Registers
at_turn a n list r4 r5 = Some a ∷ Some n ∷ Some list ∷ Some 0 ∷ r4 ∷ r5 ∷ []

difference_fits : (a b : ℕ) → a + b < 2 ^ 32 → difference32 (a + b) b ≡ a
difference_fits a b h = omega arith

-- the test holds
abbrev some_left : (n : ℕ) → compares Different (n + 1) 0 ≡ true
some_left n = ap not (ne_eqb (n + 1) 0 (λ e. omega (arith, e)))

-- a loop only prints
pub loop_grows : (setting : Setting) (k t : ℕ) (s : MidStep) (regs : Registers) (y : MidState) → Grown y (exec_step (code_at setting k t) s regs y).state
unfolding exec
loop_grows setting k t s regs y = subst (λ (q : MidOutcome). Grown y q.state) (go_on_ends (exec_step (code_at setting k t) s regs y)) (steps_grow setting k t (s ∷ []) regs y)

module _ (setting : Setting) (placed : IsPlaced setting) (k t room : ℕ) {w : World} {z : FlatState} {y : MidState} (things : Things setting w z y) (roomy : RoomFor setting.limit room z.state y)
    (v tail : Value) (word tail_word : ℕ) (of_first : word_of w.places v ≡ Some word) (of_tail : word_of w.places tail ≡ Some tail_word) where
  -- the two words, and the state from which the cons is made for so much that all is paid
  abbrev two_words : Registers
  two_words = Some word ∷ Some tail_word ∷ None ∷ None ∷ []

  abbrev before : MidState
  before = mid_charged 54 y

  pub things_before : Things setting w z before
  things_before = things_cost setting 54 things

  pub roomy_before : RoomFor setting.limit room z.state before
  roomy_before = room_after setting.limit room room z z y before (omega arith) (omega arith) roomy

  abbrev heap : ℕ
  heap = y.arena.heap_to

  abbrev pub list_made : Value
  list_made = object (length z.state.store)

  abbrev pub world_made : World
  world_made = cons_world setting placed 0 0 room 0 1 things_before roomy_before v tail word tail_word of_first of_tail two_words (omega arith) (omega arith) refl refl

  abbrev pub arena_made : Arena
  arena_made = begun 2 (word ∷ tail_word ∷ []) y.arena

  abbrev pub state_made : MidState
  state_made = record y { arena = arena_made; cost = y.cost + 54 + 58 }

  -- ---- the word is loaded

  module _ (x n : ℕ) (there : word_at y.arena x ≡ Some word) (low : x + 4 < 2 ^ 32) (few : n + 1 < 2 ^ 32) (r4 r5 : Option ℕ) where
    abbrev loaded : Registers
    loaded = at_turn x n tail_word (Some 2) (Some word)

    load_runs : RunsTo (code_at setting k (suc t)) (code_of load_steps) (at_turn (x + 4) (n + 1) tail_word r4 r5) (mid_charged 12 y) (ends falls loaded (record y { cost = y.cost + 58 }))
    load_runs =
        costing {n = y.cost + 58}
        (and_then constant_falls
        (and_then (compute_known refl refl (difference_fits n 1 few))
        (and_then constant_falls
        (and_then (compute_known refl refl (difference_fits x 4 low))
        (and_then (load_falls refl (address_here x (omega (arith, low))) there)
        (and_then constant_falls none_left))))))
        (omega arith)

    wanting_runs : left y.arena < 2 → RunsTo (code_at setting k (suc t)) (code_of cons_steps) loaded (record y { cost = y.cost + 58 }) (ends (no_room 2 (left y.arena)) loaded (record y { cost = y.cost + 78 }))
    wanting_runs wants = costing {n = y.cost + 78} (and_ends tt (request_wanting refl wants)) (omega arith)

    whole_wanting :
        left y.arena < 2 → RunsTo (code_at setting k (suc t)) (code_of turn_steps) (at_turn (x + 4) (n + 1) tail_word r4 r5) (mid_charged 12 y)
        (ends (no_room 2 (left y.arena)) loaded (record y { cost = y.cost + 78 }))
    whole_wanting wants = parts_then load_steps cons_steps load_runs (wanting_runs wants)

    -- where there are no two words
    pub turn_wanting :
        left y.arena < 2
        → exec_step (code_at setting k (suc t)) loop (at_turn (x + 4) (n + 1) tail_word r4 r5) y
        ≡ ends (no_room 2 (left y.arena)) loaded (record y { cost = y.cost + 78 })
    turn_wanting wants = (repeat_ends {c = code_at setting k (suc t)} {z = y} tt none_left refl refl (some_left n) (whole_wanting wants)).same

  module _ (some : 2 ≤ left y.arena) where
    pub made_grows : Grows y.arena arena_made
    made_grows = begun_grows 2 (word ∷ tail_word ∷ []) things.represents.arena some (omega arith)

    pub made_is : word_of world_made.places list_made ≡ Some (heap + 1)
    made_is = cons_is setting placed 0 0 room 0 1 things_before roomy_before v tail word tail_word of_first of_tail two_words (omega arith) (omega arith) refl refl some

    module _ (fits : has_room setting.limit (z.state.heap + z.state.stack + 2 + 0) ≡ true) where
      pub made_world : WorldKept setting w world_made z (with_cons v tail z) y state_made
      made_world =
          world_then setting (world_cost setting 54 things) (around_cost setting {credit = 54} z y 54 (omega arith))
          (cons_kept setting placed 0 0 room 0 1 things_before roomy_before v tail word tail_word of_first of_tail two_words (omega arith) (omega arith) refl refl some fits)

      pub made_around : Around setting 54 z (with_cons v tail z) y state_made
      made_around =
          back_then setting (world_cost setting 54 things) (around_cost setting {credit = 54} z y 54 (omega arith)) (omega arith)
          (cons_around setting placed 0 0 room 0 1 things_before roomy_before v tail word tail_word of_first of_tail two_words (omega arith) (omega arith) refl refl some fits)

    -- ---- the cons is made

    module _ (x n : ℕ) (there : word_at y.arena x ≡ Some word) (low : x + 4 < 2 ^ 32) (few : n + 1 < 2 ^ 32) (r4 r5 : Option ℕ) where
      abbrev consed : Registers
      consed = at_turn x n (heap + 1) (Some heap) (Some cons_tag)

      cons_runs : RunsTo (code_at setting k (suc t)) (code_of cons_steps) (loaded x n there low few r4 r5) (record y { cost = y.cost + 58 }) (ends falls consed (record y { arena = arena_made; cost = y.cost + 110 }))
      cons_runs =
          let below = heap_below things.represents.arena in
          let aligned = things.represents.arena.aligned in
          let from = things.represents.arena.heap in
          costing {n = y.cost + 110}
          (and_then (request_falls refl some)
          (and_then (store_in_heap refl refl (address_here heap (omega (arith, below))) aligned from (omega arith))
          (and_then (store_in_heap refl refl (address_up heap 4 (omega (arith, below))) (omega (arith, aligned)) (omega (arith, from)) (omega arith))
          (and_then constant_falls
          (and_then (compute_known refl refl (sum_fits heap 1 (omega (arith, below)))) none_left)))))
          (omega arith)

      steps_run : RunsTo (code_at setting k (suc t)) (code_of turn_steps) (at_turn (x + 4) (n + 1) tail_word r4 r5) (mid_charged 12 y) (ends falls consed (record y { arena = arena_made; cost = y.cost + 110 }))
      steps_run = parts_then load_steps cons_steps (load_runs x n there low few r4 r5) cons_runs

      -- the turn, and the loop goes on
      pub turn_goes_on : exec_step (code_at setting k (suc t)) loop (at_turn (x + 4) (n + 1) tail_word r4 r5) y ≡ exec_step (code_at setting k t) loop consed state_made
      turn_goes_on =
          let more_steps : StepsTo (code_at setting k t) loop consed (mid_charged 2 (record y { arena = arena_made; cost = y.cost + 110 }))
          (exec_step (code_at setting k t) loop consed (mid_charged 2 (record y { arena = arena_made; cost = y.cost + 110 }))) = record { same = refl } in
          (repeat_turn setting.procedures (levels setting.procedures setting.turns_each k) t none_left refl refl (some_left n) steps_run more_steps).same
          ∙ ap (λ c. exec_step (code_at setting k t) loop consed (record y { arena = arena_made; cost = c })) (omega arith)
