-- One cons more, in front of a list: its words are requested and stored, and what words say goes on being said.
use Rattle.std.proofs.Common.{◌≡◌, ℕ, ◌+◌, ◌<◌, ◌≤◌, Bool, true, false, [], ◌∷◌, ◌++◌, length, Some, refl, sym, ◌∙◌, subst, arith}
use Rattle.std.specs.Prelude.{slice_set, slice_get, if◌then◌else◌}
use Rattle.std.proofs.Math.ListN.{length-set}
use Rattle.lang_meaning.specs.Objects.{cons}
use Rattle.lang_meaning.specs.Prefixes.{IsPrefix}
use Rattle.lang_meaning.specs.State.{Limit, full, has_room, room_left}
use Rattle.lang_meaning.specs.State as meaning
use Rattle.lang_meaning.specs.Values.{Value, object}
use Rattle.flat_language.specs.FlatNodes.{tables}
use Rattle.flat_language.specs.FlatState.{FlatState, FlatEvaluated, on_state, make}
use Rattle.mid_code.specs.declared.operation.Arithmetic.TheVariants as which
use Rattle.mid_code.specs.Arena.{Arena, left}
use Rattle.mid_code.specs.Meaning.{Context, exec}
use Rattle.mid_code.specs.MidCode.{code_of}
use Rattle.mid_code.specs.State.{Registers, register, falls, returns, no_room, ends, MidState, MidOutcome}
use Rattle.mid_arena.specs.Answers.{Returned}
use Rattle.mid_arena.specs.Layouts.{ConsAt}
use Rattle.mid_arena.specs.Places.{Spot, word_of, with_object}
use Rattle.mid_arena.specs.Tags.{cons_tag}
use Rattle.mid_arena.proofs.Doing.{alike_self}
use Rattle.mid_arena.proofs.Keeping.{same_word}
use Rattle.mid_arena.proofs.Lists.{set_elsewhere}
use Rattle.mid_arena.proofs.Making.{Room, is_left, is_wanting, room_for, begun, begun_grows, begun_word, pointer_made, returned_new}
use Rattle.mid_arena.proofs.Memory.{heap_below}
use Rattle.mid_arena.proofs.Registers.{register_here, register_beside}
use Rattle.mid_arena.proofs.Representing.{represents_same}
use Rattle.mid_arena.proofs.Running.{RunsTo, and_then, and_ends, none_left, costing, parts_then, constant_falls, compute_known, store_in_heap, request_falls, request_wanting, address_here, address_up}
use Rattle.mid_arena.proofs.WordFacts.{sum_fits}
use Rattle.back_lowering.specs.Steps.{Steps, constant, request, store, compute}
use Rattle.back_relation.specs.Setting.{Setting}
use Rattle.back_relation.specs.Placed.{IsPlaced}
use Rattle.back_relation.specs.Worlds.{World}
use Rattle.back_relation.specs.Things.{Things}
use Rattle.back_relation.specs.Around.{RoomFor}
use Rattle.back_relation.specs.Ends.{WorldKept, Around, FullThere, Stopped}
use Rattle.back_relation.specs.Forms.{code_at}
use Rattle.back_relation.specs.Starts.{FlatGrown}
use Rattle.back_relation.proofs.Fresh.{fresh_was, fresh_from}
use Rattle.back_relation.proofs.Growth.{same_prefix, same_flat, both_flat}
use Rattle.back_primitives.proofs.Answered.{left_behind, charged_by, room_ended}
use Rattle.back_primitives.proofs.Behind.{object_stands, request_granted, request_refused}
use Rattle.back_relation.proofs.Standing.{StandsBehind, world_behind, world_kept_behind, control_behind}
use Rattle.back_values.proofs.BoxesMade.{steps_grow, full_printed}

-- the steps of a cons of what is in d and in t, which comes to t
abbrev pub cons_steps : (d t : ℕ) → Steps
cons_steps d t =
    constant (t + 1) 2 ∷ request (t + 1) (t + 1) ∷ store d (t + 1) 0 ∷ store t (t + 1) 4 ∷ constant (t + 2) cons_tag
    ∷ compute t which.Add (t + 1) (t + 2) ∷ []

-- the state of the meaning with the cons
abbrev pub with_cons : (v tail : Value) → FlatState → FlatState
with_cons v tail z = record z { state = meaning.stored (cons v tail) (meaning.charged (2 + 0) (meaning.with_words 2 0 z.state)) }

with_cons_grows : (v tail : Value) (z : FlatState) → FlatGrown z (with_cons v tail z)
with_cons_grows v tail z = record { printed = same_prefix z.state.printed; units = omega arith; exits = omega arith }

pub cons_grows :
    (limit : Limit) (v tail : Value) (z : FlatState) (next : Value → FlatState → FlatEvaluated) → ((v : Value) (z : FlatState) → FlatGrown z (next v z).state)
    → FlatGrown z (make limit 2 0 (cons v tail) z next).state
cons_grows limit v tail z next grown =
    by (has_room limit (z.state.heap + z.state.stack + 2 + 0)) (both_flat (with_cons_grows v tail z) (grown (object (length z.state.store)) (with_cons v tail z)))
  where
    by :
        (b : Bool) → FlatGrown z (next (object (length z.state.store)) (with_cons v tail z)).state
        → FlatGrown z (if b then next (object (length z.state.store)) (with_cons v tail z)
        else record { outcome = full (2 + 0) (room_left limit (z.state.heap + z.state.stack)); state = z }).state
    by true inner = inner
    by false inner = same_flat z

module _ (setting : Setting) (placed : IsPlaced setting) (k n room d t : ℕ) {w : World} {z : FlatState} {y : MidState} (things : Things setting w z y) (roomy : RoomFor setting.limit room z.state y)
    (v tail : Value) (word tail_word : ℕ) (of_first : word_of w.places v ≡ Some word) (of_tail : word_of w.places tail ≡ Some tail_word) (regs : Registers) (low : d < t)
    (there : t + 2 < length regs) (first : register d regs ≡ Some word) (second : register t regs ≡ Some tail_word) where
  abbrev c : Context
  c = code_at setting k n

  abbrev heap : ℕ
  heap = y.arena.heap_to

  abbrev spot : Spot
  spot = record { address = heap; words = 2; tag = cons_tag }

  abbrev pub result : Value
  result = object (length z.state.store)

  abbrev pub cons_world : World
  cons_world = world_behind w y.arena (with_object spot w.places)

  abbrev asked : Registers
  asked = slice_set regs (t + 1) (Some 2)

  abbrev got : Registers
  got = slice_set asked (t + 1) (Some heap)

  abbrev tagged : Registers
  tagged = slice_set got (t + 2) (Some cons_tag)

  abbrev pub cons_registers : Registers
  cons_registers = slice_set tagged t (Some (heap + 1))

  count_asked : length asked ≡ length regs
  count_asked = length-set regs (t + 1) (Some 2)

  count_got : length got ≡ length asked
  count_got = length-set asked (t + 1) (Some heap)

  count_tagged : length tagged ≡ length got
  count_tagged = length-set got (t + 2) (Some cons_tag)

  pub cons_count : length cons_registers ≡ length regs
  cons_count = length-set tagged t (Some (heap + 1)) ∙ count_tagged ∙ count_got ∙ count_asked

  pub cons_below : (r : ℕ) → r < t → slice_get cons_registers r ≡ slice_get regs r
  cons_below r few =
      set_elsewhere tagged t r (Some (heap + 1)) (λ e. omega (arith, e, few)) ∙ set_elsewhere got (t + 2) r (Some cons_tag) (λ e. omega (arith, e, few))
      ∙ set_elsewhere asked (t + 1) r (Some heap) (λ e. omega (arith, e, few)) ∙ set_elsewhere regs (t + 1) r (Some 2) (λ e. omega (arith, e, few))

  pub cons_register : register t cons_registers ≡ Some (heap + 1)
  cons_register = register_here tagged t (heap + 1) (omega (arith, there, count_asked, count_got, count_tagged))

  -- where two words are left
  module _ (some : 2 ≤ left y.arena) where
    abbrev with_words : Arena
    with_words = begun 2 (word ∷ tail_word ∷ []) y.arena

    abbrev pub cons_state : MidState
    cons_state = record y { arena = with_words; cost = y.cost + 58 }

    cons_stands : ConsAt (with_object spot w.places) with_words spot v tail
    cons_stands = record {
      size = record { words = refl; tag = refl };
      car = record {
        word = word;
        of_value = same_word spot w.places v word of_first;
        stands = begun_word 2 (word ∷ tail_word ∷ []) heap 0 word things.represents.arena some (omega arith) (omega arith) refl;
      };
      cdr = record {
        word = tail_word;
        of_value = same_word spot w.places tail tail_word of_tail;
        stands = begun_word 2 (word ∷ tail_word ∷ []) (heap + 4) 1 tail_word things.represents.arena some (omega arith) (omega arith) refl;
      };
    }

    abbrev returned : Returned setting.names (tables setting.program) w.places z.state y (with_object spot w.places) result (meaning.stored (cons v tail) z.state) 2
        (ends (returns (heap + cons_tag)) cons_registers cons_state)
    returned =
        returned_new setting.names (tables setting.program) w.places z.state y things.represents 2 cons_tag (cons v tail) cons_state
        (begun_grows 2 (word ∷ tail_word ∷ []) things.represents.arena some (omega arith)) refl refl refl refl (omega arith) (omega arith) z.state (alike_self z.state) cons_stands tt
        cons_registers

    pub cons_is : word_of cons_world.places result ≡ Some (heap + 1)
    cons_is =
        pointer_made setting.names (tables setting.program) w.places z.state y things.represents 2 cons_tag (cons v tail) cons_state
        (begun_grows 2 (word ∷ tail_word ∷ []) things.represents.arena some (omega arith)) refl refl refl refl (omega arith) (omega arith) z.state (alike_self z.state) cons_stands tt

    runs : RunsTo c (code_of (cons_steps d t)) regs y (ends falls cons_registers cons_state)
    runs =
        let below = heap_below things.represents.arena in
        let aligned = things.represents.arena.aligned in
        let from = things.represents.arena.heap in
        let pointer : register (t + 1) got ≡ Some heap = register_here asked (t + 1) heap (omega (arith, there, count_asked)) in
        let first_got : register d got ≡ Some word =
        register_beside asked (t + 1) d (Some heap) (λ e. omega (arith, e, low)) ∙ register_beside regs (t + 1) d (Some 2) (λ e. omega (arith, e, low)) ∙ first in
        let second_got : register t got ≡ Some tail_word =
        register_beside asked (t + 1) t (Some heap) (λ e. omega (arith, e)) ∙ register_beside regs (t + 1) t (Some 2) (λ e. omega (arith, e)) ∙ second in
        costing {n = y.cost + 58}
        (and_then constant_falls
        (and_then (request_falls (register_here regs (t + 1) 2 (omega (arith, there))) some)
        (and_then (store_in_heap first_got pointer (address_here heap (omega (arith, below))) aligned from (omega arith))
        (and_then (store_in_heap second_got pointer (address_up heap 4 (omega (arith, below))) (omega (arith, aligned)) (omega (arith, from)) (omega arith))
        (and_then constant_falls
        (and_then (compute_known (register_beside got (t + 2) (t + 1) (Some cons_tag) (λ e. omega (arith, e)) ∙ pointer)
        (register_here got (t + 2) cons_tag (omega (arith, there, count_asked, count_got))) (sum_fits heap 1 (omega (arith, below)))) none_left))))))
        (omega arith)

    pub cons_runs : (ss : Steps) → exec c (code_of (cons_steps d t ++ ss)) regs y ≡ exec c (code_of ss) cons_registers cons_state
    cons_runs ss =
        let run : RunsTo c (code_of (cons_steps d t ++ ss)) regs y (exec c (code_of ss) cons_registers cons_state) = parts_then (cons_steps d t) ss runs (record { same = refl }) in
        run.same

    module _ (fits : has_room setting.limit (z.state.heap + z.state.stack + 2 + 0) ≡ true) where
      stands : StandsBehind setting w z y (with_object spot w.places) (with_cons v tail z).state cons_state
      stands =
          object_stands setting things 2 (cons v tail) spot (with_cons v tail z).state cons_state
          (record { store = refl; variables = refl; globals = refl; dynamics = refl; exits = refl; heap = refl; stack = refl }) tt fits
          (represents_same setting.names (tables setting.program) (with_object spot w.places) (meaning.stored (cons v tail) z.state) (with_cons v tail z).state cons_state refl refl refl refl
          returned.represents)
          returned.kept returned.arena.size returned.blocks
          (fresh_from (fresh_was z.state.store (cons v tail) tt) refl (let to = returned.arena.heap_to in omega (arith, to)) things.fresh_symbols)

      pub cons_kept : WorldKept setting w cons_world z (with_cons v tail z) y cons_state
      cons_kept = world_kept_behind setting placed things stands

      pub cons_around : Around setting 0 z (with_cons v tail z) y cons_state
      cons_around = record {
        control = control_behind setting placed things stands;
        blocks = returned.blocks;
        charged =
            charged_by (left y.arena) (left with_words) z.state.heap (with_cons v tail z).state.heap z.state.stack (with_cons v tail z).state.stack 2
            (left_behind y.arena with_words 2 returned.represents.arena returned.arena.size returned.blocks returned.arena.heap_to) refl refl;
        paid = omega arith;
      }

  -- **a cons**, and what goes on with it
  module _ (rest : Steps) (next : Value → FlatState → FlatEvaluated) (grown : (v : Value) (z : FlatState) → FlatGrown z (next v z).state)
      (Whole : FlatEvaluated → MidOutcome → Type 0) (whole_full : (r : FlatEvaluated) (q : MidOutcome) → FullThere setting r q → Whole r q)
      (whole_stopped : (r : FlatEvaluated) (q : MidOutcome) → Stopped setting 0 z y r q → Whole r q)
      (goes_on : (some : 2 ≤ left y.arena) → has_room setting.limit (z.state.heap + z.state.stack + 2 + 0) ≡ true
      → Whole (next result (with_cons v tail z)) (exec c (code_of rest) cons_registers (cons_state some))) where
    abbrev outcome : MidOutcome
    outcome = exec c (code_of (cons_steps d t ++ rest)) regs y

    pub cons_goes_on : Whole (make setting.limit 2 0 (cons v tail) z next) outcome
    cons_goes_on = by (has_room setting.limit (z.state.heap + z.state.stack + 2 + 0)) refl
      where
        following : FlatState → FlatEvaluated
        following entered = next (object (length entered.state.store)) (on_state (λ x. meaning.stored (cons v tail) (meaning.charged (2 + 0) x)) entered)

        either : Room 2 y.arena → has_room setting.limit (z.state.heap + z.state.stack + 2 + 0) ≡ true → Whole (next result (with_cons v tail z)) outcome
        either (is_left some) fits = subst (λ q. Whole (next result (with_cons v tail z)) q) (sym (cons_runs some rest)) (goes_on some fits)
        either (is_wanting few) fits =
            let run : RunsTo c (code_of (cons_steps d t ++ rest)) regs y (ends (no_room 2 (left y.arena)) asked (record y { cost = y.cost + 6 + 20 })) =
            and_then constant_falls (and_ends tt (request_wanting (register_here regs (t + 1) 2 (omega (arith, there))) few)) in
            subst (λ q. Whole (next result (with_cons v tail z)) q) (sym run.same)
            (whole_stopped _ _
            (record {
              because = (room_ended setting setting.limit (next result (with_cons v tail z)).outcome room 2 0 z y roomy fits (omega arith) few, few);
              printed =
                  subst (λ p. IsPrefix p (next result (with_cons v tail z)).state.state.printed) (sym things.represents.printed)
                  (grown result (with_cons v tail z)).printed;
              paid = λ ended. let up = (grown result (with_cons v tail z)).units in omega (arith, up);
            }))

        by : (b : Bool) → has_room setting.limit (z.state.heap + z.state.stack + 2 + 0) ≡ b → Whole (make setting.limit 2 0 (cons v tail) z next) outcome
        by true e = subst (λ r. Whole r outcome) (sym (request_granted setting.limit 2 z following e)) (either (room_for 2 y.arena) e)
        by false e =
            subst (λ r. Whole r outcome) (sym (request_refused setting.limit 2 z following e))
            (whole_full _ _
            (record {
              asked = 2 + 0;
              left_then = room_left setting.limit (z.state.heap + z.state.stack);
              outcome = refl;
              printed = full_printed z y outcome things.represents.printed (steps_grow setting k n (cons_steps d t ++ rest) regs y);
            }))
