-- A cons is made in line.
use Rattle.std.proofs.Common.{◌≡◌, ℕ, ◌+◌, ◌*◌, ◌<◌, ◌≤◌, Bool, true, false, [], ◌∷◌, length, Some, refl, sym, ◌∙◌, subst, arith}
use Rattle.std.specs.Prelude.{slice_set}
use Rattle.std.proofs.Math.ListN.{length-set}
use Rattle.lang_meaning.specs.declared.primitive.Primitive.TheVariants.{Cons}
use Rattle.lang_meaning.specs.Objects.{cons}
use Rattle.lang_meaning.specs.Prefixes.{IsPrefix}
use Rattle.lang_meaning.specs.State.{value, has_room, room_left}
use Rattle.lang_meaning.specs.State as meaning
use Rattle.lang_meaning.specs.Values.{Value, object}
use Rattle.flat_language.specs.FlatNodes.{tables}
use Rattle.flat_language.specs.FlatState.{FlatState, FlatEvaluated, on_state, gives}
use Rattle.mid_code.specs.Arena.{Arena, left}
use Rattle.mid_code.specs.Meaning.{Context, exec}
use Rattle.mid_code.specs.MidCode.{code_of}
use Rattle.mid_code.specs.State.{Registers, register, falls, returns, no_room, ends, MidState}
use Rattle.mid_arena.specs.Answers.{Returned}
use Rattle.mid_arena.specs.Layouts.{ConsAt}
use Rattle.mid_arena.specs.Places.{Spot, word_of, with_object}
use Rattle.mid_arena.specs.Represents.{Represents}
use Rattle.mid_arena.specs.Tags.{cons_tag}
use Rattle.mid_arena.proofs.Doing.{alike_self}
use Rattle.mid_arena.proofs.Keeping.{same_word}
use Rattle.mid_arena.proofs.Making.{Room, is_left, is_wanting, room_for, begun, begun_grows, begun_word, pointer_made, returned_new}
use Rattle.mid_arena.proofs.Memory.{heap_below}
use Rattle.mid_arena.proofs.Registers.{register_here, register_beside}
use Rattle.mid_arena.proofs.Representing.{represents_same}
use Rattle.mid_arena.proofs.Running.{RunsTo, and_then, and_ends, none_left, costing, constant_falls, compute_known, store_in_heap, request_falls, request_wanting, address_here, address_up}
use Rattle.mid_arena.proofs.WordFacts.{sum_fits}
use Rattle.back_lowering.specs.Primitives.{cons_made}
use Rattle.back_relation.specs.Setting.{Setting}
use Rattle.back_relation.specs.Room.{words_for_handler}
use Rattle.back_relation.specs.Ends.{done, stopped}
use Rattle.back_relation.specs.Forms.{code_at}
use Rattle.back_relation.specs.Starts.{Start, EndsAt}
use Rattle.back_relation.proofs.Fresh.{fresh_was, fresh_from}
use Rattle.back_relation.proofs.Growth.{same_prefix}
use Rattle.back_relation.proofs.Standing.{StandsBehind, world_behind, reached_behind}
use Rattle.back_primitives.specs.Applying.{Applies}
use Rattle.back_primitives.proofs.Answered.{left_behind, charged_by, room_ended}
use Rattle.back_primitives.proofs.Applied.{full_ends}
use Rattle.back_primitives.proofs.Behind.{object_stands, request_granted, request_refused}
use Rattle.back_primitives.proofs.Choosing.{Beside, beside_none, beside_set, register_kept}
use Rattle.back_primitives.proofs.Quick.{meant}

module _ (setting : Setting) (k : ℕ) (a : Start setting) (v1 v2 : Value) (w1 w2 : ℕ) (g : Applies setting k a Cons (v1 ∷ v2 ∷ []) (w1 ∷ w2 ∷ []))
    (there : a.d + 2 + 1 < length a.regs) where
  abbrev c : Context
  c = code_at setting k a.turns

  abbrev t : ℕ
  t = a.d + 2

  abbrev heap : ℕ
  heap = a.y.arena.heap_to

  abbrev spot : Spot
  spot = record { address = heap; words = 2; tag = cons_tag }

  abbrev after : meaning.State
  after = meaning.stored (cons v1 v2) (meaning.charged (2 + 0) (meaning.with_words 2 0 a.z.state))

  abbrev the_meaning : FlatEvaluated
  the_meaning = gives (object (length a.z.state.store)) (record a.z { state = after })

  represented : Represents setting.names (tables setting.program) a.w.places a.z.state a.y
  represented = a.begins.call.things.represents

  abbrev asked : Registers
  asked = slice_set a.regs t (Some 2)

  abbrev got : Registers
  got = slice_set asked t (Some heap)

  abbrev tagged : Registers
  tagged = slice_set got (t + 1) (Some cons_tag)

  abbrev made : Registers
  made = slice_set tagged a.d (Some (heap + 1))

  count_asked : length asked ≡ length a.regs
  count_asked = length-set a.regs t (Some 2)

  count_got : length got ≡ length asked
  count_got = length-set asked t (Some heap)

  count_tagged : length tagged ≡ length got
  count_tagged = length-set got (t + 1) (Some cons_tag)

  -- two words are not left
  wanting : left a.y.arena < 2 → has_room setting.limit (a.z.state.heap + a.z.state.stack + 2 + 0) ≡ true → {credit : ℕ}
      → EndsAt setting credit a the_meaning (exec c (code_of (cons_made a.d t)) a.regs a.y)
  wanting lacking fits {credit} =
      let run : RunsTo c (code_of (cons_made a.d t)) a.regs a.y (ends (no_room 2 (left a.y.arena)) asked (record a.y { cost = a.y.cost + 6 + 20 })) =
      and_then constant_falls (and_ends tt (request_wanting (register_here a.regs t 2 (omega (arith, there))) lacking)) in
      subst (λ o. EndsAt setting credit a the_meaning o) (sym run.same)
      (stopped (record {
        because = (
          room_ended setting setting.limit (value (object (length a.z.state.store))) (a.n + words_for_handler * length a.around.handlers) 2 0 a.z a.y a.begins.call.room fits
              (omega arith) lacking,
          lacking,
        );
        printed = subst (λ ps. IsPrefix ps after.printed) (sym represented.printed) (same_prefix after.printed);
        paid = λ ended. omega arith;
      }))

  -- or they are
  module _ (room : 2 ≤ left a.y.arena) where
    abbrev with_cons : Arena
    with_cons = begun 2 (w1 ∷ w2 ∷ []) a.y.arena

    abbrev y2 : MidState
    y2 = record a.y { arena = with_cons; cost = a.y.cost + 58 }

    cons_stands : ConsAt (with_object spot a.w.places) with_cons spot v1 v2
    cons_stands = record {
      size = record { words = refl; tag = refl };
      car = record {
        word = w1;
        of_value = same_word spot a.w.places v1 w1 g.of_values.0;
        stands = begun_word 2 (w1 ∷ w2 ∷ []) heap 0 w1 represented.arena room (omega arith) (omega arith) refl;
      };
      cdr = record {
        word = w2;
        of_value = same_word spot a.w.places v2 w2 g.of_values.1.0;
        stands = begun_word 2 (w1 ∷ w2 ∷ []) (heap + 4) 1 w2 represented.arena room (omega arith) (omega arith) refl;
      };
    }

    abbrev returned : Returned setting.names (tables setting.program) a.w.places a.z.state a.y (with_object spot a.w.places) (object (length a.z.state.store)) (meaning.stored (cons v1 v2) a.z.state) 2
        (ends (returns (heap + cons_tag)) made y2)
    returned =
        returned_new setting.names (tables setting.program) a.w.places a.z.state a.y represented 2 cons_tag (cons v1 v2) y2
        (begun_grows 2 (w1 ∷ w2 ∷ []) represented.arena room (omega arith)) refl refl refl refl (omega arith) (omega arith) a.z.state (alike_self a.z.state) cons_stands tt made

    pointed : word_of (with_object spot a.w.places) (object (length a.z.state.store)) ≡ Some (heap + cons_tag)
    pointed =
        pointer_made setting.names (tables setting.program) a.w.places a.z.state a.y represented 2 cons_tag (cons v1 v2) y2
        (begun_grows 2 (w1 ∷ w2 ∷ []) represented.arena room (omega arith)) refl refl refl refl (omega arith) (omega arith) a.z.state (alike_self a.z.state) cons_stands tt

    runs : RunsTo c (code_of (cons_made a.d t)) a.regs a.y (ends falls made y2)
    runs =
        let low = heap_below represented.arena in
        let aligned = represented.arena.aligned in
        let from = represented.arena.heap in
        let t_there : register t got ≡ Some heap = register_here asked t heap (omega (arith, there, count_asked)) in
        let first : register a.d got ≡ Some w1 =
        register_beside asked t a.d (Some heap) (λ e. omega (arith, e)) ∙ register_beside a.regs t a.d (Some 2) (λ e. omega (arith, e)) ∙ g.in_registers.0 in
        let second : register (a.d + 1) got ≡ Some w2 =
        register_beside asked t (a.d + 1) (Some heap) (λ e. omega (arith, e)) ∙ register_beside a.regs t (a.d + 1) (Some 2) (λ e. omega (arith, e)) ∙ g.in_registers.1.0 in
        costing {n = a.y.cost + 58}
        (and_then constant_falls
        (and_then (request_falls (register_here a.regs t 2 (omega (arith, there))) room)
        (and_then (store_in_heap first t_there (address_here heap (omega (arith, low))) aligned from (omega arith))
        (and_then (store_in_heap second t_there (address_up heap 4 (omega (arith, low))) (omega (arith, aligned)) (omega (arith, from)) (omega arith))
        (and_then constant_falls
        (and_then (compute_known (register_beside got (t + 1) t (Some cons_tag) (λ e. omega (arith, e)) ∙ t_there)
        (register_here got (t + 1) cons_tag (omega (arith, there, count_asked, count_got))) (sum_fits heap 1 (omega (arith, low)))) none_left))))))
        (omega arith)

    is_made : has_room setting.limit (a.z.state.heap + a.z.state.stack + 2 + 0) ≡ true → {credit : ℕ}
        → EndsAt setting credit a the_meaning (exec c (code_of (cons_made a.d t)) a.regs a.y)
    is_made fits {credit} =
        let x = returned in
        let beside : Beside a.d a.regs made =
        beside_set a.d (heap + 1) (omega arith) (beside_set (t + 1) cons_tag (omega arith) (beside_set t heap (omega arith) (beside_set t 2 (omega arith) (beside_none a.d a.regs)))) in
        let stands : StandsBehind setting a.w a.z a.y (with_object spot a.w.places) after y2 =
        object_stands setting a.begins.call.things 2 (cons v1 v2) spot after y2
        (record { store = refl; variables = refl; globals = refl; dynamics = refl; exits = refl; heap = refl; stack = refl }) tt fits
        (represents_same setting.names (tables setting.program) (with_object spot a.w.places) (meaning.stored (cons v1 v2) a.z.state) after y2 refl refl refl refl x.represents)
        x.kept x.arena.size x.blocks
        (fresh_from (fresh_was a.z.state.store (cons v1 v2) tt) refl (let to = x.arena.heap_to in omega (arith, to)) a.begins.call.things.fresh_symbols) in
        subst (λ o. EndsAt setting credit a the_meaning o) (sym runs.same)
        (done (record {
          result = object (length a.z.state.store);
          outcome = refl;
          end = refl;
          w' = world_behind a.w a.y.arena (with_object spot a.w.places);
          reached =
              reached_behind setting g.placed {credit = credit} a stands (λ r few. register_kept r few beside)
              (record { count = beside.count; same = λ i few n. beside.same i few })
              (charged_by (left a.y.arena) (left with_cons) a.z.state.heap after.heap a.z.state.stack after.stack 2
              (left_behind a.y.arena with_cons 2 x.represents.arena x.arena.size x.blocks x.arena.heap_to) refl refl)
              (omega arith);
          word = heap + 1;
          in_register = register_here tagged a.d (heap + 1) (omega (arith, there, count_asked, count_got, count_tagged));
          of_value = pointed;
        }))

  -- **a cons**
  pub cons_ends :
      {credit : ℕ} → EndsAt setting credit a (meant setting k a Cons (v1 ∷ v2 ∷ []) (w1 ∷ w2 ∷ []) g) (exec c (code_of (cons_made a.d t)) a.regs a.y)
  cons_ends {credit} = by (has_room setting.limit (a.z.state.heap + a.z.state.stack + 2 + 0)) refl
    where
      following : FlatState → FlatEvaluated
      following entered = gives (object (length entered.state.store)) (on_state (λ y. meaning.stored (cons v1 v2) (meaning.charged (2 + 0) y)) entered)

      either : Room 2 a.y.arena → has_room setting.limit (a.z.state.heap + a.z.state.stack + 2 + 0) ≡ true
          → EndsAt setting credit a the_meaning (exec c (code_of (cons_made a.d t)) a.regs a.y)
      either (is_wanting lacking) fits = wanting lacking fits
      either (is_left room) fits = is_made room fits

      by : (b : Bool) → has_room setting.limit (a.z.state.heap + a.z.state.stack + 2 + 0) ≡ b
          → EndsAt setting credit a (meant setting k a Cons (v1 ∷ v2 ∷ []) (w1 ∷ w2 ∷ []) g) (exec c (code_of (cons_made a.d t)) a.regs a.y)
      by true e =
          subst (λ r. EndsAt setting credit a r (exec c (code_of (cons_made a.d t)) a.regs a.y)) (sym (request_granted setting.limit 2 a.z following e))
          (either (room_for 2 a.y.arena) e)
      by false e =
          subst (λ r. EndsAt setting credit a r (exec c (code_of (cons_made a.d t)) a.regs a.y)) (sym (request_refused setting.limit 2 a.z following e))
          (full_ends setting k a (code_of (cons_made a.d t)) (2 + 0) (room_left setting.limit (a.z.state.heap + a.z.state.stack)) a.z.state refl)
