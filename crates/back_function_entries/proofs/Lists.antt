-- Lists are made cons by cons, the last one first.
use Rattle.std.proofs.Common.{◌≡◌, ℕ, ◌+◌, ◌*◌, ◌<◌, ◌≤◌, List, [], ◌∷◌, ◌++◌, length, Some, refl, sym, ap, ◌∙◌, subst, append_assoc, arith}
use Rattle.std.specs.Prelude.{slice_set}
use Rattle.std.proofs.Math.ListN.{length-set}
use Rattle.lang_meaning.specs.Objects.{cons}
use Rattle.lang_meaning.specs.Values.{Value, nil}
use Rattle.flat_language.specs.FlatSignals.{make_list}
use Rattle.flat_language.specs.FlatState.{FlatState, FlatEvaluated, make, under}
use Rattle.mid_code.specs.Arena.{word_in}
use Rattle.mid_code.specs.Meaning.{Context, exec}
use Rattle.mid_code.specs.MidCode.{code_of}
use Rattle.mid_code.specs.State.{Registers, register, MidState, MidOutcome}
use Rattle.mid_code.specs.State.{charged as mid_charged}
use Rattle.mid_arena.specs.Places.{WordsOf, word_of}
use Rattle.mid_arena.specs.Tags.{nil_word}
use Rattle.mid_arena.proofs.Lists.{set_elsewhere}
use Rattle.mid_arena.proofs.Registers.{register_here}
use Rattle.mid_arena.proofs.Running.{and_then, constant_falls}
use Rattle.back_lowering.specs.Calls.{list_of}
use Rattle.back_lowering.specs.Registers.{of_code, enough_for}
use Rattle.back_lowering.specs.Steps.{Steps}
use Rattle.back_relation.specs.Setting.{Setting}
use Rattle.back_relation.specs.Placed.{IsPlaced}
use Rattle.back_relation.specs.Worlds.{World}
use Rattle.back_relation.specs.Things.{Things}
use Rattle.back_relation.specs.Around.{RoomFor}
use Rattle.back_relation.specs.Room.{words_for_handler}
use Rattle.back_relation.specs.Ends.{FullThere, Stopped, full_there, stopped}
use Rattle.back_relation.specs.Forms.{code_at}
use Rattle.back_relation.specs.Starts.{FlatGrown, Start, EndsAt, ReachedFrom}
use Rattle.back_relation.proofs.Activations.{activation_later}
use Rattle.back_relation.proofs.Fitting.{registers_front, registers_behind}
use Rattle.back_relation.proofs.Starts.{room_after}
use Rattle.back_relation.proofs.Stops.{stopped_before, stopped_less}
use Rattle.back_relation.proofs.Straight.{world_cost, around_cost}
use Rattle.back_relation.proofs.Then.{same_world, world_then, back_then, ends_then}
use Rattle.back_relation.proofs.Worlds.{word_later}
use Rattle.back_values.specs.Arguments.{WordsIn}
use Rattle.back_function_entries.specs.Lists.{ListMade, ListEnd, made, no_words, no_space, list_credit, LawOfMadeLists, LawOfListsAt}
use Rattle.back_function_entries.proofs.Conses.{cons_steps, with_cons, cons_grows, result, cons_world, cons_registers, cons_count, cons_below, cons_register, cons_state, cons_is, cons_kept, cons_around, cons_goes_on}

pub cons_names : (d t size : ℕ) → enough_for (of_code (code_of (cons_steps d t))) ≤ size → t + 2 < size
cons_names d t size h = omega (arith, h)

pub nil_names : (d t size : ℕ) → enough_for (of_code (code_of (list_of 0 d t))) ≤ size → t < size
nil_names d t size h = omega (arith, h)

module _ (setting : Setting) (placed : IsPlaced setting) (k n room t : ℕ) (Whole : FlatEvaluated → MidOutcome → Type 0)
    (whole_full : (r : FlatEvaluated) (q : MidOutcome) → FullThere setting r q → Whole r q) where
  abbrev c : Context
  c = code_at setting k n

  abbrev Goes : List Value → Type 0
  Goes vs =
      (ws : List ℕ) (d : ℕ) (w : World) (z : FlatState) (regs : Registers) (y : MidState) (rest : Steps) (next : Value → FlatState → FlatEvaluated)
      → ((v : Value) (z : FlatState) → FlatGrown z (next v z).state) → Things setting w z y → RoomFor setting.limit room z.state y → WordsOf w.places vs ws → WordsIn d ws regs
      → d + length ws ≤ t → enough_for (of_code (code_of (list_of (length ws) d t))) ≤ length regs
      → ((r : FlatEvaluated) (q : MidOutcome) → Stopped setting list_credit z y r q → Whole r q)
      → ((list : Value) (w' : World) (z' : FlatState) (regs' : Registers) (y' : MidState) → ListMade setting t list w w' z z' regs regs' y y'
      → Whole (next list z') (exec c (code_of rest) regs' y'))
      → Whole (make_list setting.limit vs z next) (exec c (code_of (list_of (length ws) d t ++ rest)) regs y)

  nothing_listed : Goes []
  nothing_listed (x ∷ ws) d w z regs y rest next grown things h is inside fits there whole_stopped goes_on = absurd is
  nothing_listed [] d w z regs y rest next grown things h is inside fits there whole_stopped goes_on =
      let run = and_then {c = c} {rs = regs} {z = y} constant_falls (record { same = refl }) in
      subst (λ q. Whole (next nil z) q) (sym run.same)
      (goes_on nil w z (slice_set regs t (Some nil_word)) (mid_charged 6 y)
      (record {
        world = world_cost setting 6 things;
        back = around_cost setting z y 6 (omega arith);
        word = nil_word;
        of_value = refl;
        in_register = register_here regs t nil_word (nil_names d t (length regs) there);
        count = length-set regs t (Some nil_word);
        below = λ r few. set_elsewhere regs t r (Some nil_word) (λ e. omega (arith, e, few));
        frame = refl;
        captured = refl;
        up = omega arith;
      }))

  one_more : (v : Value) (vs : List Value) → Goes vs → Goes (v ∷ vs)
  one_more v vs goes [] d w z regs y rest next grown things h is inside fits there whole_stopped goes_on = absurd is
  one_more v vs goes (word ∷ ws) d w z regs y rest next grown things h is inside fits there whole_stopped goes_on =
      subst (λ ss. Whole (make_list setting.limit (v ∷ vs) z next) (exec c (code_of ss) regs y)) (sym (append_assoc front (cons_steps d t) rest))
      (goes ws (d + 1) w z regs y (cons_steps d t ++ rest) (λ tail after. make setting.limit 2 0 (cons v tail) after next)
      (λ tail after. cons_grows setting.limit v tail after next grown) things h is.1 inside.1 (omega (arith, fits)) (registers_front front (cons_steps d t) (length regs) there) whole_stopped
      (λ tail w1 z1 regs1 y1 m. with_tail tail w1 z1 regs1 y1 m))
    where
      front : Steps
      front = list_of (length ws) (d + 1) t

      with_tail :
          (tail : Value) (w1 : World) (z1 : FlatState) (regs1 : Registers) (y1 : MidState) → ListMade setting t tail w w1 z z1 regs regs1 y y1
          → Whole (make setting.limit 2 0 (cons v tail) z1 next) (exec c (code_of (cons_steps d t ++ rest)) regs1 y1)
      with_tail tail w1 z1 regs1 y1 m =
          let low : d < t = omega (arith, fits) in
          let size = m.count in
          let top : t + 2 < length regs1 =
          subst (λ s. t + 2 < s) (sym size) (cons_names d t (length regs) (registers_behind front (cons_steps d t) (length regs) there)) in
          let roomy : RoomFor setting.limit room z1.state y1 = room_after setting.limit room room z z1 y y1 (omega arith) m.back.charged h in
          let of_first : word_of w1.places v ≡ Some word = word_later m.world.later v word is.0 in
          let first : register d regs1 ≡ Some word = ap word_in (m.below d low) ∙ inside.0 in
          cons_goes_on setting placed k n room d t m.world.things roomy v tail word m.word of_first m.of_value regs1 low top first m.in_register rest next grown Whole whole_full
          (λ r q f. whole_stopped r q (stopped_before setting (omega (arith, m.back.paid)) f))
          (λ some room_there.
          goes_on (result setting placed k n room d t m.world.things roomy v tail word m.word of_first m.of_value regs1 low top first m.in_register)
          (cons_world setting placed k n room d t m.world.things roomy v tail word m.word of_first m.of_value regs1 low top first m.in_register) (with_cons v tail z1)
          (cons_registers setting placed k n room d t m.world.things roomy v tail word m.word of_first m.of_value regs1 low top first m.in_register)
          (cons_state setting placed k n room d t m.world.things roomy v tail word m.word of_first m.of_value regs1 low top first m.in_register some)
          (record {
            world =
                world_then setting m.world m.back
                (cons_kept setting placed k n room d t m.world.things roomy v tail word m.word of_first m.of_value regs1 low top first m.in_register some room_there);
            back =
                back_then setting m.world m.back (omega arith)
                (cons_around setting placed k n room d t m.world.things roomy v tail word m.word of_first m.of_value regs1 low top first m.in_register some room_there);
            word = y1.arena.heap_to + 1;
            of_value = cons_is setting placed k n room d t m.world.things roomy v tail word m.word of_first m.of_value regs1 low top first m.in_register some;
            in_register = cons_register setting placed k n room d t m.world.things roomy v tail word m.word of_first m.of_value regs1 low top first m.in_register;
            count = cons_count setting placed k n room d t m.world.things roomy v tail word m.word of_first m.of_value regs1 low top first m.in_register ∙ m.count;
            below = λ r few.
                cons_below setting placed k n room d t m.world.things roomy v tail word m.word of_first m.of_value regs1 low top first m.in_register r few ∙ m.below r few;
            frame = m.frame;
            captured = m.captured;
            up = let more = m.up in omega (arith, more);
          }))

  pub lists_go_on : (vs : List Value) → Goes vs
  lists_go_on [] = nothing_listed
  lists_go_on (v ∷ vs) = one_more v vs (lists_go_on vs)

pub lists_law : LawOfMadeLists
lists_law setting k n room vs ws d t w z regs y rest next placed things h is inside fits there grown =
    lists_go_on setting placed k n room t (λ r q. ListEnd setting t w z regs y next (λ g x. exec (code_at setting k n) (code_of rest) g x) r q) (λ r q f. no_words f) vs
    ws d w z regs y rest next grown things h is inside fits there (λ r q f. no_space f) (λ list w' z' regs' y' m. made list w' z' regs' y' m refl refl)

-- from a point of an activation, which goes on standing
reached_list :
    (setting : Setting) (a : Start setting) (t : ℕ) (list : Value) (w' : World) (z' : FlatState) (regs' : Registers) (y' : MidState) → a.d ≤ t
    → ListMade setting t list a.w w' a.z z' a.regs regs' a.y y' → ReachedFrom setting list_credit a a.d w' z' regs' y'
reached_list setting a t list w' z' regs' y' low m = record {
  kept = record {
    world = m.world;
    activation =
        activation_later setting {d = a.d} {y = a.y} {y' = y'} m.world.later (same_world setting m.world m.back) m.frame (λ n cs e. ap (λ x. under n x) m.captured ∙ e)
        (λ r few. ap word_in (m.below r (omega (arith, few, low)))) a.begins.scope a.begins.activation;
    registers = record { count = m.count; same = λ i few none. m.below i (omega (arith, few, low)) };
  };
  back = m.back;
}

pub lists_at_law : LawOfListsAt
lists_at_law setting k credit a vs ws d t rest next placed is inside low fits there grown goes_on =
    lists_go_on setting placed k a.turns (a.n + words_for_handler * length a.around.handlers) t (λ r q. EndsAt setting (list_credit + credit) a r q) (λ r q f. full_there f)
    vs ws d a.w a.z a.regs a.y rest next grown a.begins.call.things a.begins.call.room is inside fits there (λ r q f. stopped (stopped_less setting (omega arith) f))
    (λ list w' z' regs' y' m.
    let reached = reached_list setting a t list w' z' regs' y' (omega (arith, low, fits)) m in
    ends_then setting {d = a.d} {d1 = a.d} (omega arith) reached {c2 = credit} {c = list_credit + credit} (omega arith) m.up
    (goes_on list w' z' regs' y' (record { made = m; reached = reached })))
