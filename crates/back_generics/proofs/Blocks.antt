-- **A block of words that is lent to a call**: behind the code inside it is given back, or a transfer leaves it.
use Rattle.std.proofs.Common.{◌≡◌, ℕ, ◌+◌, ◌*◌, ◌<◌, ◌≤◌, false, [], ◌∷◌, length, Some, refl, sym, ap, ◌∙◌, subst, arith}
use Rattle.std.specs.Prelude.{◌==◌, if◌then◌else◌, slice_get}
use Rattle.std.proofs.lemmas.Bool.{ne_eqb}
use Rattle.flat_language.specs.FlatState.{FlatEvaluated}
use Rattle.mid_code.specs.Arena.{Arena, record_of, begin_of, lent_from, left, stack_from, blocks_from, word_at, with_blocks}
use Rattle.mid_code.specs.Law.{Grown}
use Rattle.mid_code.specs.Meaning.{Context, give_back, run_landing, exec}
use Rattle.mid_code.specs.MidCode.{no_step}
use Rattle.mid_code.specs.State.{Registers, End, falls, returns, cuts, no_room, no_level, no_turn, halts, unhandled, exhausted, stuck, MidState, MidOutcome, ends, choose_by, jumped, landed, landed_from}
use Rattle.mid_code.specs.State.{go_on as mid_go_on}
use Rattle.mid_code.proofs.Growth.{go_on_grown, landed_grown, run_landing_grown, after_inside_grown, same_grown}
use Rattle.mid_arena.specs.Growing.{Grows}
use Rattle.mid_arena.specs.Places.{of_other}
use Rattle.mid_arena.specs.Standing.{ArenaStands}
use Rattle.mid_arena.proofs.Growing.{spot_below}
use Rattle.mid_arena.proofs.Memory.{grows_with_blocks, room_below}
use Rattle.mid_arena.proofs.Running.{jumped_falls}
use Rattle.back_lowering.specs.ControlWords.{current_address, link_address, serials_address, handlers_address, bindings_address, end_address}
use Rattle.back_relation.specs.Setting.{Setting, control_spot}
use Rattle.back_relation.specs.Placed.{IsPlaced}
use Rattle.back_relation.specs.Worlds.{World, IsIn}
use Rattle.back_relation.specs.StackWords.{HasWordAt, RecordAt}
use Rattle.back_relation.specs.Around.{AroundStands}
use Rattle.back_relation.specs.Ends.{WorldKept, Transfers, Because, done, left_by, full_there, stopped, few_turns, Fell, Left}
use Rattle.back_relation.specs.Forms.{Begins, FormEnds}
use Rattle.back_relation.specs.Cuts.{boxes_cut}
use Rattle.back_relation.specs.Starts.{Start, EndsAt, ReachedFrom}
use Rattle.back_relation.proofs.Growth.{both_prefix}
use Rattle.back_relation.proofs.Parts.{IsLast, go_on_falls, go_on_last}
use Rattle.back_relation.proofs.Reaches.{first_stop_in}
use Rattle.back_relation.proofs.Stops.{stopped_before}
use Rattle.back_calling.proofs.Outward.{activation_out}
use Rattle.back_exits.specs.Going.{world_with}
use Rattle.back_exits.specs.Touching.{Touched, touched, ExitsMade}
use Rattle.back_exits.proofs.Inside.{world_both}
use Rattle.back_exits.proofs.Steps.{gives_back}
use Rattle.back_exits.proofs.Touching.{world_touched}
use Rattle.back_conditions.proofs.Within.{IsFound, found_block}

module _ (setting : Setting) (placed : IsPlaced setting) (a : Start setting) where
  abbrev around_there : AroundStands setting a.w a.rs a.valid a.around a.z a.y
  around_there = a.begins.call.around_stands

  -- where the code inside begins: the block is the innermost one, its words were stored, and so much was paid
  pub record Laid (count cost n : ℕ) (w1 : World) (regs : Registers) (y : MidState) : Type 0 where
    pub begins : Begins setting a.rs a.valid a.s a.d n w1 a.env a.around a.z regs y
    pub room : count + 2 ≤ left a.y.arena
    pub world : WorldKept setting a.w w1 a.z a.z a.y y
    pub blocks : y.arena.blocks ≡ record_of count ∷ a.y.arena.blocks
    pub heap_to : y.arena.heap_to ≡ a.y.arena.heap_to
    pub controls : (x m : ℕ) → x ≤ end_address → HasWordAt a.y x m → HasWordAt y x m
    pub paid : y.cost ≤ a.y.cost + cost
    pub register_count : length regs ≡ length a.regs
    pub same : (i : ℕ) → i < a.d → slice_get regs i ≡ slice_get a.regs i

  -- what the whole comes to, by what the code inside came to
  abbrev pub given_back : Context → (word : ℕ) → MidOutcome → MidOutcome
  given_back c word q =
      landed (length a.y.arena.blocks) (run_landing (length a.y.arena.blocks) word (λ g v. exec c no_step g v))
      (mid_go_on q (λ g v. jumped (give_back (length a.y.arena.blocks) g v)))

  module _ {count cost n : ℕ} {w1 : World} {regs : Registers} {y : MidState} (h : Laid count cost n w1 regs y) (credit : ℕ) where
    outer_stands : ArenaStands a.y.arena
    outer_stands = a.begins.call.things.represents.arena

    size : length y.arena.memory ≡ length a.y.arena.memory
    size = h.world.same_size

    stack_inside : stack_from y.arena + 4 * (count + 2) ≡ stack_from a.y.arena
    stack_inside =
        let same : stack_from y.arena ≡ begin_of (length y.arena.memory) (record_of count ∷ a.y.arena.blocks) = ap (begin_of (length y.arena.memory)) h.blocks in
        let below = room_below (count + 2) outer_stands h.room in
        omega (arith, same, size, below, outer_stands.blocks)

    -- ---- the code inside fell out

    module _ {r : FlatEvaluated} {q : MidOutcome} (x : Fell setting credit a.rs a.valid a.s a.d w1 a.env a.around a.z regs y r q) where
      inner : WorldKept setting w1 x.w' a.z r.state y q.state
      inner = x.reached.kept.world

      inner_stands : ArenaStands q.state.arena
      inner_stands = inner.things.represents.arena

      blocks_then : q.state.arena.blocks ≡ record_of count ∷ a.y.arena.blocks
      blocks_then = x.reached.back.blocks ∙ h.blocks

      abbrev arena_back : Arena
      arena_back = with_blocks a.y.arena.blocks q.state.arena

      abbrev state_back : MidState
      state_back = touched [] arena_back (q.state.cost + 10 + 2) q.state

      abbrev world_back : World
      world_back = world_with (boxes_cut (stack_from arena_back) x.w'.boxes) x.w'.exit_forms x.w'

      grows : Grows q.state.arena arena_back
      grows = grows_with_blocks (record_of count ∷ []) a.y.arena.blocks inner_stands blocks_then

      from_then : stack_from q.state.arena ≡ stack_from y.arena
      from_then = ap (λ m. begin_of m q.state.arena.blocks) inner.same_size ∙ ap (begin_of (length y.arena.memory)) x.reached.back.blocks

      from_back : stack_from arena_back ≡ stack_from a.y.arena
      from_back = ap (λ m. begin_of m a.y.arena.blocks) (inner.same_size ∙ size)

      gives : Touched q.state.arena arena_back [] (stack_from arena_back)
      gives = record {
        grows = grows;
        from = q.state.arena.heap_to;
        to = q.state.arena.heap_to;
        touches = tt;
        low = omega arith;
        high = inner_stands.room;
        before = let since = from_then in let back = from_back in let inside = stack_inside in omega (arith, since, back, inside);
        after = omega arith;
        least = λ p low high. high;
      }

      control_below : end_address < q.state.arena.heap_to
      control_below = let low = spot_below inner_stands (inner.things.represents.spots (of_other 1) (control_spot setting) inner.things.control) in omega (arith, low)

      control_stays : (p : ℕ) → p ≤ end_address → word_at state_back.arena p ≡ word_at q.state.arena p
      control_stays p low = grows.words p (let below = control_below in omega (arith, low, below))

      made : ExitsMade x.w' r.state x.w'.exit_forms r.state.state.exits arena_back
      made =
          let s = inner.things.serials in
          record {
            drawn = s.0;
            word = control_stays serials_address (omega arith) ∙ s.1;
            count = s.2;
            low = s.3;
            more = omega arith;
            form_count = inner.things.exit_forms;
            forms_kept = λ e o f. f;
          }

      gave : WorldKept setting x.w' world_back r.state r.state q.state state_back
      gave = world_touched setting (q.state.cost + 10 + 2) r.state.state.made placed inner.things gives made

      from_less : stack_from q.state.arena ≤ stack_from state_back.arena
      from_less = let since = from_then in let back = from_back in let inside = stack_inside in omega (arith, since, back, inside)

      world_behind : WorldKept setting a.w world_back a.z r.state a.y state_back
      world_behind =
          world_both setting (world_both setting h.world inner (λ p low high. let inside = stack_inside in omega (arith, low, inside))) gave
          (λ p low high. let since = from_less in omega (arith, high, since))

      says_again : (p m : ℕ) → p ≤ end_address → ((k : ℕ) → HasWordAt y p k → HasWordAt q.state p k) → HasWordAt a.y p m → HasWordAt state_back p m
      says_again p m high back e = control_stays p high ∙ back m (h.controls p m high e)

      reached_behind : ReachedFrom setting (cost + credit + 12) a a.d world_back r.state q.registers state_back
      reached_behind =
          let kept = x.reached.kept in
          let back = x.reached.back in
          record {
            kept = record {
              world = world_behind;
              activation = activation_out setting gave.later (record { from = from_less; stack = gave.stack }) refl (λ m s e. refl) kept.activation;
              registers = record { count = kept.registers.count ∙ h.register_count; same = λ i low none. kept.registers.same i low none ∙ h.same i low };
            };
            back = record {
              control = record {
                current = λ m e. says_again current_address m (omega arith) back.control.current e;
                link = λ m e. says_again link_address m (omega arith) back.control.link e;
                handlers = λ m e. says_again handlers_address m (omega arith) back.control.handlers e;
                bindings = λ m e. says_again bindings_address m (omega arith) back.control.bindings e;
              };
              blocks = refl;
              charged =
                  let since = from_then in let from = from_back in let inside = stack_inside in
                  omega (arith, back.charged, since, from, inside, inner_stands.room, inner_stands.aligned, h.heap_to, outer_stands.room, outer_stands.aligned);
              paid = omega (arith, back.paid, h.paid);
            };
          }

      fell_closes : (c : Context) (word : ℕ) → given_back c word q ≡ ends falls q.registers state_back
      unfolding mid_go_on landed
      fell_closes c word =
          ap (λ o. landed (length a.y.arena.blocks) (run_landing (length a.y.arena.blocks) word (λ g v. exec c no_step g v)) o)
          (go_on_falls q (λ g v. jumped (give_back (length a.y.arena.blocks) g v)) x.end
          ∙ jumped_falls (gives_back (record_of count) a.y.arena.blocks q.registers q.state blocks_then refl))

    -- ---- a transfer left it

    module _ {r : FlatEvaluated} {q : MidOutcome} (x : Left setting credit a.rs a.valid a.s a.d w1 a.env a.around a.z regs y r q) where
      abbrev moved : Transfers setting credit a.rs a.valid w1 a.around a.z y r q
      moved = x.transfer

      abbrev passed : WorldKept setting w1 moved.w' a.z r.state y q.state
      passed = moved.world

      to_in : IsIn moved.to a.rs
      to_in = first_stop_in moved.target.address a.rs moved.to moved.outer moved.stop

      to_stands : RecordAt a.w a.y moved.to
      to_stands = around_there.records moved.to to_in

      found_outer : IsFound (length a.y.arena.memory) moved.to.address a.y.arena.blocks to_stands.block.blocks
      found_outer = found_block (length a.y.arena.memory) moved.to.address a.y.arena.blocks to_stands.block.blocks to_stands.block.found

      to_high : stack_from a.y.arena + 8 ≤ moved.to.address
      to_high = omega (arith, found_outer.here, found_outer.fewer_words)

      found_again : blocks_from (length y.arena.memory) y.arena.blocks moved.to.address ≡ blocks_from (length a.y.arena.memory) a.y.arena.blocks moved.to.address
      found_again =
          ap (λ m. blocks_from m y.arena.blocks moved.to.address) size ∙ ap (λ l. blocks_from (length a.y.arena.memory) l moved.to.address) h.blocks
          ∙ ap (λ b. if b then Some (record_of count ∷ a.y.arena.blocks) else blocks_from (length a.y.arena.memory) a.y.arena.blocks moved.to.address)
          (ne_eqb _ _ other)
        where
          other : lent_from (length a.y.arena.memory) (record_of count ∷ a.y.arena.blocks) ≡ moved.to.address → ⊥
          other e =
              let below = room_below (count + 2) outer_stands h.room in
              let high = to_high in
              omega (arith, e, high, below, outer_stands.blocks)

      blocks_outer : blocks_from (length a.y.arena.memory) a.y.arena.blocks moved.to.address ≡ Some q.state.arena.blocks
      blocks_outer = sym found_again ∙ moved.blocks

      found_then : IsFound (length a.y.arena.memory) moved.to.address a.y.arena.blocks q.state.arena.blocks
      found_then = found_block (length a.y.arena.memory) moved.to.address a.y.arena.blocks q.state.arena.blocks blocks_outer

      not_here : (moved.to.outside == length a.y.arena.blocks) ≡ false
      not_here =
          let one : to_stands.block.blocks ≡ q.state.arena.blocks = cc (to_stands.block.found, blocks_outer) in
          ne_eqb _ _ (λ e. omega (arith, e, to_stands.block.count, ap length one, found_then.fewer))

      left_behind : Left setting (cost + credit + 12) a.rs a.valid a.s a.d a.w a.env a.around a.z a.regs a.y r q
      left_behind = record {
        transfer = record {
          exit_number = moved.exit_number;
          result = moved.result;
          landing = moved.landing;
          outcome = moved.outcome;
          target = moved.target;
          valid_target = moved.valid_target;
          to = moved.to;
          outer = moved.outer;
          stop = moved.stop;
          word = moved.word;
          end = moved.end;
          blocks = blocks_outer;
          w' = moved.w';
          of_value = moved.of_value;
          world = world_both setting h.world passed (λ p low high. let inside = stack_inside in omega (arith, low, inside));
          charged =
              let charged = moved.charged in
              let inside = stack_inside in
              let within = h.begins.call.things.represents.arena in
              omega (arith, charged, inside, h.heap_to, outer_stands.room, outer_stands.aligned, within.room, within.aligned);
          paid = omega (arith, moved.paid, h.paid);
          pending = moved.pending;
          landing_word = moved.landing_word;
          landing_stands = moved.landing_stands;
          landing_is = moved.landing_is;
          lands = moved.lands;
        };
        activation = x.activation;
        registers = record { count = x.registers.count ∙ h.register_count; same = λ i low none. x.registers.same i low none ∙ h.same i low };
      }

      left_closes : (c : Context) (word : ℕ) → given_back c word q ≡ q
      unfolding mid_go_on landed choose_by
      left_closes c word =
          ap (λ o. landed (length a.y.arena.blocks) (run_landing (length a.y.arena.blocks) word (λ g v. exec c no_step g v)) o)
          (go_on_last (cuts moved.to.outside moved.word) q (λ g v. jumped (give_back (length a.y.arena.blocks) g v)) moved.end tt)
          ∙ ap (λ e. landed_from e (length a.y.arena.blocks) (run_landing (length a.y.arena.blocks) word (λ g v. exec c no_step g v)) q) moved.end
          ∙ ap (λ b. choose_by b (run_landing (length a.y.arena.blocks) word (λ g v. exec c no_step g v) moved.word) (ends (cuts moved.to.outside moved.word)) q.registers q.state) not_here
          ∙ ap (λ e. ends e q.registers q.state) (sym moved.end)

    -- ---- it stopped

    stopped_closes : (c : Context) (word : ℕ) (r : FlatEvaluated) (q : MidOutcome) (e : End) → q.end ≡ e → Because setting r e → given_back c word q ≡ q
    unfolding mid_go_on landed
    stopped_closes c word r q e same because = by e same because
      where
        through : (e : End) → q.end ≡ e → IsLast e → landed_from e (length a.y.arena.blocks) (run_landing (length a.y.arena.blocks) word (λ g v. exec c no_step g v)) q ≡ q → given_back c word q ≡ q
        through e same last passes =
            ap (λ o. landed (length a.y.arena.blocks) (run_landing (length a.y.arena.blocks) word (λ g v. exec c no_step g v)) o)
            (go_on_last e q (λ g v. jumped (give_back (length a.y.arena.blocks) g v)) same last)
            ∙ ap (λ x. landed_from x (length a.y.arena.blocks) (run_landing (length a.y.arena.blocks) word (λ g v. exec c no_step g v)) q) same ∙ passes

        by : (e : End) → q.end ≡ e → Because setting r e → given_back c word q ≡ q
        by (no_room asked left_then) same k = through (no_room asked left_then) same tt refl
        by no_level same k = through no_level same tt refl
        by exhausted same k = through exhausted same tt refl
        by falls same k = absurd k
        by (returns v) same k = absurd k
        by (cuts m v) same k = absurd k
        by no_turn same k = absurd k
        by (halts v) same k = absurd k
        by (unhandled class site condition) same k = absurd k
        by stuck same k = absurd k

    given_grown :
        (c : Context) (word : ℕ) (q : MidOutcome) → ((g : Registers) (v : MidState) → Grown v (exec c no_step g v).state) → Grown q.state (given_back c word q).state
    given_grown c word q none =
        landed_grown (length a.y.arena.blocks) (run_landing (length a.y.arena.blocks) word (λ g v. exec c no_step g v)) _ q.state
        (go_on_grown q (λ g v. jumped (give_back (length a.y.arena.blocks) g v)) q.state (same_grown q.state) (λ g v. after_inside_grown (length a.y.arena.blocks) g v))
        (λ w g v. run_landing_grown (length a.y.arena.blocks) word (λ g v. exec c no_step g v) w g v none)

    -- **the whole**, by what the code inside comes to
    pub laid_ends :
        (c : Context) (word : ℕ) {r : FlatEvaluated} {q : MidOutcome} → ((g : Registers) (v : MidState) → Grown v (exec c no_step g v).state)
        → FormEnds setting credit a.turns a.rs a.valid a.s a.d w1 a.env a.around a.z regs y r q → EndsAt setting (cost + credit + 12) a r (given_back c word q)
    laid_ends c word {r} {q} none (done x) =
        subst (λ o. EndsAt setting (cost + credit + 12) a r o) (sym (fell_closes x c word))
        (done (record {
          result = x.result;
          outcome = x.outcome;
          end = refl;
          w' = world_back x;
          reached = reached_behind x;
          word = x.word;
          in_register = x.in_register;
          of_value = x.of_value;
        }))
    laid_ends c word {r} {q} none (left_by x) = subst (λ o. EndsAt setting (cost + credit + 12) a r o) (sym (left_closes x c word)) (left_by (left_behind x))
    laid_ends c word {r} {q} none (full_there f) =
        let more = given_grown c word q none in
        full_there (record {
          asked = f.asked;
          left_then = f.left_then;
          outcome = f.outcome;
          printed = both_prefix f.printed (record { rest = more.printed.0; is = sym more.printed.1 });
        })
    laid_ends c word {r} {q} none (stopped f) = subst (λ o. EndsAt setting (cost + credit + 12) a r o) (sym (stopped_closes c word r q q.end refl f.because)) (stopped (stopped_before setting (omega (arith, h.paid)) f))
    laid_ends c word {r} {q} none (few_turns f) = few_turns (omega (arith, f, size))
