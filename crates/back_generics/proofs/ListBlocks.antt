-- **A block that is lent to a call in a routine**: what stands inside it, how transfers pass out of it, and where it is given back.
use Rattle.std.proofs.Common.{◌≡◌, ℕ, ◌+◌, ◌*◌, ◌/◌, ◌<◌, ◌≤◌, true, List, [], ◌∷◌, length, Some, refl, sym, ap, ◌∙◌, subst, arith}
use Rattle.std.specs.Prelude.{◌%◌, slice_set}
use Rattle.std.proofs.lemmas.Bool.{le-leb, lt-ltb, eq-eqb, and_from, or_left, or_right}
use Rattle.lang_meaning.specs.Prefixes.{IsPrefix}
use Rattle.lang_meaning.specs.State.{DynamicContext}
use Rattle.flat_language.specs.FlatState.{FlatState, FlatEvaluated}
use Rattle.mid_code.specs.Arena.{Arena, lent_block, begin_of, lent_from, left, stack_from, words_of, blocks_from, word_at, is_within, is_lent, with_blocks, with_new_block}
use Rattle.mid_code.specs.Law.{Grown}
use Rattle.mid_code.specs.Meaning.{Context, give_back, exec}
use Rattle.mid_code.specs.Meaning.{called as mid_called}
use Rattle.mid_code.specs.MidCode.{return_word, code_of}
use Rattle.mid_code.specs.State.{Registers, falls, returns, MidState, MidOutcome, Next, ends, with_arena}
use Rattle.mid_code.specs.State.{charged as mid_charged, go_on as mid_go_on}
use Rattle.mid_code.proofs.Growth.{length-emptied, go_on_grown, same_grown}
use Rattle.mid_arena.specs.Growing.{Grows}
use Rattle.mid_arena.specs.Places.{of_other}
use Rattle.mid_arena.specs.Standing.{ArenaStands}
use Rattle.mid_arena.proofs.Growing.{spot_below}
use Rattle.mid_arena.proofs.Memory.{room_below, grows_with_blocks}
use Rattle.mid_arena.proofs.Registers.{register_here}
use Rattle.mid_arena.proofs.Running.{RunsTo, and_ends, return_ends}
use Rattle.back_lowering.specs.ControlWords.{serials_address, current_address, link_address, handlers_address, bindings_address, end_address}
use Rattle.back_relation.specs.Setting.{Setting, control_spot}
use Rattle.back_relation.specs.Placed.{IsPlaced}
use Rattle.back_relation.specs.StackWords.{HasWordAt}
use Rattle.back_relation.specs.Worlds.{World, Standing}
use Rattle.back_relation.specs.Ends.{ControlBack, WorldKept, Transfers, Because, done, left_by, full_there, stopped, few_turns, Returned, CallEnds}
use Rattle.back_relation.specs.Cuts.{boxes_cut}
use Rattle.back_relation.proofs.Growth.{both_prefix}
use Rattle.back_relation.proofs.Parts.{IsLast, go_on_falls, go_on_last}
use Rattle.back_relation.proofs.Then.{stopped_last}
use Rattle.back_relation.proofs.Worlds.{Deeper}
use Rattle.back_calling.proofs.Formed.{called_state, called_returned, called_cut, called_because, called_costs}
use Rattle.back_exits.specs.Going.{world_with}
use Rattle.back_exits.specs.Touching.{Touched, touched, ExitsMade}
use Rattle.back_exits.proofs.Inside.{world_both}
use Rattle.back_exits.proofs.Steps.{gives_back}
use Rattle.back_exits.proofs.Touching.{world_touched}

-- ---- the words of a block that was lent

module _ (n : ℕ) {a : Arena} (stands : ArenaStands a) (room : n + 2 ≤ left a) where
  abbrev pub block_arena : Arena
  block_arena = with_new_block (lent_block n) a

  abbrev pub block_at : ℕ
  block_at = lent_from (length block_arena.memory) block_arena.blocks

  pub block_size : length block_arena.memory ≡ length a.memory
  block_size = length-emptied _ (lent_block n).words a.memory

  pub block_from : stack_from block_arena + 8 ≡ block_at
  block_from = omega arith

  pub block_to : block_at + 4 * n ≡ stack_from a
  block_to = omega (arith, block_size, room_below (n + 2) stands room)

  pub block_low : a.heap_to + 8 ≤ block_at
  block_low = omega (arith, block_to, room_below (n + 2) stands room)

  pub block_aligned : block_at % 4 ≡ 0
  block_aligned = omega arith

  pub block_lent : (k : ℕ) → k < 4 * n → k % 4 ≡ 0 → is_lent block_arena (block_at + k) ≡ true
  block_lent k few aligned =
      let word : (block_at + k) % 4 ≡ 0 = omega (arith, aligned) in
      let low : block_at ≤ block_at + k = omega arith in
      let high : block_at + k < begin_of (length block_arena.memory) a.blocks = omega (arith, few, block_size, block_to) in
      let inside : is_within block_at (begin_of (length block_arena.memory) a.blocks) (block_at + k) ≡ true =
      and_from _ _ (le-leb block_at (block_at + k) low) (lt-ltb (block_at + k) (begin_of (length block_arena.memory) a.blocks) high) in
      and_from _ _ (eq-eqb ((block_at + k) % 4) 0 word) (or_right _ _ (or_left _ _ inside))

  pub block_there : (k : ℕ) → k < 4 * n → (block_at + k) / 4 < length block_arena.memory
  block_there k few = omega (arith, few, block_size, block_to)

-- ---- what stands inside

module _ (setting : Setting) where
  -- a block of so many words was lent, and nothing was taken or given back
  pub record Opened (n : ℕ) (w w1 : World) (z : FlatState) (y y1 : MidState) : Type 0 where
    pub room : n + 2 ≤ left y.arena
    pub stands : ArenaStands y.arena
    pub world : WorldKept setting w w1 z z y y1
    pub blocks : y1.arena.blocks ≡ lent_block n ∷ y.arena.blocks
    pub heap_to : y1.arena.heap_to ≡ y.arena.heap_to
    pub control : ControlBack y y1

  module _ {n : ℕ} {w w1 : World} {z : FlatState} {y y1 : MidState} (o : Opened n w w1 z y y1) where
    abbrev pub at : ℕ
    at = block_at n o.stands o.room

    pub at_from : stack_from y1.arena + 8 ≡ at
    at_from =
        let same = o.world.same_size in
        let size = block_size n o.stands o.room in
        let from = block_from n o.stands o.room in
        let here : stack_from y1.arena ≡ begin_of (length y1.arena.memory) (lent_block n ∷ y.arena.blocks) = ap (begin_of (length y1.arena.memory)) o.blocks in
        omega (arith, same, size, from, here)

    pub at_to : at + 4 * n ≡ stack_from y.arena
    at_to = block_to n o.stands o.room

    pub words_left : left y1.arena + (n + 2) ≡ left y.arena
    words_left =
        let from = at_from in
        let to = at_to in
        let low = block_low n o.stands o.room in
        let same = o.heap_to in
        omega (arith, from, to, low, same)

    found_outside : (p : ℕ) → blocks_from (length y1.arena.memory) y1.arena.blocks p ≡ blocks_from (length y.arena.memory) y.arena.blocks p
    found_outside p = ap (λ m. blocks_from m y1.arena.blocks p) o.world.same_size ∙ ap (λ bs. blocks_from (length y.arena.memory) bs p) o.blocks

    -- what stood stands, one block deeper
    pub deeper : Deeper w w1 y y1
    deeper = record {
      from = let from = at_from in let to = at_to in omega (arith, from, to);
      size = o.world.same_size;
      blocks = λ p bs low found. found_outside p ∙ found;
      stack = o.world.stack;
    }

    -- **a transfer passes out of it**
    transfer_out :
        {rs valid : List Standing} {around : DynamicContext} {c1 c2 : ℕ} {r : FlatEvaluated} {q : MidOutcome} (x : Transfers setting c1 rs valid w1 around z y1 r q) (regs : Registers) → y1.cost + c1 ≤ y.cost + c2
        → Transfers setting c2 rs valid w around z y r (ends q.end regs q.state)
    transfer_out x regs enough = record {
      exit_number = x.exit_number;
      result = x.result;
      landing = x.landing;
      outcome = x.outcome;
      target = x.target;
      valid_target = x.valid_target;
      to = x.to;
      outer = x.outer;
      stop = x.stop;
      word = x.word;
      end = x.end;
      blocks = sym (found_outside x.to.address) ∙ x.blocks;
      w' = x.w';
      of_value = x.of_value;
      world = world_both setting o.world x.world (λ a low high. let from = deeper.from in omega (arith, low, from));
      charged =
          let charged = x.charged in
          let fewer = words_left in
          let from = at_from in
          let to = at_to in
          omega (arith, charged, fewer, from, to);
      paid = let paid = x.paid in omega (arith, paid, enough);
      pending = x.pending;
      landing_word = x.landing_word;
      landing_stands = x.landing_stands;
      landing_is = x.landing_is;
      lands = x.lands;
    }

    module _ (placed : IsPlaced setting) {c1 : ℕ} {r : FlatEvaluated} {q : MidOutcome} (x : Returned setting c1 w1 z y1 r q) where
      abbrev arena_back : Arena
      arena_back = with_blocks y.arena.blocks q.state.arena

      abbrev state_back : MidState
      state_back = touched [] arena_back (q.state.cost + 10 + 14) q.state

      abbrev world_back : World
      world_back = world_with (boxes_cut (stack_from arena_back) x.w'.boxes) x.w'.exit_forms x.w'

      stands : ArenaStands q.state.arena
      stands = x.world.things.represents.arena

      blocks_then : q.state.arena.blocks ≡ lent_block n ∷ y.arena.blocks
      blocks_then = x.back.blocks ∙ o.blocks

      grows : Grows q.state.arena arena_back
      grows = grows_with_blocks (lent_block n ∷ []) y.arena.blocks stands blocks_then

      from_before : stack_from q.state.arena ≤ stack_from arena_back
      from_before =
          let same : stack_from q.state.arena ≡ begin_of (length q.state.arena.memory) (lent_block n ∷ y.arena.blocks) = ap (begin_of (length q.state.arena.memory)) blocks_then in
          omega (arith, same)

      gives : Touched q.state.arena arena_back [] (stack_from arena_back)
      gives = record {
        grows = grows;
        from = q.state.arena.heap_to;
        to = q.state.arena.heap_to;
        touches = tt;
        low = omega arith;
        high = stands.room;
        before = from_before;
        after = omega arith;
        least = λ p low high. high;
      }

      control_below : end_address < q.state.arena.heap_to
      control_below = let low = spot_below stands (x.world.things.represents.spots (of_other 1) (control_spot setting) x.world.things.control) in omega (arith, low)

      control_stays : (p : ℕ) → p ≤ end_address → word_at state_back.arena p ≡ word_at q.state.arena p
      control_stays p low = grows.words p (let below = control_below in omega (arith, low, below))

      made : ExitsMade x.w' r.state x.w'.exit_forms r.state.state.exits arena_back
      made =
          let s = x.world.things.serials in
          record {
            drawn = s.0;
            word = control_stays serials_address (omega arith) ∙ s.1;
            count = s.2;
            low = s.3;
            more = omega arith;
            form_count = x.world.things.exit_forms;
            forms_kept = λ e o f. f;
          }

      gave : WorldKept setting x.w' world_back r.state r.state q.state state_back
      gave = world_touched setting (q.state.cost + 10 + 14) r.state.state.made placed x.world.things gives made

      world_given : WorldKept setting w world_back z r.state y state_back
      world_given =
          world_both setting (world_both setting o.world x.world (λ p low high. let from = deeper.from in omega (arith, low, from))) gave
          (λ p low high. let from = from_before in omega (arith, high, from))

      says_again : (p m : ℕ) → p ≤ end_address → (HasWordAt y p m → HasWordAt y1 p m) → (HasWordAt y1 p m → HasWordAt q.state p m) → HasWordAt y p m → HasWordAt state_back p m
      says_again p m low first second e = control_stays p low ∙ second (first e)

      returned_out : (regs : Registers) (credit : ℕ) → y1.cost + c1 + 24 ≤ y.cost + credit → Returned setting credit w z y r (ends (returns x.word) regs state_back)
      returned_out regs credit enough = record {
        result = x.result;
        outcome = x.outcome;
        word = x.word;
        end = refl;
        w' = world_back;
        world = world_given;
        back = record {
          control = record {
            current = λ m e. says_again current_address m (omega arith) (o.control.current m) (x.back.control.current m) e;
            link = λ m e. says_again link_address m (omega arith) (o.control.link m) (x.back.control.link m) e;
            handlers = λ m e. says_again handlers_address m (omega arith) (o.control.handlers m) (x.back.control.handlers m) e;
            bindings = λ m e. says_again bindings_address m (omega arith) (o.control.bindings m) (x.back.control.bindings m) e;
          };
          blocks = refl;
          charged =
              let charged = x.back.charged in
              let size = x.world.same_size ∙ o.world.same_size in
              let room = stands.room in
              let fits = stands.blocks in
              let before : words_of q.state.arena.blocks ≡ words_of (lent_block n ∷ y.arena.blocks) = ap words_of blocks_then in
              let fewer = words_left in
              omega (arith, charged, size, room, fits, before, fewer);
          paid = let paid = x.back.paid in omega (arith, paid, enough);
        };
        of_value = x.of_value;
        frame = x.frame;
      }

    -- **the whole**, by what the call inside comes to: the block is given back, and the word is returned
    module _ (c : Context) (t : ℕ) (regs : Registers) (there : t < length regs) where
      abbrev returns_it : Next
      returns_it g v = exec c (code_of (return_word t ∷ [])) g v

      abbrev pub given_back : MidOutcome → MidOutcome
      given_back q = mid_go_on (mid_go_on (mid_called q t regs) (λ g v. give_back (length y.arena.blocks) g v)) returns_it

      pub block_ends :
          (placed : IsPlaced setting) {c1 m : ℕ} (credit : ℕ) {rs valid : List Standing} {around : DynamicContext} {r : FlatEvaluated} (q : MidOutcome) → y1.cost + c1 + 24 ≤ y.cost + credit
          → ((g : Registers) (v : MidState) → Grown v (give_back (length y.arena.blocks) g v).state) → ((g : Registers) (v : MidState) → Grown v (returns_it g v).state)
          → CallEnds setting c1 m rs valid w1 around z y1 r q → CallEnds setting credit m rs valid w around z y r (given_back q)
      block_ends placed {c1} {m} credit {rs} {valid} {around} {r} q enough give_grows return_grows e = by e
        where
          passes : IsLast (mid_called q t regs).end → given_back q ≡ mid_called q t regs
          passes last =
              ap (λ o. mid_go_on o returns_it) (go_on_last (mid_called q t regs).end (mid_called q t regs) (λ g v. give_back (length y.arena.blocks) g v) refl last)
              ∙ go_on_last (mid_called q t regs).end (mid_called q t regs) returns_it refl last

          by : CallEnds setting c1 m rs valid w1 around z y1 r q → CallEnds setting credit m rs valid w around z y r (given_back q)
          by (done x) =
              let regs' : Registers = slice_set regs t (Some x.word) in
              let back : MidState = with_arena (with_blocks y.arena.blocks q.state.arena) (mid_charged 10 q.state) in
              let run : RunsTo c (code_of (return_word t ∷ [])) regs' back (ends (returns x.word) regs' (mid_charged 14 back)) = and_ends tt (return_ends (register_here regs t x.word there)) in
              subst (λ o. CallEnds setting credit m rs valid w around z y r o)
              (sym
              (ap (λ o. mid_go_on (mid_go_on o (λ g v. give_back (length y.arena.blocks) g v)) returns_it) (called_returned q t regs x.end)
              ∙ ap (λ o. mid_go_on o returns_it)
              (go_on_falls (ends falls regs' q.state) (λ g v. give_back (length y.arena.blocks) g v) refl ∙ gives_back (lent_block n) y.arena.blocks regs' q.state (x.back.blocks ∙ o.blocks) refl)
              ∙ go_on_falls (ends falls regs' back) returns_it refl ∙ run.same))
              (done (returned_out placed x regs' credit enough))
          by (left_by x) =
              let same = called_cut q t regs x.transfer.end in
              subst (λ o. CallEnds setting credit m rs valid w around z y r o) (sym (passes (subst (λ o. IsLast o.end) (sym same) (subst (λ k. IsLast k) (sym x.transfer.end) tt)) ∙ same))
              (left_by (record { transfer = transfer_out x.transfer regs (omega (arith, enough)); frame = x.frame }))
          by (full_there x) =
              let grown : Grown (mid_called q t regs).state (given_back q).state =
              go_on_grown (mid_go_on (mid_called q t regs) (λ g v. give_back (length y.arena.blocks) g v)) returns_it (mid_called q t regs).state
              (go_on_grown (mid_called q t regs) (λ g v. give_back (length y.arena.blocks) g v) (mid_called q t regs).state (same_grown (mid_called q t regs).state) give_grows) return_grows in
              full_there (record {
                asked = x.asked;
                left_then = x.left_then;
                outcome = x.outcome;
                printed = both_prefix (subst (λ (s : MidState). IsPrefix r.state.state.printed s.printed) (sym (called_state q t regs)) x.printed) (record { rest = grown.printed.0; is = sym grown.printed.1 });
              })
          by (stopped x) =
              let because : Because setting r (mid_called q t regs).end = called_because setting r q t regs x.because in
              subst (λ o. CallEnds setting credit m rs valid w around z y r o) (sym (passes (stopped_last setting r (mid_called q t regs).end because)))
              (stopped (record {
                because = because;
                printed = subst (λ (s : MidState). IsPrefix s.printed r.state.state.printed) (sym (called_state q t regs)) x.printed;
                paid = λ ended. omega (arith, enough, x.paid ended, called_costs q t regs);
              }))
          by (few_turns x) = few_turns (let size = o.world.same_size in omega (arith, x, size))
