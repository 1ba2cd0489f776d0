-- **The body of a routine**: where it begins, in a frame of its own, and what the call comes to behind it.
use Rattle.std.proofs.Common.{◌≡◌, ℕ, ◌+◌, ◌*◌, ◌<◌, ◌≤◌, List, [], ◌∷◌, length, None, refl, sym, ap, ◌∙◌, subst, arith}
use Rattle.lang_meaning.specs.State.{DynamicContext, Limit, words, unlimited}
use Rattle.lang_meaning.specs.Prefixes.{IsPrefix}
use Rattle.flat_language.specs.FlatState.{FlatState, FlatEvaluated}
use Rattle.mid_code.specs.Arena.{Block, activation_frame, begin_of, stack_from, left, words_of, blocks_from, with_blocks, with_new_block}
use Rattle.mid_code.specs.Meaning.{leaves, left_from}
use Rattle.mid_code.specs.Costs.{entry_cost}
use Rattle.mid_code.specs.State.{End, falls, returns, cuts, no_room, no_level, no_turn, halts, unhandled, exhausted, stuck, ends, with_arena, MidState, MidOutcome}
use Rattle.mid_arena.specs.Places.{of_other}
use Rattle.mid_arena.specs.Standing.{SpotStands}
use Rattle.mid_arena.specs.Growing.{Grows}
use Rattle.mid_arena.proofs.FixedChanges.{one_word}
use Rattle.mid_arena.proofs.Growing.{changes_of_growing, spot_below}
use Rattle.mid_arena.proofs.Memory.{grows_with_new_block, left_with_new_block, grows_with_blocks}
use Rattle.back_lowering.specs.ControlWords.{control_address, target_address, landing_address, site_address, end_address}
use Rattle.back_relation.specs.Setting.{Setting, control_spot}
use Rattle.back_relation.specs.Placed.{IsPlaced}
use Rattle.back_relation.specs.Room.{words_for_handler}
use Rattle.back_relation.specs.Worlds.{World, Later, Standing}
use Rattle.back_relation.specs.StackWords.{HasWordAt}
use Rattle.back_relation.specs.Things.{Things}
use Rattle.back_relation.specs.Around.{AroundStands, RoomFor, CallBegins, SiteStored}
use Rattle.back_relation.specs.Ends.{ControlBack, WorldKept, Around, Transfers, Because, CallEnds, done, left_by, full_there, stopped, few_turns}
use Rattle.back_relation.specs.Cuts.{world_cut}
use Rattle.back_relation.proofs.Cuts.{later_cut}
use Rattle.back_relation.proofs.Stops.{stopped_before}
use Rattle.back_relation.proofs.Worlds.{later_then, plain_later, word_later, Deeper, record_stays, handlers_stay, bindings_stay, links_raise, chain_lower}
use Rattle.back_exits.proofs.Entries.{laid_frame}
use Rattle.back_exits.proofs.Frames.{one_stands, IsOfTransfer, Touched, world_touched, control_touched, word_in_front, word_behind}

abbrev pub frame_block : ℕ → Block
frame_block f = record { words = f; kind = activation_frame }

-- what is around stands under further blocks
pub around_deeper :
    (setting : Setting) {w w' : World} {rs valid : List Standing} {around : DynamicContext} {z z' : FlatState} {y y' : MidState}
    → Later w w' → Deeper w w' y y' → ControlBack y y' → ((n : ℕ) → HasWordAt y end_address n → HasWordAt y' end_address n)
    → z.state.exits ≤ z'.state.exits → AroundStands setting w rs valid around z y → AroundStands setting w' rs valid around z' y'
around_deeper setting {w} {w'} {rs} {valid} {around} {z} {z'} {y} {y'} l h back end more t = record {
  current = t.current;
  link = t.link;
  handlers_cell = t.handlers_cell;
  bindings_cell = t.bindings_cell;
  current_word = back.current t.current t.current_word;
  link_word = back.link t.link t.link_word;
  handlers_word = back.handlers t.handlers_cell t.handlers_word;
  bindings_word = back.bindings t.bindings_cell t.bindings_word;
  chain = chain_lower (stack_from y.arena) (stack_from y'.arena) t.current rs h.from t.chain;
  records = λ r i. record_stays l h r (t.records r i);
  links = links_raise rs t.link z.state.exits z'.state.exits around.exits valid more t.links;
  handlers = handlers_stay l h around.handlers t.handlers_cell t.handlers;
  bindings = bindings_stay l h setting around.bindings t.bindings_cell t.bindings;
  ends_at_end = t.ends_at_end;
  end_record = t.end_record;
  end_valid = t.end_valid;
  end_word = end t.end_record.address t.end_word;
  end_form = l.exit_forms 0 None t.end_form;
  tags_land = λ x v i role tagged. l.exit_forms x.number None (t.tags_land x v i role tagged);
}

module _ (setting : Setting) where
  -- what is kept, one after another
  pub world_both :
      {w w1 w2 : World} {z z1 z2 : FlatState} {y y1 y2 : MidState} → WorldKept setting w w1 z z1 y y1 → WorldKept setting w1 w2 z1 z2 y1 y2
      → ((x : ℕ) → stack_from y.arena ≤ x → stack_from y2.arena ≤ x → stack_from y1.arena ≤ x) → WorldKept setting w w2 z z2 y y2
  world_both g h between = record {
    later = later_then g.later h.later;
    things = h.things;
    stack = record {
      words = λ x low high plain. h.stack.words x (between x low high) high (plain_later x g.later plain) ∙ g.stack.words x low (between x low high) plain;
      bindings = λ i a e low high. h.stack.bindings i a (g.stack.bindings i a e low (between a low high)) (between a low high) high;
    };
    end = λ n e. h.end n (g.end n e);
    more_exits = omega (arith, g.more_exits, h.more_exits);
    same_size = h.same_size ∙ g.same_size;
  }

  pub control_both : {y y1 y2 : MidState} → ControlBack y y1 → ControlBack y1 y2 → ControlBack y y2
  control_both g h = record {
    current = λ n e. h.current n (g.current n e);
    link = λ n e. h.link n (g.link n e);
    handlers = λ n e. h.handlers n (g.handlers n e);
    bindings = λ n e. h.bindings n (g.bindings n e);
  }

-- ---- ends of a body

-- an end that passes out of a procedure
abbrev pub Passes : End → Type 0
Passes falls = ⊥
Passes (returns w) = ⊥
Passes other = Unit {0}

pub leaves_returns : (bs : List Block) (q : MidOutcome) (w : ℕ) → q.end ≡ returns w → leaves bs q ≡ ends (returns w) q.registers (with_arena (with_blocks bs q.state.arena) q.state)
unfolding leaves
leaves_returns bs q w e = ap (λ x. left_from x bs q) e

pub leaves_passes : (bs : List Block) (q : MidOutcome) (e : End) → q.end ≡ e → Passes e → leaves bs q ≡ q
unfolding leaves
leaves_passes bs q falls same h = absurd h
leaves_passes bs q (returns w) same h = absurd h
leaves_passes bs q (cuts n w) same h = ap (λ x. left_from x bs q) same
leaves_passes bs q (no_room asked left_then) same h = ap (λ x. left_from x bs q) same
leaves_passes bs q no_level same h = ap (λ x. left_from x bs q) same
leaves_passes bs q no_turn same h = ap (λ x. left_from x bs q) same
leaves_passes bs q (halts w) same h = ap (λ x. left_from x bs q) same
leaves_passes bs q (unhandled class site condition) same h = ap (λ x. left_from x bs q) same
leaves_passes bs q exhausted same h = ap (λ x. left_from x bs q) same
leaves_passes bs q stuck same h = ap (λ x. left_from x bs q) same

pub leaves_printed : (bs : List Block) (q : MidOutcome) → (leaves bs q).state.printed ≡ q.state.printed
unfolding leaves
leaves_printed bs q = by q.end
  where
    by : (e : End) → (left_from e bs q).state.printed ≡ q.state.printed
    by falls = refl
    by (returns w) = refl
    by (cuts n w) = refl
    by (no_room asked left_then) = refl
    by no_level = refl
    by no_turn = refl
    by (halts w) = refl
    by (unhandled class site condition) = refl
    by exhausted = refl
    by stuck = refl

pub stopped_passes : (setting : Setting) (r : FlatEvaluated) (e : End) → Because setting r e → Passes e
stopped_passes setting r falls h = absurd h
stopped_passes setting r (returns w) h = absurd h
stopped_passes setting r e h = tt

of_target : IsOfTransfer target_address
of_target = record { aligned = refl; low = omega arith; high = omega arith }

pub of_landing : IsOfTransfer landing_address
of_landing = record { aligned = refl; low = omega arith; high = omega arith }

module _ (setting : Setting) (placed : IsPlaced setting) where
  -- ---- points of a body

  -- the world where variables that would stand below the stack are nowhere
  abbrev pub world_of : World → MidState → World
  world_of w y = world_cut (stack_from y.arena) w

  -- the frame is laid
  module _ {w : World} {z : FlatState} {y : MidState} (t : Things setting w z y) (f m : ℕ) (room : f ≤ left y.arena) where
    abbrev y' : MidState
    y' = laid_frame setting f m y

    grown : Grows y.arena (with_new_block (frame_block f) y.arena)
    grown = grows_with_new_block (frame_block f) t.represents.arena room

    laid_lower : stack_from y'.arena ≤ stack_from y.arena
    laid_lower = let size = grown.size in omega (arith, size)

    one_there : SpotStands y.arena (one_word target_address)
    one_there = one_stands target_address (t.represents.spots (of_other 1) (control_spot setting) t.control) refl (omega arith) (omega arith)

    laid_touched : Touched target_address y y'
    laid_touched = record {
      changes = changes_of_growing y.arena (with_new_block (frame_block f) y.arena) (one_word target_address) grown (spot_below t.represents.arena one_there);
      streams = record { printed = refl; input = refl };
      size = grown.size;
    }

    pub laid_world : WorldKept setting w (world_of w y) z z y y'
    laid_world = world_touched setting placed of_target t laid_touched (stack_from y.arena) (omega arith) laid_lower (λ a low high. low)

    pub laid_control : ControlBack y y'
    laid_control = control_touched setting placed of_target t laid_touched

    pub laid_site : (around : DynamicContext) → SiteStored setting around y → SiteStored setting around y'
    laid_site around s = (s.0, word_behind setting placed of_target t laid_touched site_address s.0 (omega arith) (omega arith) s.1, s.2)

    -- words in front of those of transfers are as they were
    pub laid_before : (x n : ℕ) → x < control_address + 12 → HasWordAt y x n → HasWordAt y' x n
    laid_before x n h e = word_in_front setting placed of_target t laid_touched x n h e

    pub laid_left : left y'.arena + f ≡ left y.arena
    laid_left = left_with_new_block (frame_block f) t.represents.arena room

    laid_deeper : Deeper w (world_of w y) y y'
    laid_deeper = record {
      from = laid_lower;
      size = grown.size;
      blocks = λ a bs low found. ap (λ n. blocks_from n y.arena.blocks a) grown.size ∙ found;
      stack = laid_world.stack;
    }

    room_inside : (l : Limit) (n n1 h : ℕ) → f + n1 ≤ n → RoomFor l (n + words_for_handler * h) z.state y → RoomFor l (n1 + words_for_handler * h) z.state y'
    room_inside unlimited n n1 h fewer r = tt
    room_inside (words limit) n n1 h fewer r = let same = laid_left in omega (arith, fewer, r, same)

    -- **where the body begins**
    pub body_begins :
        {rs valid : List Standing} {n : ℕ} {around : DynamicContext} (n1 : ℕ) → f + n1 ≤ n → CallBegins setting rs valid n w around z y
        → CallBegins setting rs valid n1 (world_of w y) around z y'
    body_begins {rs} {valid} {n} {around} n1 fewer b = record {
      things = laid_world.things;
      around_stands = around_deeper setting laid_world.later laid_deeper laid_control laid_world.end (omega arith) b.around_stands;
      room = room_inside setting.limit n n1 (length around.handlers) fewer b.room;
    }

    -- ---- behind the body

    module _ {credit c : ℕ} {rs valid : List Standing} {around : DynamicContext} {r : FlatEvaluated} {q : MidOutcome} (paid : credit + entry_cost m ≤ c) where
      transfer_out : Transfers setting credit rs valid (world_of w y) around z y' r q → Transfers setting c rs valid w around z y r q
      transfer_out x = record {
        exit_number = x.exit_number;
        result = x.result;
        landing = x.landing;
        outcome = x.outcome;
        target = x.target;
        valid_target = x.valid_target;
        to = x.to;
        outer = x.outer;
        stop = x.stop;
        word = x.word;
        end = x.end;
        blocks = ap (λ n. blocks_from n y.arena.blocks x.to.address) (sym grown.size) ∙ x.blocks;
        w' = x.w';
        of_value = x.of_value;
        world = world_both setting laid_world x.world (λ a low high. let l = laid_lower in omega (arith, low, l));
        charged = let less = laid_left in let size = grown.size in omega (arith, x.charged, less, size, room);
        paid = omega (arith, x.paid, paid);
        pending = x.pending;
        landing_word = x.landing_word;
        landing_stands = x.landing_stands;
        landing_is = x.landing_is;
        lands = x.lands;
      }

    -- the frame is given back
    module _ {credit c : ℕ} {w' : World} {z' : FlatState} {x : MidState} (k : WorldKept setting (world_of w y) w' z z' y' x) (a : Around setting credit z z' y' x) (paid : credit + entry_cost m ≤ c) where
      abbrev given : MidState
      given = with_arena (with_blocks y.arena.blocks x.arena) x

      given_grows : Grows x.arena (with_blocks y.arena.blocks x.arena)
      given_grows = grows_with_blocks (frame_block f ∷ []) y.arena.blocks k.things.represents.arena a.blocks

      given_touched : Touched target_address x given
      given_touched = record {
        changes =
            changes_of_growing x.arena (with_blocks y.arena.blocks x.arena) (one_word target_address) given_grows
            (spot_below k.things.represents.arena
            (one_stands target_address (k.things.represents.spots (of_other 1) (control_spot setting) k.things.control) refl (omega arith) (omega arith)));
        streams = record { printed = refl; input = refl };
        size = refl;
      }

      words_same : words_of x.arena.blocks ≡ f + words_of y.arena.blocks
      words_same = ap words_of a.blocks

      sizes : length x.arena.memory ≡ length y.arena.memory
      sizes = k.same_size ∙ grown.size

      abbrev from : ℕ
      from = stack_from y.arena

      back_lower : stack_from x.arena ≤ from
      back_lower = let s = sizes in let e = words_same in omega (arith, s, e)

      back_same : stack_from given.arena ≡ from
      back_same = ap (λ n. begin_of n y.arena.blocks) sizes

      given_world : WorldKept setting w' (world_cut from w') z' z' x given
      given_world =
          let same = back_same in
          world_touched setting placed of_target k.things given_touched from back_lower (omega (arith, same)) (λ a low high. omega (arith, high, same))

      pub returned_world : WorldKept setting w (world_cut from w') z z' y given
      returned_world =
          world_both setting
          (world_both setting laid_world k (λ a low high. let l = laid_lower in omega (arith, low, l)))
          given_world (λ a low high. let l = back_lower in omega (arith, low, l))

      left_given : left given.arena ≡ left x.arena + f
      left_given =
          let s = words_same in
          let stands = k.things.represents.arena in
          let fits = stands.blocks in
          let heap = stands.room in
          omega (arith, s, fits, heap)

      pub returned_around : Around setting c z z' y given
      returned_around = record {
        control = control_both setting (control_both setting laid_control a.control) (control_touched setting placed of_target k.things given_touched);
        blocks = refl;
        charged = let g = left_given in let l = laid_left in omega (arith, g, l, a.charged);
        paid = omega (arith, a.paid, paid);
      }

    -- **what the call comes to behind its body**
    pub body_leaves :
        {credit c turns : ℕ} {rs valid : List Standing} {around : DynamicContext} {r : FlatEvaluated} {q : MidOutcome} → credit + entry_cost m ≤ c
        → CallEnds setting credit turns rs valid (world_of w y) around z y' r q → CallEnds setting c turns rs valid w around z y r (leaves y.arena.blocks q)
    body_leaves {c = c} {turns = turns} {rs = rs} {valid = valid} {around = around} {r = r} {q = q} paid (done x) =
        subst (λ p. CallEnds setting c turns rs valid w around z y r p) (sym (leaves_returns y.arena.blocks q x.word x.end))
        (done (record {
          result = x.result;
          outcome = x.outcome;
          word = x.word;
          end = refl;
          w' = world_cut (stack_from y.arena) x.w';
          world = returned_world x.world x.back paid;
          back = returned_around x.world x.back paid;
          of_value = word_later (later_cut (stack_from y.arena) x.w') x.result x.word x.of_value;
          frame = x.frame;
        }))
    body_leaves {c = c} {turns = turns} {rs = rs} {valid = valid} {around = around} {r = r} {q = q} paid (left_by x) =
        subst (λ p. CallEnds setting c turns rs valid w around z y r p) (sym (leaves_passes y.arena.blocks q _ x.transfer.end tt))
        (left_by (record { transfer = transfer_out paid x.transfer; frame = x.frame }))
    body_leaves {c = c} {turns = turns} {rs = rs} {valid = valid} {around = around} {r = r} {q = q} paid (full_there x) =
        full_there (record {
          asked = x.asked;
          left_then = x.left_then;
          outcome = x.outcome;
          printed = subst (λ (p : List ℕ). IsPrefix r.state.state.printed p) (sym (leaves_printed y.arena.blocks q)) x.printed;
        })
    body_leaves {c = c} {turns = turns} {rs = rs} {valid = valid} {around = around} {r = r} {q = q} paid (stopped x) =
        subst (λ p. CallEnds setting c turns rs valid w around z y r p) (sym (leaves_passes y.arena.blocks q q.end refl (stopped_passes setting r q.end x.because)))
        (stopped (stopped_before setting (omega (arith, paid)) x))
    body_leaves paid (few_turns x) = few_turns (let size = grown.size in omega (arith, x, size))
