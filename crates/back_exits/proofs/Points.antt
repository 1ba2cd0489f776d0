-- From one point of a routine's body to another: a control word of transfers is stored, or nothing but costs; and units are charged.
use Rattle.std.proofs.Common.{◌≡◌, ℕ, ◌+◌, ◌*◌, true, List, length, Some, refl, arith}
use Rattle.std.specs.Prelude.{◌/◌}
use Rattle.std.proofs.Math.ListN.{length-set}
use Rattle.lang_meaning.specs.State.{DynamicContext, Limit, words, unlimited}
use Rattle.flat_language.specs.FlatState.{FlatState, charged}
use Rattle.mid_code.specs.Arena.{is_lent, stack_from, with_word}
use Rattle.mid_code.specs.State.{MidState}
use Rattle.mid_arena.specs.Places.{of_other}
use Rattle.mid_arena.specs.Standing.{SpotStands}
use Rattle.mid_arena.proofs.FixedChanges.{one_word}
use Rattle.mid_arena.proofs.Growing.{changes_of_growing, grows_same, spot_below}
use Rattle.mid_arena.proofs.Memory.{in_spot_lent, in_spot_there, word_here}
use Rattle.mid_arena.proofs.OwnWords.{changes_in_spot}
use Rattle.back_lowering.specs.ControlWords.{landing_address, site_address}
use Rattle.back_relation.specs.Setting.{Setting, control_spot}
use Rattle.back_relation.specs.Placed.{IsPlaced}
use Rattle.back_relation.specs.Room.{words_for_handler}
use Rattle.back_relation.specs.Worlds.{World, Standing}
use Rattle.back_relation.specs.StackWords.{HasWordAt}
use Rattle.back_relation.specs.Things.{Things}
use Rattle.back_relation.specs.Around.{RoomFor, CallBegins, SiteStored}
use Rattle.back_relation.specs.Ends.{WorldKept, Around, ChargedFrom}
use Rattle.back_relation.proofs.Straight.{world_units}
use Rattle.back_relation.proofs.Then.{call_then}
use Rattle.back_exits.proofs.Frames.{one_stands, IsOfTransfer, Touched, world_touched, control_touched, word_behind}
use Rattle.back_exits.proofs.Bodies.{world_of, world_both, of_landing}

module _ (setting : Setting) where
  -- a point that was reached, where so many units were charged
  pub record Moved (u : ℕ) (w w' : World) (z : FlatState) (y y' : MidState) : Type 0 where
    pub world : WorldKept setting w w' z (charged u z) y y'
    pub around : Around setting y'.cost z (charged u z) y y'
    pub site : (a : DynamicContext) → SiteStored setting a y → SiteStored setting a y'

  room_behind : (l : Limit) (n : ℕ) (z z1 : FlatState) (y y1 : MidState) → ChargedFrom z y z1 y1 → RoomFor l n z.state y → RoomFor l n z1.state y1
  room_behind unlimited n z z1 y y1 h r = tt
  room_behind (words m) n z z1 y y1 h r = omega (arith, h, r)

  -- where a call may begin
  pub point_begins :
      {rs valid : List Standing} {n c : ℕ} {w w1 : World} {around : DynamicContext} {z z1 : FlatState} {y y1 : MidState} → WorldKept setting w w1 z z1 y y1 → Around setting c z z1 y y1
      → CallBegins setting rs valid n w around z y → CallBegins setting rs valid n w1 around z1 y1
  point_begins {n = n} {around = around} {z = z} {z1 = z1} {y = y} {y1 = y1} k a b =
      call_then setting k a n b (room_behind setting.limit (n + words_for_handler * length around.handlers) z z1 y y1 a.charged b.room)

module _ (setting : Setting) (placed : IsPlaced setting) {w : World} {z : FlatState} {y : MidState} (t : Things setting w z y) where
  control_there : SpotStands y.arena (control_spot setting)
  control_there = t.represents.spots (of_other 1) (control_spot setting) t.control

  module _ (skip : ℕ) (of_transfer : IsOfTransfer skip) where
    one_there : SpotStands y.arena (one_word skip)
    one_there =
        let low = of_transfer.low in
        let high = of_transfer.high in
        one_stands skip control_there of_transfer.aligned (omega arith) (omega arith)

    module _ (word u : ℕ) (cost : ℕ) where
      abbrev pub stored_state : MidState
      stored_state = record y { arena = with_word skip word y.arena; cost = cost }

      size_same : length stored_state.arena.memory ≡ length y.arena.memory
      size_same = length-set y.arena.memory (skip / 4) (Some word)

      stored_touched : Touched skip y stored_state
      stored_touched = record {
        changes = changes_in_spot skip word t.represents.arena one_there of_transfer.aligned (omega arith) (omega arith);
        streams = record { printed = refl; input = refl };
        size = size_same;
      }

      same_from : stack_from stored_state.arena ≡ stack_from y.arena
      same_from = let s = size_same in omega (arith, s)

      stored_world : WorldKept setting w (world_of setting placed w y) z z y stored_state
      stored_world = let s = same_from in world_touched setting placed of_transfer t stored_touched (stack_from y.arena) (omega arith) (omega (arith, s)) (λ a low high. low)

      pub moved_stored : Moved setting u w (world_of setting placed w y) z y stored_state
      moved_stored = record {
        world = world_both setting stored_world (world_units setting u stored_world.things) (λ a low high. high);
        around = record {
          control = control_touched setting placed of_transfer t stored_touched;
          blocks = refl;
          charged = let s = size_same in omega (arith, s);
          paid = omega arith;
        };
        site = λ a s. (s.0, word_behind setting placed of_transfer t stored_touched site_address s.0 (omega arith) (omega arith) s.1, s.2);
      }

      pub word_stored : HasWordAt stored_state skip word
      word_stored = word_here y.arena skip word (in_spot_lent skip one_there of_transfer.aligned (omega arith) (omega arith)) (in_spot_there skip t.represents.arena one_there (omega arith))

    pub store_lent : is_lent y.arena skip ≡ true
    store_lent = in_spot_lent skip one_there of_transfer.aligned (omega arith) (omega arith)

  module _ (u : ℕ) (cost : ℕ) where
    abbrev pub cost_state : MidState
    cost_state = record y { cost = cost }

    cost_touched : Touched landing_address y cost_state
    cost_touched = record {
      changes = changes_of_growing y.arena y.arena (one_word landing_address) (grows_same y.arena t.represents.arena) (spot_below t.represents.arena (one_there landing_address of_landing));
      streams = record { printed = refl; input = refl };
      size = refl;
    }

    cost_world : WorldKept setting w (world_of setting placed w y) z z y cost_state
    cost_world = world_touched setting placed of_landing t cost_touched (stack_from y.arena) (omega arith) (omega arith) (λ a low high. low)

    pub moved_cost : Moved setting u w (world_of setting placed w y) z y cost_state
    moved_cost = record {
      world = world_both setting cost_world (world_units setting u cost_world.things) (λ a low high. high);
      around = record {
        control = control_touched setting placed of_landing t cost_touched;
        blocks = refl;
        charged = omega arith;
        paid = omega arith;
      };
      site = λ a s. s;
    }
