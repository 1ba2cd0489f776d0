-- What words say goes on being said where blocks were given back or closed, and of a state of the meaning that has another frame and other words.
use Rattle.std.proofs.Common.{ℕ, ◌≤◌, List, [], refl, ◌∙◌, arith}
use Rattle.flat_language.specs.FlatNodes.{tables}
use Rattle.flat_language.specs.FlatState.{FrameSlot, FlatState}
use Rattle.mid_code.specs.Arena.{Arena, stack_from}
use Rattle.mid_code.specs.State.{MidState}
use Rattle.mid_arena.specs.Growing.{Grows}
use Rattle.mid_arena.specs.Standing.{ArenaStands}
use Rattle.mid_arena.proofs.Growing.{spot_below}
use Rattle.mid_arena.proofs.Representing.{represents_same}
use Rattle.back_lowering.specs.ControlWords.{serials_address}
use Rattle.back_relation.specs.Setting.{Setting}
use Rattle.back_relation.specs.Placed.{IsPlaced}
use Rattle.back_relation.specs.Worlds.{World}
use Rattle.back_relation.specs.Things.{Things, WithinLimit}
use Rattle.back_relation.specs.Ends.{WorldKept}
use Rattle.back_relation.specs.Cuts.{boxes_cut}
use Rattle.back_exits.specs.Going.{world_with}
use Rattle.back_exits.specs.Touching.{Touched, touched, ExitsMade}
use Rattle.back_exits.proofs.Touching.{world_touched}
use Rattle.back_exits.proofs.Words.{control_of}

-- ---- blocks

module _ (setting : Setting) (placed : IsPlaced setting) {w : World} {z : FlatState} {y : MidState} (t : Things setting w z y) (b : Arena) (grows : Grows y.arena b)
    (from : stack_from y.arena ≤ stack_from b) (cost : ℕ) where
  abbrev pub world_outside : World
  world_outside = world_with (boxes_cut (stack_from b) w.boxes) w.exit_forms w

  stands : ArenaStands y.arena
  stands = t.represents.arena

  gives : Touched y.arena b [] (stack_from b)
  gives = record {
    grows = grows;
    from = y.arena.heap_to;
    to = y.arena.heap_to;
    touches = tt;
    low = omega arith;
    high = stands.room;
    before = from;
    after = omega arith;
    least = λ x low high. high;
  }

  made : ExitsMade w z w.exit_forms z.state.exits b
  made =
      let s = t.serials in
      let low = spot_below stands (control_of setting t) in
      record {
        drawn = s.0;
        word = grows.words serials_address (omega (arith, low)) ∙ s.1;
        count = s.2;
        low = s.3;
        more = omega arith;
        form_count = t.exit_forms;
        forms_kept = λ e o f. f;
      }

  pub outside_kept : WorldKept setting w world_outside z z y (touched [] b cost y)
  outside_kept = world_touched setting cost z.state.made placed t gives made

-- ---- the state of the meaning

-- another frame, and other words of the heap and the stack
abbrev pub with_rest : List FrameSlot → (heap stack peak : ℕ) → FlatState → FlatState
with_rest fs heap stack peak z = record z { state = record z.state { heap = heap; stack = stack; peak = peak }; frame = fs }

module _ (setting : Setting) where
  pub things_rest :
      {w : World} {z : FlatState} {y : MidState} (fs : List FrameSlot) (heap stack peak : ℕ) → WithinLimit setting.limit (with_rest fs heap stack peak z).state → Things setting w z y
      → Things setting w (with_rest fs heap stack peak z) y
  things_rest {w} {z} {y} fs heap stack peak within t = record {
    represents = represents_same setting.names (tables setting.program) w.places z.state (with_rest fs heap stack peak z).state y refl refl refl refl t.represents;
    within_limit = within;
    control = t.control;
    further = t.further;
    serials = t.serials;
    globals = t.globals;
    dynamics = t.dynamics;
    literals = t.literals;
    symbols = t.symbols;
    laid_symbols = t.laid_symbols;
    fresh_symbols = t.fresh_symbols;
    box_count = t.box_count;
    boxes_apart = t.boxes_apart;
    boxes = λ i b e. t.boxes i b e;
    methods = t.methods;
    exit_forms = t.exit_forms;
    functions = λ i p s e f. t.functions i p s e f;
    captured = t.captured;
    generics = t.generics;
  }
