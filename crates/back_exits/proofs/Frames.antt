-- What stands where the frame of a routine was laid, a control word of transfers stored, or blocks ended by a cut.
use Rattle.std.proofs.Common.{◌≡◌, ℕ, ◌+◌, ◌*◌, ◌<◌, ◌≤◌, Bool, true, false, List, [], ◌∷◌, ◌++◌, length, Some, ap, ◌∙◌, arith}
use Rattle.std.specs.Prelude.{slice_get, ◌==◌, ◌%◌, ◌&&◌, if◌then◌else◌}
use Rattle.flat_language.specs.FlatState.{FlatState}
use Rattle.mid_code.specs.Arena.{Arena, Block, is_open, stack_from, lent_from, blocks_from, word_at}
use Rattle.mid_code.specs.State.{MidState}
use Rattle.mid_arena.specs.Places.{Spot, end_of, of_other}
use Rattle.mid_arena.specs.Standing.{SpotStands, IsLentPart, of_laid, of_heap}
use Rattle.mid_arena.specs.Growing.{Changes}
use Rattle.mid_arena.specs.Law.{SameStreams}
use Rattle.mid_arena.proofs.FixedChanges.{one_word}
use Rattle.mid_arena.proofs.Growing.{changes_part, spot_below}
use Rattle.back_lowering.specs.ControlWords.{control_address, control_words, serials_address, current_address, link_address, handlers_address, bindings_address, end_address}
use Rattle.back_lowering.specs.Placement.{global_address, dynamic_address}
use Rattle.back_relation.specs.Setting.{Setting, control_spot}
use Rattle.back_relation.specs.Placed.{IsPlaced}
use Rattle.back_relation.specs.Worlds.{World, BoxPlace, on_heap, on_stack, gone}
use Rattle.back_relation.specs.StackWords.{StackKept, HasWordAt}
use Rattle.back_relation.specs.Things.{Things}
use Rattle.back_relation.specs.Ends.{WorldKept, ControlBack}
use Rattle.back_relation.specs.Cuts.{boxes_cut, world_cut}
use Rattle.back_relation.proofs.Cuts.{later_cut}
use Rattle.back_relation.proofs.Boxes.{cut_count, heap_was, stack_above, stack_stays}
use Rattle.back_exits.specs.Going.{BoxWas, GoesOn}
use Rattle.back_exits.proofs.Moving.{things_go_on}

-- ---- words

-- the blocks from a record on are an outer part
pub found_outer : (n a : ℕ) (bs cs : List Block) → blocks_from n bs a ≡ Some cs → (inner : List Block) × (bs ≡ inner ++ cs)
found_outer n a [] cs f = absurd (cc f)
found_outer n a (b ∷ bs) cs f = by (is_open b.kind && (lent_from n (b ∷ bs) == a)) f (λ g. found_outer n a bs cs g)
  where
    by : (t : Bool) → (if t then Some (b ∷ bs) else blocks_from n bs a) ≡ Some cs → (blocks_from n bs a ≡ Some cs → (inner : List Block) × (bs ≡ inner ++ cs))
        → (inner : List Block) × (b ∷ bs ≡ inner ++ cs)
    by true g inner = let all : b ∷ bs ≡ cs = cc g in ([], all)
    by false g inner = let rest = inner g in (b ∷ rest.0, ap (λ l. b ∷ l) rest.1)

-- one word of a spot stands
pub one_stands : {a : Arena} {s : Spot} (x : ℕ) → SpotStands a s → x % 4 ≡ 0 → s.address ≤ x → x + 4 ≤ end_of s → SpotStands a (one_word x)
one_stands {a} {s} x stands e low high = record { aligned = e; some = omega arith; tag = omega arith; part = by stands.part }
  where
    by : IsLentPart a s → IsLentPart a (one_word x)
    by (of_laid g h) = of_laid (omega arith) (omega arith)
    by (of_heap g h) = of_heap (omega arith) (omega arith)

-- the memory has the fixed words and the control words
pub memory_holds : (setting : Setting) {w : World} {z : FlatState} {y : MidState} → Things setting w z y → 55 ≤ length y.arena.memory
memory_holds setting {w} {z} {y} t =
    let low = spot_below t.represents.arena (t.represents.spots (of_other 1) (control_spot setting) t.control) in
    let high = t.represents.arena.room in
    omega (arith, low, high)

-- a word that transfers store: of the target, or of the landing
pub record IsOfTransfer (skip : ℕ) : Type 0 where
  pub aligned : skip % 4 ≡ 0
  pub low : control_address + 12 ≤ skip
  pub high : skip ≤ control_address + 16

-- all words but that one are as they were, but in blocks that were laid, or ended
pub record Touched (skip : ℕ) (y y' : MidState) : Type 0 where
  pub changes : Changes (one_word skip) y.arena y'.arena
  pub streams : SameStreams y y'
  pub size : length y'.arena.memory ≡ length y.arena.memory

module _ (setting : Setting) (placed : IsPlaced setting) {skip : ℕ} {w : World} {z : FlatState} {y y' : MidState} (of_transfer : IsOfTransfer skip) (t : Things setting w z y) (g : Touched skip y y') where
  spot_ends : control_address + 4 * (control_words + setting.variable_words) ≤ y.arena.heap_to
  spot_ends = spot_below t.represents.arena (t.represents.spots (of_other 1) (control_spot setting) t.control)

  in_front : (x : ℕ) → x < control_address + 12 → word_at y'.arena x ≡ word_at y.arena x
  in_front x h = let low = of_transfer.low in g.changes.before x (omega arith)

  behind : (x : ℕ) → control_address + 20 ≤ x → x < control_address + 4 * (control_words + setting.variable_words) → word_at y'.arena x ≡ word_at y.arena x
  behind x low high = let last = of_transfer.high in g.changes.after x (omega arith) (omega (arith, high, spot_ends))

  pub word_in_front : (x n : ℕ) → x < control_address + 12 → HasWordAt y x n → HasWordAt y' x n
  word_in_front x n h e = in_front x h ∙ e

  pub word_behind : (x n : ℕ) → control_address + 20 ≤ x → x < control_address + 36 → HasWordAt y x n → HasWordAt y' x n
  word_behind x n low high e = behind x low (omega arith) ∙ e

  pub control_touched : ControlBack y y'
  control_touched = record {
    current = λ n e. word_in_front current_address n (omega arith) e;
    link = λ n e. word_in_front link_address n (omega arith) e;
    handlers = λ n e. word_behind handlers_address n (omega arith) (omega arith) e;
    bindings = λ n e. word_behind bindings_address n (omega arith) (omega arith) e;
  }

  module _ (from : ℕ) (above : stack_from y.arena ≤ from) (above' : stack_from y'.arena ≤ from) (least : (a : ℕ) → stack_from y.arena ≤ a → stack_from y'.arena ≤ a → from ≤ a) where
    abbrev pub w' : World
    w' = world_cut from w

    box_was : (i : ℕ) (b : BoxPlace) → slice_get (boxes_cut from w.boxes) i ≡ Some b → BoxWas w y.arena y'.arena i b
    box_was i (on_heap x) e = heap_was from i x w.boxes e
    box_was i (on_stack x) e =
        let low = stack_above from i x w.boxes e in
        ((later_cut from w).none_new i x e, g.changes.stack x (omega (arith, low, above)) (omega (arith, low, above')))
    box_was i gone e = tt

    goes_on : GoesOn setting w (boxes_cut from w.boxes) w.exit_forms z.state.exits y y'
    goes_on = record {
      changes = let low = of_transfer.low in let high = of_transfer.high in changes_part (control_spot setting) (one_word skip) y.arena y'.arena (omega arith) (omega arith) g.changes;
      streams = g.streams;
      globals = λ n has. behind (global_address setting.at n) (omega (arith, has)) (placed.globals.there n has).below;
      dynamics = λ n has. behind (dynamic_address setting.at n) (omega (arith, has)) (placed.dynamics.there n has).below;
      serials = (t.serials.0, word_in_front serials_address t.serials.0 (omega arith) t.serials.1, t.serials.2, t.serials.3);
      box_count = cut_count from w.boxes;
      boxes_were = box_was;
      boxes_kept = λ i a e. (later_cut from w).boxes i a e;
      form_count = t.exit_forms;
      forms_kept = λ e o h. h;
    }

    -- **all things stand**
    pub things_touched : Things setting w' z y'
    things_touched = things_go_on setting z.state.made t goes_on

    stack_kept : StackKept w w' y y'
    stack_kept = record {
      words = λ x low high plain. g.changes.stack x low high;
      bindings = λ i a e low high. stack_stays from i a w.boxes e (least a low high);
    }

    pub world_touched : WorldKept setting w w' z z y y'
    world_touched = record {
      later = later_cut from w;
      things = things_touched;
      stack = stack_kept;
      end = λ n e. word_behind end_address n (omega arith) (omega arith) e;
      more_exits = omega arith;
      same_size = g.size;
    }
