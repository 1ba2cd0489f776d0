-- What a cut leaves: bindings in blocks that ended are gone.
use Rattle.std.specs.Prelude.{◌≡◌, ℕ, nat_le, List, [], ◌∷◌, length, Some, if◌then◌else◌}
use Rattle.mid_code.specs.Arena.{Block, begin_of, blocks_from, with_blocks}
use Rattle.mid_code.specs.State.{MidState}
use Rattle.back_relation.specs.Worlds.{World, BoxPlace, on_heap, on_stack, gone}
use Rattle.back_relation.specs.StackWords.{StackKept}

abbrev pub box_cut : (from : ℕ) → BoxPlace → BoxPlace
box_cut from (on_heap a) = on_heap a
box_cut from (on_stack a) = if nat_le from a then on_stack a else gone
box_cut from gone = gone

abbrev pub boxes_cut : (from : ℕ) → List BoxPlace → List BoxPlace
boxes_cut from [] = []
boxes_cut from (b ∷ bs) = box_cut from b ∷ boxes_cut from bs

abbrev pub world_cut : (from : ℕ) → World → World
world_cut from w = record w { boxes = boxes_cut from w.boxes }

-- plain words of the stack that still stands are as they were, and bindings there stand
abbrev pub LawOfCuts : Type 0
LawOfCuts =
    (w : World) (y : MidState) (address : ℕ) (blocks : List Block) → blocks_from (length y.arena.memory) y.arena.blocks address ≡ Some blocks
    → StackKept w (world_cut (begin_of (length y.arena.memory) blocks) w) y (record y { arena = with_blocks blocks y.arena })
