-- The frame on top, and those below it.
use Rattle.std.specs.Prelude.{◌≡◌, ℕ, Bool, true, false, List, [], ◌∷◌, ◌++◌, Option, option_to_list, reverse}
use Rattle.eval_machine.specs.Configuration as machine
use Rattle.eval_state.specs.declared.frame.ContinuationFrame.{ContinuationFrame}
use Rattle.eval_state.specs.declared.frame.ContinuationFrame.TheVariants as frame
use Rattle.eval_state.specs.declared.machine.Machine.{Machine}
use Rattle.eval_state.specs.Frames.{operands_of, others_of, activation_below, slots_below, frame_slots, frame_in, frames_in}
use Rattle.eval_state.specs.View.{top}

-- a frame that stands, or stood, above those of a machine
abbrev pub taken : List (List ℕ) → Machine → ContinuationFrame → machine.ContinuationFrame
taken names m w =
    frame_in names m.current (reverse m.frames.items) (top names m (operands_of w)) (frame_slots names (activation_below m.current w) (slots_below m.current m.slots.items w)) w

-- the frames of the machine below it, without its operands and without its activation
abbrev pub below : List (List ℕ) → Machine → ContinuationFrame → List machine.ContinuationFrame
below names m w =
    frames_in names (activation_below m.current w) (others_of (operands_of w) m.operands.items) (slots_below m.current m.slots.items w) (reverse m.frames.items)

-- a frame to which no situation links
abbrev pub IsUnlinked : ContinuationFrame → Bool
IsUnlinked (frame.MainForms level all n) = false
IsUnlinked (frame.Block number exits own) = false
IsUnlinked (frame.Catch number tag exits) = false
IsUnlinked (frame.Signal number c mark exits) = false
IsUnlinked (frame.Tagbody number segments outside) = false
IsUnlinked (frame.Handles w next) = false
IsUnlinked (frame.Binds bs first next) = false
IsUnlinked w = true

-- a frame was pushed
pub record IsAbove (old new : Machine) (w : ContinuationFrame) : Type 0 where
  pub frames : new.frames.items ≡ old.frames.items ++ w ∷ []
  pub same : new ≡ record old { frames = new.frames }

-- the frame on top, if there is one, was taken away
pub record IsPopped (old new : Machine) (top : Option ContinuationFrame) : Type 0 where
  pub frames : old.frames.items ≡ new.frames.items ++ option_to_list top
  pub same : new ≡ record old { frames = new.frames }
