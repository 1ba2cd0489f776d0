-- What only grows along a run of a flat program, and what stays.
use Rattle.std.specs.Prelude.{◌≡◌, ◌≤◌, ◌<◌, ℕ, List, ◌++◌, length, slice_get}
use Rattle.lang_meaning.specs.Objects.{Object}
use Rattle.lang_meaning.specs.Prefixes.{IsLastOf}
use Rattle.lang_meaning.specs.Laws.{IsLater, MakesNewExits}
use Rattle.flat_language.specs.FlatState.{Captured, FlatState, under}
use Rattle.flat_laws.specs.Blanks.{blank}

-- what functions captured, from a store on: of new functions more is known, and of those that were there the same
pub record MakesNewFunctions (store : List Object) (before after : List (ℕ × List Captured)) : Type 0 where
  pub new : List (ℕ × List Captured)
  pub kept : after ≡ new ++ before
  pub same : (i : ℕ) → i < length store → under i after ≡ under i before

-- a state later in a run, of the same activation: bytes printed stay, and units, peak, exits and fresh symbols never fall; the
-- input left is the end of what was left; the heap, the store and the variables never shrink; objects stay of their kind and
-- size; and the words of the stack and the slots of the frame are as many as before
pub record FlatLater (before after : FlatState) : Type 0 where
  pub later : IsLater before.state after.state
  pub exits : MakesNewExits before.state after.state
  pub input : IsLastOf after.state.input before.state.input
  pub heap : before.state.heap ≤ after.state.heap
  pub stack : after.state.stack ≡ before.state.stack
  pub store : length before.state.store ≤ length after.state.store
  pub objects : (i : ℕ) → i < length before.state.store → blank (slice_get after.state.store i) ≡ blank (slice_get before.state.store i)
  pub variables : length before.state.variables ≤ length after.state.variables
  pub functions : MakesNewFunctions before.state.store before.captured after.captured
  pub frame : length after.frame ≡ length before.frame
