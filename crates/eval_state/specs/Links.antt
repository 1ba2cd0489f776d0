-- Which frame a link means.
use Rattle.std.specs.Prelude.{◌≡◌, ℕ, suc, ◌<◌, ◌≤◌, min, List, Option, Some, None, slice_get}
use Rattle.eval_state.specs.declared.frame.ContinuationFrame.{ContinuationFrame}
use Rattle.eval_state.specs.declared.frame.ContinuationFrame.TheVariants as frame
use Rattle.eval_state.specs.declared.links.LinkKind.{LinkKind}
use Rattle.eval_state.specs.declared.links.LinkKind.TheVariants.{Exits, Own, Handlers, Bindings}

-- the link of a frame to what comes behind it, where it links things of that kind
abbrev pub next_of : LinkKind → ContinuationFrame → Option ℕ
next_of Exits (frame.Block number exits own) = Some exits
next_of Exits (frame.Catch number tag exits) = Some exits
next_of Exits (frame.Signal number c mark exits) = Some exits
next_of Exits (frame.Tagbody number segments outside) = Some outside.around.exits
next_of Exits (frame.MainForms level all at) = Some 0
next_of Exits w = None
next_of Own (frame.Block number exits own) = Some own
next_of Own (frame.Tagbody number segments outside) = Some outside.own
next_of Own w = None
next_of Handlers (frame.Handles h next) = Some next
next_of Handlers w = None
next_of Bindings (frame.Binds bs first next) = Some next
next_of Bindings w = None

-- no frame between two places links things of that kind
abbrev pub IsNoneNearer : LinkKind → List ContinuationFrame → ℕ → ℕ → Type 0
IsNoneNearer kind items low high = (i : ℕ) (w : ContinuationFrame) → low ≤ i → i < high → slice_get items i ≡ Some w → next_of kind w ≡ None

-- the innermost frame, among the first so many, that links things of that kind, and its link, at most its place
pub record IsNearest (kind : LinkKind) (items : List ContinuationFrame) (link : ℕ) (frame : ContinuationFrame) (behind : ℕ) : Type 0 where
  pub place : ℕ
  pub there : slice_get items place ≡ Some frame
  pub below : place < link
  pub next : ℕ
  pub links : next_of kind frame ≡ Some next
  pub capped : behind ≡ min next place
  pub innermost : IsNoneNearer kind items (suc place) link
