-- Nothing is appended where there is no slot.
use Rattle.std.proofs.lemmas.List.{append-nil}
use Rattle.std.proofs.lemmas.Option.{slice_get_past}
use Rattle.back_leaves.proofs.leaves.slot_from.Goals as goal

pub returns-in-None : goal.returns-in-None
returns-in-None c = simp (slice_get_past c.args.scope.now.slots c.args.slot c.in-None.ensures, append-nil)
