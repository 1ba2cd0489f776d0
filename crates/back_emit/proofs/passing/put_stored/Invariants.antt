-- As many arguments are in their words as were looked at.
use Rattle.std.proofs.Common.{◌≡◌, ◌++◌, map, take}
use Rattle.back_places.specs.Passing.{stored_code}
use Rattle.back_allocation.specs.Places.{place_at}
use Rattle.back_emit.specs.Ways.{way_of}
use Rattle.back_emit.proofs.passing.put_stored.Given as goal

abbrev pub invariant-loop-i : goal.invariant-loop-i
invariant-loop-i l = l.code ≡ l.fn.code ++ stored_code l.words_at (way_of l.way) 0 (map (place_at l.places) (take l.i l.arguments))
