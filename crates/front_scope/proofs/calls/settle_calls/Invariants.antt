-- Steps and expansions so far lead to the last datum, and the row grows.
use Rattle.std.proofs.Common.{◌≡◌, ◌-◌}
use Rattle.front_profile.specs.Promises.{settled_datum}
use Rattle.front_profile.specs.Rows.{most_in_row}
use Rattle.front_drafts.specs.Views.{at}
use Rattle.front_scope.proofs.Calling.{Going}
use Rattle.front_scope.proofs.calls.settle_calls.Given as goal

abbrev pub invariant-turns : goal.invariant-turns
invariant-turns g l =
    Going l.initial.names l.names (at l.bound l.fn.spot) l.initial.tables l.datum (at l.bound l.here) l.tables (settled_datum l.found l.datum)
    × (l.here ≡ record l.fn.spot { in_row = l.here.in_row })

abbrev pub decreases-turns : goal.decreases-turns
decreases-turns g l = most_in_row - l.here.in_row
