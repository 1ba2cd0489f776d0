use Rattle.std.proofs.Common.{◌≡◌, [], ◌++◌, drop}
use Rattle.back_allocation.specs.StandingLandings.{line_landings}
use Rattle.back_allocation.proofs.landings.landings_of_lines.Given as goal

abbrev pub invariant-loop-at : goal.invariant-loop-at
invariant-loop-at l = l.landings ++ line_landings l.at l.here (drop l.at l.lines) ≡ line_landings 0 [] l.lines
