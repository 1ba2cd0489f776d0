-- Parts lie deeper, and of one form its own turn of the functions falls; loops keep where the walk stands.
use Rattle.std.proofs.Common.{◌≡◌, ◌+◌, ◌++◌, ◌*◌, drop}
use Rattle.front_profile.specs.Sound.{weight}
use Rattle.front_profile.specs.Known.{KnownTables}
use Rattle.front_drafts.specs.Views.{at, view_parts, view_inner}
use Rattle.front_programs.specs.Calls.{Begun}
use Rattle.front_scope.proofs.Walking.{SoFar, InsideSoFar}
use Rattle.front_scope.proofs.judge.+judge.Given as goal

abbrev pub decreases-judge_value : goal.decreases-judge_value
decreases-judge_value g l = 8 * weight l.spot + 8

abbrev pub decreases-judge : goal.decreases-judge
decreases-judge g l = 8 * weight l.spot + 7

abbrev pub decreases-judge_plain : goal.decreases-judge_plain
decreases-judge_plain g l = 8 * weight l.spot + 6

abbrev pub decreases-carry_out : goal.decreases-carry_out
decreases-carry_out g l = 8 * weight l.spot + 5

abbrev pub decreases-judge_all : goal.decreases-judge_all
decreases-judge_all g l = 8 * weight l.spot + 4

abbrev pub decreases-judge_parts : goal.decreases-judge_parts
decreases-judge_parts g l = 8 * weight l.spot + 3

abbrev pub decreases-judge_inner : goal.decreases-judge_inner
decreases-judge_inner g l = 8 * weight l.spot + 3

abbrev pub decreases-judge_part : goal.decreases-judge_part
decreases-judge_part g l = 8 * weight l.spot + 2

abbrev pub decreases-judge_function : goal.decreases-judge_function
decreases-judge_function g l = 8 * weight l.spot + 1

abbrev pub invariant-judge_parts-loop-part : goal.invariant-judge_parts-loop-part
invariant-judge_parts-loop-part g l =
    (l.bound ≡ l.fn.bound)
    × SoFar l.fn.names l.names (weight l.fn.spot) (at l.fn.bound l.spots.outside) (at (l.fn.bound ++ l.fn.binds) l.spots.inside)
    (at (l.fn.bound ++ l.binds) l.spots.inside) l.fn.tables l.tables (view_parts l.parts) (view_parts (drop l.part-index l.parts)) l.found
    × KnownTables l.tables
    × Begun l.tables

abbrev pub invariant-judge_inner-loop-datum : goal.invariant-judge_inner-loop-datum
invariant-judge_inner-loop-datum g l =
    (l.bound ≡ l.fn.bound)
    × InsideSoFar l.fn.names l.names (weight l.fn.spot) (at l.fn.bound l.spots.outside) (at l.fn.bound l.spots.inside) l.fn.tables l.tables
    (view_inner l.inner) (view_inner (drop l.datum-index l.inner)) l.fn.found l.found
    × KnownTables l.tables
    × Begun l.tables
