-- The forms that were seen are appended.
use Rattle.std.proofs.Common.{◌≡◌, ◌++◌, take}
use Rattle.front_drafts.specs.Views.{view_parts}
use Rattle.front_profile.specs.RowWords.{each_below}
use Rattle.front_drafts.proofs.plan.push_below.Given as goal

abbrev pub invariant-loop-item : goal.invariant-loop-item
invariant-loop-item l = view_parts l.parts ≡ view_parts l.fn.parts ++ each_below (take l.item-index l.items)
