-- The forms that were seen.
use Rattle.std.proofs.Common.{◌≡◌, take}
use Rattle.front_drafts.specs.Views.{view_inner}
use Rattle.front_profile.specs.RowWords.{each_inner}
use Rattle.front_scope.proofs.functions.inner_forms.Given as goal

abbrev pub invariant-loop-item : goal.invariant-loop-item
invariant-loop-item l = view_inner l.inner ≡ each_inner (take l.item-index l.items)
