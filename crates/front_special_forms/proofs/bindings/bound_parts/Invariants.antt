-- The bindings that were seen.
use Rattle.std.proofs.Common.{◌≡◌, take}
use Rattle.front_drafts.specs.Views.{view_parts}
use Rattle.front_syntax.specs.Views.{view_pairs}
use Rattle.front_profile.specs.RowWords.{each_bound}
use Rattle.front_special_forms.proofs.bindings.bound_parts.Given as goal

abbrev pub invariant-loop-pair : goal.invariant-loop-pair
invariant-loop-pair l = view_parts l.parts ≡ each_bound (view_pairs (take l.pair-index l.pairs))
