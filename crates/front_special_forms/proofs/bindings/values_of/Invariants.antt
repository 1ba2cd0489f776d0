-- The values of the bindings that were seen.
use Rattle.std.proofs.Common.{◌≡◌, take}
use Rattle.front_profile.specs.BindingRows.{values_of}
use Rattle.front_drafts.specs.Views.{view_parts}
use Rattle.front_syntax.specs.Views.{view_pairs}
use Rattle.front_special_forms.proofs.bindings.values_of.Given as goal

abbrev pub invariant-loop-pair : goal.invariant-loop-pair
invariant-loop-pair l = view_parts l.parts ≡ values_of (view_pairs (take l.pair-index l.pairs))
