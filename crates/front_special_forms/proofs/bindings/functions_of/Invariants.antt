-- What was found stands in front of what the rest gives.
use Rattle.std.proofs.Common.{◌≡◌, drop}
use Rattle.front_profile.specs.BindingRows.{functions_of}
use Rattle.front_syntax.specs.Behind.{all_behind}
use Rattle.front_drafts.specs.Views.{at}
use Rattle.front_syntax.specs.Views.{view_pairs}
use Rattle.front_special_forms.proofs.bindings.functions_of.Given as goal

abbrev pub invariant-loop-pair : goal.invariant-loop-pair
invariant-loop-pair l =
    all_behind l.functions (functions_of (at l.here.bound.now l.here.spot) (view_pairs (drop l.pair-index l.pairs)))
    ≡ functions_of (at l.here.bound.now l.here.spot) (view_pairs l.pairs)
