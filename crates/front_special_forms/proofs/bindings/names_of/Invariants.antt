-- What was found stands in front of what the rest gives.
use Rattle.std.proofs.Common.{◌≡◌, drop}
use Rattle.front_profile.specs.BindingRows.{names_of}
use Rattle.front_syntax.specs.Behind.{all_behind}
use Rattle.front_syntax.specs.Views.{view_pairs}
use Rattle.front_special_forms.proofs.bindings.names_of.Given as goal

abbrev pub invariant-loop-pair : goal.invariant-loop-pair
invariant-loop-pair l = all_behind l.names (names_of (view_pairs (drop l.pair-index l.pairs))) ≡ names_of (view_pairs l.pairs)
