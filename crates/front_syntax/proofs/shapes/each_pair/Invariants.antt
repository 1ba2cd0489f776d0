-- What was found stands in front of what the rest gives.
use Rattle.std.proofs.Common.{◌≡◌, drop}
use Rattle.front_profile.specs.Shapes.{each_pair}
use Rattle.front_syntax.specs.Views.{view_pairs}
use Rattle.front_syntax.specs.Behind.{all_behind}
use Rattle.front_syntax.proofs.shapes.each_pair.Given as goal

abbrev pub invariant-loop-item : goal.invariant-loop-item
invariant-loop-item l = all_behind (view_pairs l.pairs) (each_pair l.words (drop l.item-index l.items)) ≡ each_pair l.words l.items
