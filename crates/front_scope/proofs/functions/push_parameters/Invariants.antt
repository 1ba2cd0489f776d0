-- The parameters that were seen are appended.
use Rattle.std.proofs.Common.{◌≡◌, ◌++◌, take}
use Rattle.front_drafts.specs.Views.{view_parts}
use Rattle.front_profile.specs.RowWords.{each_parameter}
use Rattle.front_scope.proofs.functions.push_parameters.Given as goal

abbrev pub invariant-loop-symbol : goal.invariant-loop-symbol
invariant-loop-symbol l = view_parts l.parts ≡ view_parts l.fn.parts ++ each_parameter (take l.symbol-index l.symbols)
