-- The methods so far.
use Rattle.std.proofs.Common.{◌≡◌, ◌++◌, take}
use Rattle.back_relation.specs.Chains.{method_words}
use Rattle.back_laying.proofs.chains.push_methods.Given as goal

abbrev pub invariant-loop-at : goal.invariant-loop-at
invariant-loop-at l = l.words ≡ l.fn.words ++ method_words l.kind (take l.at l.procedures)
