-- The operands that were passed.
use Rattle.std.proofs.Common.{◌≡◌, take}
use Rattle.eval_application.proofs.generics.shared_arguments.Given as goal

abbrev pub invariant-loop-word : goal.invariant-loop-word
invariant-loop-word l = l.arguments ≡ take l.word-index l.word-items
