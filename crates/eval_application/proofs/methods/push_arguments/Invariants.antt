-- The arguments so far are operands.
use Rattle.std.proofs.Common.{take}
use Rattle.eval_application.specs.Methods.{ArePushed}
use Rattle.eval_application.proofs.methods.push_arguments.Given as goal

abbrev pub invariant-loop-word : goal.invariant-loop-word
invariant-loop-word l = ArePushed l.initial.machine l.machine (take l.word-index l.arguments)
