-- Those that are passed are none of the parts.
use Rattle.std.proofs.Common.{take, not, ◌&&◌}
use Rattle.lang_meaning.specs.Mentions.{owns}
use Rattle.front_elaboration.specs.Mentioned.{has, AreParts}
use Rattle.front_elaboration.proofs.mentioned.Mentioned.remove_variables.Given as goal

abbrev pub invariant-loop-var : goal.invariant-loop-var
invariant-loop-var l = AreParts l.self (λ p. not (owns (take l.var-index l.variables) p) && has l.initial.self p)
