-- Those that are passed are none of the parts.
use Rattle.std.proofs.Common.{take, not, ◌&&◌}
use Rattle.lang_meaning.specs.model.View.{bindings_of}
use Rattle.lang_meaning.specs.Mentions.{owns, variables_bound}
use Rattle.front_elaboration.specs.Mentioned.{has, AreParts}
use Rattle.front_elaboration.proofs.mentioning.unbind_variables.Given as goal

abbrev pub invariant-loop-binding : goal.invariant-loop-binding
invariant-loop-binding l = AreParts l.inner (λ p. not (owns (variables_bound (bindings_of (take l.binding-index l.list))) p) && has l.initial.inner p)
