-- It is left to see whether the rest binds the part.
use Rattle.std.proofs.Common.{◌≡◌, drop}
use Rattle.lang_meaning.specs.model.View.{bindings_of}
use Rattle.lang_meaning.specs.Mentions.{owns, variables_bound}
use Rattle.lang_meaning.proofs.mentioned.is_bound.Given as goal

abbrev pub invariant-loop-binding : goal.invariant-loop-binding
invariant-loop-binding l = owns (variables_bound (bindings_of (drop l.binding-index l.list))) l.part ≡ owns (variables_bound (bindings_of l.list)) l.part
