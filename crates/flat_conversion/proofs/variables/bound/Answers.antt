-- A variable more.
use Rattle.std.proofs.Common.{◌∙◌, refl}
use Rattle.lang_meaning.specs.Meaning.{bound_variables}
use Rattle.lang_meaning.specs.declared.core_form.Binding.{Binding}
use Rattle.lang_meaning.specs.model.View.{bindings_of}
use Rattle.flat_conversion.proofs.Turns.{turn}
use Rattle.flat_conversion.proofs.variables.bound.Goals as goal

pub loop-at-preserved : goal.loop-at-preserved
loop-at-preserved c =
    c.in_ok-push.ensures.ok
    ∙ turn (λ bs. bound_variables (bindings_of bs)) (λ (b : Binding). b.var) refl (λ x xs. refl) c.loop-at.variables c.args.list.now c.loop-at.at c.in-Some.binding.now c.in-Some.ensures c.loop-at.invariant
