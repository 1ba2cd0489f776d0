-- A variable more.
use Rattle.std.proofs.Common.{ap, ◌∙◌, ◌++◌, ◌∷◌, [], refl}
use Rattle.flat_conversion.specs.Marks.{marked_variable, marked_variables}
use Rattle.flat_conversion.proofs.Turns.{turn}
use Rattle.flat_conversion.proofs.marks.Marks.binder.Goals as goal

pub loop-at-preserved : goal.loop-at-preserved
loop-at-preserved c =
    let m = c.args.self.now in
    c.in_ok-push.ensures.ok
    ∙ ap (λ x. c.loop-at.news ++ x ∷ []) c.variable.ensures
    ∙ turn (marked_variables m) (marked_variable m) refl (λ x xs. refl) c.loop-at.news c.args.variables.now c.loop-at.at c.in-Some.var.now c.in-Some.ensures c.loop-at.invariant
