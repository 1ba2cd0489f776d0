-- The body begins.
use Rattle.std.proofs.Common.{[], ◌∷◌, ◌++◌, refl, ap, ◌∙◌}
use Rattle.eval_state.specs.declared.situation.Activation.{Activation}
use Rattle.eval_state.specs.declared.frame.ContinuationFrame.TheVariants.{RestoresSlots}
use Rattle.eval_application.proofs.Bodies.{body_begun}
use Rattle.eval_application.proofs.entering.begin_body.Goals as goal

pub returns : goal.returns
returns c =
    body_begun c.args.machine.now c.push_frame.new.self c.add_variables.new.machine c.drop_operands.new.self c.evaluate.new.self c.args.procedure c.args.count c.args.procedure.level c.args.procedure.around _
    (c.in_ok-push_frame.ensures.same ∙ ap (λ (a : Activation). record c.args.machine.now { frames = c.push_frame.new.self.frames; current = a }) c.replace-caller.ensures.after)
    (c.in_ok-push_frame.ensures.frames ∙ ap (λ (a : Activation). c.args.machine.now.frames.items ++ RestoresSlots a ∷ []) c.replace-caller.ensures.value)
    c.in_ok-add_variables.ensures c.drop_operands.ensures refl c.evaluate.ensures
