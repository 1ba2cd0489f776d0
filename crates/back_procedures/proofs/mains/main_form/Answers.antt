-- The parts are the code of a main form.
use Rattle.std.proofs.Common.{◌≡◌, IfOk, subst, ap, ◌∙◌}
use Rattle.mid_code.specs.declared.operation.Counted.TheVariants.{Turn}
use Rattle.mid_code.specs.declared.program.MidProcedure.{MidProcedure}
use Rattle.back_lowering.specs.Program as lowering
use Rattle.back_procedures.proofs.MainForms.{main_is}
use Rattle.back_procedures.proofs.mains.main_form.Goals as goal

pub returns : goal.returns
returns c =
    let g = c.args.given.now in
    subst (λ (q : MidProcedure). IfOk c.procedure_with.result (λ p. p ≡ q))
    (ap (lowering.procedure_with Turn 0) c.in_ok-code.ensures ∙ main_is g.names.now g.at.now g.program.now c.args.form.now) c.procedure_with.ensures
