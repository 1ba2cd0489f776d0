-- One body more.
use Rattle.std.proofs.Common.{ℕ, List, refl}
use Rattle.flat_language.specs.declared.program.FlatProcedure.{FlatProcedure}
use Rattle.back_lowering.specs.Program as lowering
use Rattle.back_procedures.proofs.Walking.{walked_step}
use Rattle.back_programs.proofs.functions.lambda_bodies.Goals as goal

pub loop-i-preserved : goal.loop-i-preserved
loop-i-preserved c =
    let g = c.args.given.now in
    walked_step (λ (p : ℕ) (qs : List FlatProcedure). lowering.lambda_bodies g.names.now g.at.now g.program.now qs)
    (λ (p : ℕ) (q : FlatProcedure). lowering.body_of g.names.now g.at.now g.program.now lowering.itself q)
    (λ p x xs. refl) _ c.loop-i.list c.lambda_body_behind.new.list g.program.now.lambdas 0 c.loop-i.i c.in-Some.function.now
    c.in-Some.ensures c.loop-i.invariant c.in_ok-lambda_body_behind.ensures
