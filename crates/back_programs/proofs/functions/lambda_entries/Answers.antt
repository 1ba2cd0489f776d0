-- One entry more.
use Rattle.std.proofs.Common.{ℕ, ◌+◌, [], ◌∷◌, ◌++◌, length, refl, ap, ◌∙◌}
use Rattle.flat_language.specs.declared.program.FlatProcedure.{FlatProcedure}
use Rattle.back_lowering.specs.Placement.{functions}
use Rattle.back_lowering.specs.Program as lowering
use Rattle.back_procedures.proofs.Walking.{walked_step}
use Rattle.back_programs.proofs.functions.lambda_entries.Goals as goal

pub loop-i-preserved : goal.loop-i-preserved
loop-i-preserved c =
    let g = c.args.given.now in
    let x = c.in-Some.function.now in
    walked_step (lowering.lambda_entries_from g.names.now g.at.now g.program.now)
    (λ (p : ℕ) (q : FlatProcedure). lowering.entry g.names.now g.at.now g.program.now (functions g.at.now + p) lowering.itself q)
    (λ p x xs. refl) _ c.loop-i.list c.lambda_entry_behind.new.list g.program.now.lambdas (length g.program.now.procedures) c.loop-i.i x
    c.in-Some.ensures c.loop-i.invariant
    (c.in_ok-lambda_entry_behind.ensures
    ∙ ap (λ (n : ℕ). c.loop-i.list ++ (lowering.entry g.names.now g.at.now g.program.now (functions g.at.now + (n + c.loop-i.i)) lowering.itself x ∷ [])) c.len-first.ensures)
