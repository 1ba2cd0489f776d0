-- One entry more.
use Rattle.std.proofs.Common.{◌≡◌, ℕ, ◌+◌, [], ◌∷◌, ◌++◌, refl, ap, ◌∙◌, arith}
use Rattle.flat_language.specs.declared.program.FlatProcedure.{FlatProcedure}
use Rattle.back_lowering.specs.Placement.{functions}
use Rattle.back_lowering.specs.Program as lowering
use Rattle.back_procedures.proofs.Walking.{walked_step}
use Rattle.back_programs.proofs.functions.entries.Goals as goal

pub loop-i-preserved : goal.loop-i-preserved
loop-i-preserved c =
    let g = c.args.given.now in
    let x = c.in-Some.procedure.now in
    let z : c.loop-i.i ≡ 0 + c.loop-i.i = omega arith in
    walked_step (lowering.entries_from g.names.now g.at.now g.program.now)
    (λ (p : ℕ) (q : FlatProcedure). lowering.entry g.names.now g.at.now g.program.now (functions g.at.now + p) (lowering.extra_of g.names.now g.at.now g.program.now p) q)
    (λ p x xs. refl) _ c.loop-i.list c.entry_behind.new.list g.program.now.procedures 0 c.loop-i.i x
    c.in-Some.ensures c.loop-i.invariant
    (c.in_ok-entry_behind.ensures ∙ ap (λ (k : ℕ). c.loop-i.list ++ (lowering.entry g.names.now g.at.now g.program.now (functions g.at.now + k) (lowering.extra_of g.names.now g.at.now g.program.now k) x ∷ [])) z)
