-- One main form more is called.
use Rattle.std.proofs.Common.{ℕ, List, [], refl, ap, ◌∙◌, ◌++◌, ◌∷◌, ◌+◌, arith}
use Rattle.mid_code.specs.MidCode.{MidStep}
use Rattle.back_lowering.specs.Steps.{call}
use Rattle.back_lowering.specs.Program as lowering
use Rattle.back_procedures.proofs.Walking.{numbered_step}
use Rattle.back_procedures.proofs.mains.mains_called.Goals as goal

pub loop-i-preserved : goal.loop-i-preserved
loop-i-preserved c =
    let given = c.args.given.now in
    numbered_step (lowering.mains_called given.names.now given.at.now given.program.now) (λ (p : ℕ). call 0 p []) (λ p f fs. refl)
    _ c.loop-i.code c.push.new.self c.args.list.now c.args.first c.loop-i.i (omega (arith, c.loop-i-test.true, c.len-i-end.ensures)) c.loop-i.invariant
    (c.in_ok-push.ensures.ok
    ∙ ap (λ (s : MidStep). c.loop-i.code ++ s ∷ []) c.call.ensures
    ∙ ap (λ (rs : List ℕ). c.loop-i.code ++ call 0 (c.args.first + c.loop-i.i) rs ∷ []) c.new.ensures)
