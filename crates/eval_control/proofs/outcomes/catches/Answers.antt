-- What comes out of the exit goes on.
use Rattle.eval_machine.specs.Configuration.{ended}
use Rattle.eval_state.specs.View.{frames, state}
use Rattle.std.proofs.Common.{ap}
use Rattle.eval_state.proofs.Going.{followed}
use Rattle.eval_control.proofs.outcomes.catches.Goals as goal

pub returns : goal.returns
returns c =
    let m = c.args.machine.now in
    followed _ _ _ _ c.come_to.ensures (λ names s b. ap (λ r. ended r (frames names m 0)) (c.caught.ensures names (state names m b)))
