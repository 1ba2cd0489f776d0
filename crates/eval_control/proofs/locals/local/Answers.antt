-- The value goes into the innermost frame.
use Rattle.std.proofs.Common.{ap}
use Rattle.flat_language.specs.FlatState.{gives}
use Rattle.eval_machine.specs.Configuration.{ended}
use Rattle.eval_state.specs.View.{frames, state}
use Rattle.eval_state.proofs.Going.{followed}
use Rattle.eval_control.proofs.locals.local.Goals as goal

pub returns : goal.returns
returns c =
    let m = c.args.machine.now in
    followed _ _ _ _ c.gives.ensures (λ names s b. ap (λ v. ended (gives v (state names m b)) (frames names m 0)) (c.value_of-word.ensures names b c.args.situation))
