-- What methods were called with.
use Rattle.std.proofs.Common.{◌≡◌, ℕ, List, refl}
use Rattle.eval_store.specs.Words.{called_or_none}
use Rattle.eval_state.specs.declared.situation.Situation.{Situation}
use Rattle.eval_state.specs.declared.situation.Activation.{Activation}
use Rattle.eval_state.specs.declared.frame.ContinuationFrame.{ContinuationFrame}
use Rattle.eval_state.specs.Frames.{situation_in, environment_in}

-- the method of an environment
pub own_method : (names : List (List ℕ)) (a : Activation) (ws : List ContinuationFrame) (s : Situation)
    → called_or_none names a.method ≡ (situation_in names a ws s).environment.method
unfolding situation_in environment_in
own_method names a ws s = refl
