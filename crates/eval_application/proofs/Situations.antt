-- The parts of situations.
use Rattle.std.proofs.Common.{◌≡◌, ℕ, List, refl}
use Rattle.eval_state.specs.declared.situation.Situation.{Situation}
use Rattle.eval_state.specs.declared.machine.Machine.{Machine}
use Rattle.eval_state.specs.Frames.{situation_in}
use Rattle.eval_state.specs.View.{at, dynamic_context}

pub level_at : (names : List (List ℕ)) (m : Machine) (s : Situation) → s.level ≡ (at names m s).level
unfolding situation_in
level_at names m s = refl

pub around_at : (names : List (List ℕ)) (m : Machine) (s : Situation) → dynamic_context names m s.around ≡ (at names m s).around
unfolding situation_in
around_at names m s = refl
