use Rattle.back_emission.proofs.JumpSteps.{branch_reaches, jump_reaches, far_reaches}
use Rattle.back_emission.proofs.laws.law_reach.Goals as goal

pub returns : goal.returns
returns c = record { branches = branch_reaches; jumps = jump_reaches; anywhere = far_reaches }
