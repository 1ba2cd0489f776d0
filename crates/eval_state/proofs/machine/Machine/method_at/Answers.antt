-- The same method, which shares its arguments.
use Rattle.std.proofs.Common.{Some, ap, ◌∙◌}
use Rattle.eval_state.proofs.machine.Machine.method_at.Goals as goal

pub returns-in_ok-shared-in-Some : goal.returns-in_ok-shared-in-Some
returns-in_ok-shared-in-Some c names s = ap Some (c.in_ok-shared-in-Some.ensures names) ∙ c.in-Some.ensures names s
