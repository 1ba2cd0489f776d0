-- The test is evaluated, for which the loop waits.
use Rattle.eval_control.proofs.forms.loop_turn.Goals as goal

pub returns : goal.returns
returns c = c.wait.ensures
