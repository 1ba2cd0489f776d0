-- Each table finds what the meaning does.
use Rattle.eval_step.proofs.evaluator.Evaluator.value_under.Goals as goal

pub returns-in-Globals : goal.returns-in-Globals
returns-in-Globals c = rw c.in-Globals.is (λ names written unread b st. c.get.ensures names b.globals st.globals)

pub returns-in-Dynamics : goal.returns-in-Dynamics
returns-in-Dynamics c = rw c.in-Dynamics.is (λ names written unread b st. c.get-in-Dynamics.ensures names b.dynamics st.dynamics)
