-- The law is the lemma, with the one step of a datum.
use Rattle.std.proofs.Common.{inl, inr}
use Rattle.front_profile.proofs.Once.{form_once}
use Rattle.front_profile.proofs.laws.law_one_verdict.Goals as goal

pub returns-clause-without : goal.returns-clause-without
returns-clause-without c = λ names a s d v w t none g h.
    form_once names (λ e n d2 e2 s2 t2. c.law_one_step.ensures names e n d2 e2 s2 t2 t) a s d v w g h (inl none)

pub returns-clause-exact : goal.returns-clause-exact
returns-clause-exact c = λ names a s d v w t one x y g h.
    form_once names (λ e n d2 e2 s2 t2. c.law_one_step.ensures names e n d2 e2 s2 t2 t) a s d v w g h (inr (one, (x, y)))
