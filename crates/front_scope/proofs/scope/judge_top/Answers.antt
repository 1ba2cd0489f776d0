-- What is judged grows, and the main form behind it.
use Rattle.front_profile.specs.bridge.Growing.{tables_grow_transitive}
use Rattle.front_scope.proofs.scope.judge_top.Goals as goal

pub returns-in_err-add_main-clause-grows : goal.returns-in_err-add_main-clause-grows
returns-in_err-add_main-clause-grows g c = tables_grow_transitive _ _ _ c.judge_alone.ensures.grows c.add_main.ensures.grows
