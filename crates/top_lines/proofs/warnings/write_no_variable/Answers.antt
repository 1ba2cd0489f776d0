-- The name, and what is said of it.
use Rattle.std.proofs.lemmas.Result.{on_ok_weaker}
use Rattle.top_lines.proofs.Fronts.{given_both}
use Rattle.top_lines.proofs.warnings.write_no_variable.Goals as goal

pub returns-clause-given : goal.returns-clause-given
returns-clause-given g c =
    on_ok_weaker c.write_all-2.result (given_both _ _ _ _ _ c.in_ok-write_all.ensures.given) c.write_all-2.ensures.given
