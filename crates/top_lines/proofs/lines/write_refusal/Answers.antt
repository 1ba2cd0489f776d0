-- The first line, and behind it the excerpt, and then the sentence.
use Rattle.std.proofs.lemmas.Result.{on_ok_weaker}
use Rattle.top_lines.proofs.Fronts.{given_both}
use Rattle.top_lines.proofs.lines.write_refusal.Goals as goal

pub returns-clause-given : goal.returns-clause-given
returns-clause-given g c =
    on_ok_weaker c.write_sentence.result
    (given_both _ _ _ _ _ (given_both _ _ _ _ _ c.in_ok-write_refused.ensures.given c.in_ok-write_excerpt.ensures.given))
    c.write_sentence.ensures.given
