-- A front of the label, or the label and a front of the number.
use Rattle.std.proofs.lemmas.Result.{on_err_weaker}
use Rattle.top_lines.specs.Lines.{labelled}
use Rattle.top_lines.proofs.Fronts.{front_of_first, front_of_second, after_error}
use Rattle.top_lines.proofs.lines.write_labelled.Goals as goal

pub returns-in_err-write_all-clause-cut : goal.returns-in_err-write_all-clause-cut
unfolding labelled
returns-in_err-write_all-clause-cut g c = after_error _ (front_of_first _ _ _ _ c.in_err-write_all.ensures.front)

pub returns-clause-cut : goal.returns-clause-cut
unfolding labelled
returns-clause-cut g c =
    on_err_weaker c.write_number.result (front_of_second _ _ _ _ _ c.in_ok-write_all.ensures.given) c.write_number.ensures.cut
