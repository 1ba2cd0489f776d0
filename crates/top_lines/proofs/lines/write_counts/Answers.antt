-- One count behind the other, and a front of them.
use Rattle.std.proofs.lemmas.Result.{on_ok_weaker, on_err_weaker}
use Rattle.top_lines.proofs.Fronts.{given_both, front_of_first, front_of_second, after_error}
use Rattle.top_lines.proofs.lines.write_counts.Goals as goal

pub returns-in_err-write_labelled-clause-cut : goal.returns-in_err-write_labelled-clause-cut
returns-in_err-write_labelled-clause-cut g c =
    after_error _ (front_of_first _ _ _ _ (front_of_first _ _ _ _ (front_of_first _ _ _ _ c.in_err-write_labelled.ensures.cut)))

pub returns-in_err-write_labelled-2-clause-cut : goal.returns-in_err-write_labelled-2-clause-cut
returns-in_err-write_labelled-2-clause-cut g c =
    after_error _
    (front_of_first _ _ _ _
    (front_of_first _ _ _ _ (front_of_second _ _ _ _ _ c.in_ok-write_labelled.ensures.given c.in_err-write_labelled-2.ensures.cut)))

pub returns-in_err-write_labelled-3-clause-cut : goal.returns-in_err-write_labelled-3-clause-cut
returns-in_err-write_labelled-3-clause-cut g c =
    after_error _
    (front_of_first _ _ _ _
    (front_of_second _ _ _ _ _
    (given_both _ _ _ _ _ c.in_ok-write_labelled.ensures.given c.in_ok-write_labelled-2.ensures.given) c.in_err-write_labelled-3.ensures.cut))

pub returns-clause-given : goal.returns-clause-given
returns-clause-given g c =
    on_ok_weaker c.write_all.result
    (given_both _ _ _ _ _
    (given_both _ _ _ _ _
    (given_both _ _ _ _ _ c.in_ok-write_labelled.ensures.given c.in_ok-write_labelled-2.ensures.given)
    c.in_ok-write_labelled-3.ensures.given))
    c.write_all.ensures.given

pub returns-clause-cut : goal.returns-clause-cut
returns-clause-cut g c =
    on_err_weaker c.write_all.result
    (front_of_second _ _ _ _ _
    (given_both _ _ _ _ _
    (given_both _ _ _ _ _ c.in_ok-write_labelled.ensures.given c.in_ok-write_labelled-2.ensures.given)
    c.in_ok-write_labelled-3.ensures.given))
    c.write_all.ensures.front
