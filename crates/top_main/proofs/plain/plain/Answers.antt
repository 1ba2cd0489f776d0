-- The answer of a program's evaluation, by its end.
use Rattle.std.proofs.Common.{Some}
use Rattle.top_main.proofs.Outcomes.{of_evaluation, of_break, told_end}
use Rattle.top_main.proofs.plain.plain.Goals as goal

pub returns-in-Ok : goal.returns-in-Ok
returns-in-Ok g c =
    of_evaluation c.answer_of.result c.in-Ok.field-0.end _ _ _ _ _ _ _ _ _ _ _ _ c.from-levels.ensures c.from-words.ensures c.in-Ok.ensures.ends c.in-Ok.ensures.fault
    (Some c.in-Ok.field-0.told) (told_end _ _ _ _ c.in-Ok.ensures.tells) c.answer_of.ensures

pub returns-in-Err : goal.returns-in-Err
returns-in-Err g c = of_break _ _ _ _ _ _ _ _ _ ⊥ ⊥ _ c.from-levels.ensures c.from-words.ensures c.in-Err.ensures.breaks_off
