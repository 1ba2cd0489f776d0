-- The answer of a run of an image, by its end.
use Rattle.std.proofs.Common.{refl, arith}
use Rattle.top_main.proofs.Outcomes.{of_run, of_large}
use Rattle.top_main.proofs.Made.{counted}
use Rattle.top_main.proofs.run.run_built.Goals as goal

pub returns-then-bounds-words-clause-answer : goal.returns-then-bounds-words-clause-answer
returns-then-bounds-words-clause-answer g c = of_large _ _ _ _ _ _ _ _ _ ⊥ ⊥ _ c.requires.is_image c.words-words.ensures.exact c.if-bounds-words.true (refl, refl)

pub returns-then-bounds-words-clause-counted : goal.returns-then-bounds-words-clause-counted
returns-then-bounds-words-clause-counted g c = λ done image is. absurd (cc)

pub returns-in-Ok-clause-answer : goal.returns-in-Ok-clause-answer
returns-in-Ok-clause-answer g c =
    of_run c.answer_of.result c.in-Ok.ended.end _ _ _ _ _ _ _ _ _ _ _ c.requires.is_image (omega (arith, c.words-words.ensures.exact, c.if-bounds-words.false)) c.in-Ok.ensures.comes c.in-Ok.ensures.fault c.in-Ok.ended.told c.in-Ok.ensures.tells c.answer_of.ensures

pub returns-in-Ok-clause-counted : goal.returns-in-Ok-clause-counted
returns-in-Ok-clause-counted g c =
    counted c.answer_of.result c.in-Ok.ended _ _ _ _ _ _ _ c.answer_of.ensures c.words-words.ensures.exact c.in-Ok.ensures.executed

pub returns-in-Err-clause-counted : goal.returns-in-Err-clause-counted
returns-in-Err-clause-counted g c = λ done image is. absurd (cc)
