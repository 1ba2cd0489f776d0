-- The answer to a command's words is that of the command.
use Rattle.std.proofs.Common.{refl, ⊎_elim}
use Rattle.top_main.specs.Answers.{was_asked, was_usage, was_untold}
use Rattle.top_command.proofs.Digits.{asked_within}
use Rattle.top_main.proofs.main_call.answer_to.Goals as goal

pub obey-answer-requires-clause-most : goal.obey-answer-requires-clause-most
obey-answer-requires-clause-most g c = let is = rw c.in-Ok-Some.field-0-is at c.in-Ok-Some.ensures in (asked_within c.args.words.now _ is).1

pub returns-in-Ok-Some : goal.returns-in-Ok-Some
returns-in-Ok-Some g c = let is = rw c.in-Ok-Some.field-0-is at c.in-Ok-Some.ensures in was_asked _ is refl c.obey-answer.ensures

pub returns-in-Ok-None : goal.returns-in-Ok-None
returns-in-Ok-None g c =
    let none = rw c.in-Ok-None.field-0-is at c.in-Ok-None.ensures in
    ⊎_elim (λ e. was_usage e none refl refl refl c.requires.empty) (λ e. was_untold e refl refl refl c.requires.empty) c.usage.ensures
