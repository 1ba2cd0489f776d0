-- Truth as an answer.
use Rattle.std.proofs.Common.{true, false, refl}
use Rattle.eval_store.specs.declared.word.Word.TheVariants as word
use Rattle.eval_primitives.specs.declared.answer.Answer.TheVariants.{Gives}
use Rattle.eval_primitives.specs.Answers.{IsSaid}

pub true_said : IsSaid true (Gives word.True)
true_said = record { told = λ names z. refl }

pub false_said : IsSaid false (Gives word.Nil)
false_said = record { told = λ names z. refl }
