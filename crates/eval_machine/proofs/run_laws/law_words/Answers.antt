-- The law of words is a lemma.
use Rattle.eval_machine.proofs.KeptLaw.{law_of_words}
use Rattle.eval_machine.proofs.run_laws.law_words.Goals as goal

pub returns : goal.returns
returns c = law_of_words
