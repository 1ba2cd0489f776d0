use Rattle.rv_machine.specs.Words.{length-bytes_of, word_there, word_stored}
use Rattle.rv_machine.proofs.laws.law_words.Goals as goal

pub returns-clause-length : goal.returns-clause-length
returns-clause-length c = length-bytes_of

pub returns-clause-read : goal.returns-clause-read
returns-clause-read c = word_there

pub returns-clause-stored : goal.returns-clause-stored
returns-clause-stored c = word_stored
