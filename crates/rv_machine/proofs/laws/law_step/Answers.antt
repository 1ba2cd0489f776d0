use Rattle.rv_machine.proofs.Steps.{is_row, only_row}
use Rattle.rv_machine.proofs.laws.law_step.Goals as goal

pub returns-clause-row : goal.returns-clause-row
returns-clause-row c = is_row c.law_read.ensures.read c.law_read.ensures.word

pub returns-clause-only : goal.returns-clause-only
returns-clause-only c = only_row c.law_read.ensures.read c.law_read.ensures.word
