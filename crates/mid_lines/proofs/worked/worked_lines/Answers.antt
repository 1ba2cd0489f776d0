use Rattle.mid_lines.proofs.Examples.{printing_lines, printed, called_and_back}
use Rattle.mid_lines.proofs.worked.worked_lines.Goals as goal

pub returns-clause-printing_lines : goal.returns-clause-printing_lines
returns-clause-printing_lines c = printing_lines

pub returns-clause-printed : goal.returns-clause-printed
returns-clause-printed c = printed

pub returns-clause-called : goal.returns-clause-called
returns-clause-called c = called_and_back
