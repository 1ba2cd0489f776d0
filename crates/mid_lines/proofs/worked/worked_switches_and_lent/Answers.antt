use Rattle.mid_lines.proofs.Examples.{switching_lines, switched, lent, cut_to_lent}
use Rattle.mid_lines.proofs.worked.worked_switches_and_lent.Goals as goal

pub returns-clause-switching_lines : goal.returns-clause-switching_lines
returns-clause-switching_lines c = switching_lines

pub returns-clause-switched : goal.returns-clause-switched
returns-clause-switched c = switched

pub returns-clause-lent : goal.returns-clause-lent
returns-clause-lent c = lent

pub returns-clause-cut_to_lent : goal.returns-clause-cut_to_lent
returns-clause-cut_to_lent c = cut_to_lent
