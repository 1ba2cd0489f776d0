use Rattle.mid_examples.proofs.Conses.{cons_rows, part_rows, set_part_rows}
use Rattle.mid_examples.proofs.worked.worked_conses.Goals as goal

pub returns-clause-cons_rows : goal.returns-clause-cons_rows
returns-clause-cons_rows c = cons_rows

pub returns-clause-part_rows : goal.returns-clause-part_rows
returns-clause-part_rows c = part_rows

pub returns-clause-set_part_rows : goal.returns-clause-set_part_rows
returns-clause-set_part_rows c = set_part_rows
