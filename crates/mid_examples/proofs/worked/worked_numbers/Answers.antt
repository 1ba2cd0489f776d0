use Rattle.mid_examples.proofs.Sums.{add_rows, subtract_rows, multiply_rows}
use Rattle.mid_examples.proofs.Quotients.{divide_rows, modulo_rows}
use Rattle.mid_examples.proofs.Comparisons.{comparison_rows}
use Rattle.mid_examples.proofs.worked.worked_numbers.Goals as goal

pub returns-clause-add_rows : goal.returns-clause-add_rows
returns-clause-add_rows c = add_rows

pub returns-clause-subtract_rows : goal.returns-clause-subtract_rows
returns-clause-subtract_rows c = subtract_rows

pub returns-clause-multiply_rows : goal.returns-clause-multiply_rows
returns-clause-multiply_rows c = multiply_rows

pub returns-clause-divide_rows : goal.returns-clause-divide_rows
returns-clause-divide_rows c = divide_rows

pub returns-clause-modulo_rows : goal.returns-clause-modulo_rows
returns-clause-modulo_rows c = modulo_rows

pub returns-clause-comparison_rows : goal.returns-clause-comparison_rows
returns-clause-comparison_rows c = comparison_rows
