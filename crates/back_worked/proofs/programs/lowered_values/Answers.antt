-- Each program is a lemma of its own.
use Rattle.back_worked.proofs.Values.{rest_list, floors, overflow, no_function, no_value, counting, set_binding}
use Rattle.back_worked.proofs.programs.lowered_values.Goals as goal

pub returns-clause-rest_list : goal.returns-clause-rest_list
returns-clause-rest_list c = rest_list

pub returns-clause-floors : goal.returns-clause-floors
returns-clause-floors c = floors

pub returns-clause-overflow : goal.returns-clause-overflow
returns-clause-overflow c = overflow

pub returns-clause-no_function : goal.returns-clause-no_function
returns-clause-no_function c = no_function

pub returns-clause-no_value : goal.returns-clause-no_value
returns-clause-no_value c = no_value

pub returns-clause-counting : goal.returns-clause-counting
returns-clause-counting c = counting

pub returns-clause-set_binding : goal.returns-clause-set_binding
returns-clause-set_binding c = set_binding
