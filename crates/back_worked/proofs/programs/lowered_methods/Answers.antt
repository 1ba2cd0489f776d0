-- Each program is a lemma of its own.
use Rattle.back_worked.proofs.Chains.{in_order, captured_method, no_method}
use Rattle.back_worked.proofs.programs.lowered_methods.Goals as goal

pub returns-clause-in_order : goal.returns-clause-in_order
returns-clause-in_order c = in_order

pub returns-clause-captured_method : goal.returns-clause-captured_method
returns-clause-captured_method c = captured_method

pub returns-clause-no_method : goal.returns-clause-no_method
returns-clause-no_method c = no_method
