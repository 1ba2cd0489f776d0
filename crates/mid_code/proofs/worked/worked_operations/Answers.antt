use Rattle.mid_code.proofs.Examples.{added, argument_wanting, printed, too_few_turns, copied, given_up}
use Rattle.mid_code.proofs.worked.worked_operations.Goals as goal

pub returns-clause-added : goal.returns-clause-added
returns-clause-added c = added

pub returns-clause-argument_wanting : goal.returns-clause-argument_wanting
returns-clause-argument_wanting c = argument_wanting

pub returns-clause-printed : goal.returns-clause-printed
returns-clause-printed c = printed

pub returns-clause-too_few_turns : goal.returns-clause-too_few_turns
returns-clause-too_few_turns c = too_few_turns

pub returns-clause-copied : goal.returns-clause-copied
returns-clause-copied c = copied

pub returns-clause-given_up : goal.returns-clause-given_up
returns-clause-given_up c = given_up
