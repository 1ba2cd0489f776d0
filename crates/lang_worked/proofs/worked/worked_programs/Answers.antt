use Rattle.lang_worked.proofs.ExampleFacts.{worked_are_whole, too_few_arguments, go_outside, no_such_segment, no_segment, go_to_a_block, captured, parts_in_order, box_of_its_own, uncalled_procedures, made_by_uncalled, not_there, nodes_of_one_application, not_reached, cells_of_methods}
use Rattle.lang_worked.proofs.worked.worked_programs.Goals as goal

pub returns-clause-worked_are_whole : goal.returns-clause-worked_are_whole
returns-clause-worked_are_whole c = worked_are_whole

pub returns-clause-too_few_arguments : goal.returns-clause-too_few_arguments
returns-clause-too_few_arguments c = too_few_arguments

pub returns-clause-go_outside : goal.returns-clause-go_outside
returns-clause-go_outside c = go_outside

pub returns-clause-no_such_segment : goal.returns-clause-no_such_segment
returns-clause-no_such_segment c = no_such_segment

pub returns-clause-no_segment : goal.returns-clause-no_segment
returns-clause-no_segment c = no_segment

pub returns-clause-go_to_a_block : goal.returns-clause-go_to_a_block
returns-clause-go_to_a_block c = go_to_a_block

pub returns-clause-captured : goal.returns-clause-captured
returns-clause-captured c = captured

pub returns-clause-in_order : goal.returns-clause-in_order
returns-clause-in_order c = parts_in_order

pub returns-clause-box_of_its_own : goal.returns-clause-box_of_its_own
returns-clause-box_of_its_own c = box_of_its_own

pub returns-clause-uncalled : goal.returns-clause-uncalled
returns-clause-uncalled c = uncalled_procedures

pub returns-clause-made_by_uncalled : goal.returns-clause-made_by_uncalled
returns-clause-made_by_uncalled c = made_by_uncalled

pub returns-clause-not_there : goal.returns-clause-not_there
returns-clause-not_there c = not_there

pub returns-clause-nodes_of_one_application : goal.returns-clause-nodes_of_one_application
returns-clause-nodes_of_one_application c = nodes_of_one_application

pub returns-clause-not_reached : goal.returns-clause-not_reached
returns-clause-not_reached c = not_reached

pub returns-clause-cells_of_methods : goal.returns-clause-cells_of_methods
returns-clause-cells_of_methods c = cells_of_methods
