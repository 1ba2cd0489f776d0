use Rattle.mid_code.proofs.Examples.{cut_and_landed, no_room_for_a_record, passed_the_inner, fell_out, cut_again, cut_nowhere, cut_from_the_top}
use Rattle.mid_code.proofs.worked.worked_cuts.Goals as goal

pub returns-clause-cut_and_landed : goal.returns-clause-cut_and_landed
returns-clause-cut_and_landed c = cut_and_landed

pub returns-clause-no_room_for_a_record : goal.returns-clause-no_room_for_a_record
returns-clause-no_room_for_a_record c = no_room_for_a_record

pub returns-clause-passed_the_inner : goal.returns-clause-passed_the_inner
returns-clause-passed_the_inner c = passed_the_inner

pub returns-clause-fell_out : goal.returns-clause-fell_out
returns-clause-fell_out c = fell_out

pub returns-clause-cut_again : goal.returns-clause-cut_again
returns-clause-cut_again c = cut_again

pub returns-clause-cut_nowhere : goal.returns-clause-cut_nowhere
returns-clause-cut_nowhere c = cut_nowhere

pub returns-clause-cut_from_the_top : goal.returns-clause-cut_from_the_top
returns-clause-cut_from_the_top c = cut_from_the_top
