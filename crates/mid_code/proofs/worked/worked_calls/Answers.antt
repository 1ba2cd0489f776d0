use Rattle.mid_code.proofs.Examples.{doubled, too_few_levels, no_room_for_a_frame}
use Rattle.mid_code.proofs.worked.worked_calls.Goals as goal

pub returns-clause-doubled : goal.returns-clause-doubled
returns-clause-doubled c = doubled

pub returns-clause-too_few_levels : goal.returns-clause-too_few_levels
returns-clause-too_few_levels c = too_few_levels

pub returns-clause-no_room_for_a_frame : goal.returns-clause-no_room_for_a_frame
returns-clause-no_room_for_a_frame c = no_room_for_a_frame
