-- Each program is a lemma of its own.
use Rattle.back_worked.proofs.Transfers.{inner_first, inner_catch, outer_catch, earlier_turn, too_few_levels, stale_exit}
use Rattle.back_worked.proofs.programs.lowered_exits.Goals as goal

pub returns-clause-inner_first : goal.returns-clause-inner_first
returns-clause-inner_first c = inner_first

pub returns-clause-inner_catch : goal.returns-clause-inner_catch
returns-clause-inner_catch c = inner_catch

pub returns-clause-outer_catch : goal.returns-clause-outer_catch
returns-clause-outer_catch c = outer_catch

pub returns-clause-earlier_turn : goal.returns-clause-earlier_turn
returns-clause-earlier_turn c = earlier_turn

pub returns-clause-too_few_levels : goal.returns-clause-too_few_levels
returns-clause-too_few_levels c = too_few_levels

pub returns-clause-stale_exit : goal.returns-clause-stale_exit
returns-clause-stale_exit c = stale_exit
