use Rattle.mid_lines.proofs.Examples.{cut_and_landed, passed_the_inner, fell_out, cut_nowhere}
use Rattle.mid_lines.proofs.worked.worked_landings.Goals as goal

pub returns-clause-cut_and_landed : goal.returns-clause-cut_and_landed
returns-clause-cut_and_landed c = cut_and_landed

pub returns-clause-passed_the_inner : goal.returns-clause-passed_the_inner
returns-clause-passed_the_inner c = passed_the_inner

pub returns-clause-fell_out : goal.returns-clause-fell_out
returns-clause-fell_out c = fell_out

pub returns-clause-cut_nowhere : goal.returns-clause-cut_nowhere
returns-clause-cut_nowhere c = cut_nowhere
