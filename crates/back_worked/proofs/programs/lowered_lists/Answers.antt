-- Each program is a lemma of its own.
use Rattle.back_worked.proofs.Lists.{applied_to_two, applied_to_dotted, applied_to_three, applied_to_circle}
use Rattle.back_worked.proofs.programs.lowered_lists.Goals as goal

pub returns-clause-applied_to_two : goal.returns-clause-applied_to_two
returns-clause-applied_to_two c = applied_to_two

pub returns-clause-applied_to_dotted : goal.returns-clause-applied_to_dotted
returns-clause-applied_to_dotted c = applied_to_dotted

pub returns-clause-applied_to_three : goal.returns-clause-applied_to_three
returns-clause-applied_to_three c = applied_to_three

pub returns-clause-applied_to_circle : goal.returns-clause-applied_to_circle
returns-clause-applied_to_circle c = applied_to_circle
