use Rattle.lang_derived.proofs.Stays.{later_step, later_stop, same_step}
use Rattle.lang_derived.proofs.laws.law_steps_stay.Goals as goal

pub returns-clause-step : goal.returns-clause-step
returns-clause-step c = later_step

pub returns-clause-stop : goal.returns-clause-stop
returns-clause-stop c = later_stop

pub returns-clause-one : goal.returns-clause-one
returns-clause-one c = same_step
