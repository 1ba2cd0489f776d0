-- The law is two lemmas.
use Rattle.front_profile.proofs.Below.{form_defines_nothing, function_leaves_one}
use Rattle.front_profile.proofs.whole_laws.law_below_top_level.Goals as goal

pub returns-clause-forms : goal.returns-clause-forms
returns-clause-forms c = form_defines_nothing

pub returns-clause-functions : goal.returns-clause-functions
returns-clause-functions c = function_leaves_one
