-- The law is five lemmas.
use Rattle.front_profile.proofs.Suiting.{form_known, plain_known, function_known, part_known, through_known}
use Rattle.front_profile.proofs.whole_laws.law_known.Goals as goal

pub returns-clause-forms : goal.returns-clause-forms
returns-clause-forms c = form_known c.law_definitions.ensures.names

pub returns-clause-plain_forms : goal.returns-clause-plain_forms
returns-clause-plain_forms c = plain_known c.law_definitions.ensures.names

pub returns-clause-functions : goal.returns-clause-functions
returns-clause-functions c = function_known c.law_definitions.ensures.names

pub returns-clause-parts : goal.returns-clause-parts
returns-clause-parts c = part_known c.law_definitions.ensures.names

pub returns-clause-walks : goal.returns-clause-walks
returns-clause-walks c = through_known c.law_definitions.ensures.names
