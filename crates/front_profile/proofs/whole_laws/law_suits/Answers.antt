-- The law is five lemmas.
use Rattle.front_profile.proofs.Known.{sound_known}
use Rattle.front_profile.proofs.Suiting.{node_suits, plain_suits, function_suits, through_suits}
use Rattle.front_profile.proofs.whole_laws.law_suits.Goals as goal

pub returns-clause-sound : goal.returns-clause-sound
returns-clause-sound c = sound_known

pub returns-clause-forms : goal.returns-clause-forms
returns-clause-forms c = node_suits c.law_definitions.ensures.names

pub returns-clause-plain_forms : goal.returns-clause-plain_forms
returns-clause-plain_forms c = plain_suits c.law_definitions.ensures.names

pub returns-clause-functions : goal.returns-clause-functions
returns-clause-functions c = function_suits c.law_definitions.ensures.names

pub returns-clause-walks : goal.returns-clause-walks
returns-clause-walks c = through_suits
