-- The law is the lemma.
use Rattle.front_profile.proofs.Programs.{form_came}
use Rattle.front_profile.proofs.whole_laws.law_forms.Goals as goal

pub returns : goal.returns
returns c = form_came c.law_good_steps.ensures c.law_form.ensures (record { hierarchies = c.law_definitions.ensures.hierarchies; names = c.law_definitions.ensures.names })
