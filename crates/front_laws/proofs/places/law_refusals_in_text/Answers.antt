-- The law is the lemma, with the laws of files.
use Rattle.front_laws.proofs.OneVerdict.{behind_accepted}
use Rattle.front_laws.proofs.places.law_refusals_in_text.Goals as goal

pub returns : goal.returns
returns c = behind_accepted c.law_names_apart.ensures.verdict c.law_names_apart.ensures.without c.law_prelude.ensures.without
