-- The law is the lemma, with the laws of files.
use Rattle.front_laws.proofs.OneVerdict.{never_both, one_refusal}
use Rattle.front_laws.proofs.laws.law_one_verdict.Goals as goal

pub returns-clause-never_both : goal.returns-clause-never_both
returns-clause-never_both c = never_both c.law_names_apart.ensures.verdict c.law_names_apart.ensures.without c.law_one_verdict.ensures.without

pub returns-clause-one_refusal : goal.returns-clause-one_refusal
returns-clause-one_refusal c = one_refusal c.law_names_apart.ensures.verdict c.law_names_apart.ensures.without c.law_one_verdict.ensures.without
