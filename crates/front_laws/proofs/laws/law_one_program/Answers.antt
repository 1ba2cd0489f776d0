-- The law is the lemma, with the laws of files.
use Rattle.front_laws.proofs.OneVerdict.{one_program}
use Rattle.front_laws.proofs.laws.law_one_program.Goals as goal

pub returns : goal.returns
returns c = one_program c.law_names_apart.ensures.verdict c.law_names_apart.ensures.without c.law_one_verdict.ensures.without
