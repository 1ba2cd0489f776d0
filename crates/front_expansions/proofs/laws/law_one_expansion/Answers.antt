-- The law is the lemma, with the laws of levels, of renaming and of data.
use Rattle.front_expansions.proofs.OneExpansion.{one_expansion}
use Rattle.front_expansions.proofs.laws.law_one_expansion.Goals as goal

pub returns : goal.returns
returns c =
    one_expansion c.law_levels.ensures c.law_meaning.ensures c.law_one_datum.ensures c.law_one_reason.ensures
    c.law_either.ensures
