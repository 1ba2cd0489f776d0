-- Under one table it is the law of files, with that of expansions; a verdict under a front of it is one under it.
use Rattle.front_laws.proofs.laws.law_one_verdict_of_table.Goals as goal

pub returns-clause-one_table : goal.returns-clause-one_table
returns-clause-one_table c = λ names prelude text mode v w table.
    c.law_one_verdict.ensures.exact names prelude text mode v w table (c.law_one_expansion.ensures names table)

pub returns-clause-fronts : goal.returns-clause-fronts
returns-clause-fronts c = λ names a b prelude text mode v w table x y is_exact are_exact g h.
    let one = c.law_one_expansion.ensures names table in
    c.law_one_verdict.ensures.exact names prelude text mode v w table one is_exact are_exact
    (c.law_names_apart.ensures.verdict a names prelude text mode v x g)
    (c.law_names_apart.ensures.verdict b names prelude text mode w y h)
