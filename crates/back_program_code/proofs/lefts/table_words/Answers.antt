use Rattle.std.proofs.Common.{refl, arith}
use Rattle.back_program_code.proofs.Most.{tables_next, tables_within}
use Rattle.back_program_code.proofs.lefts.table_words.Goals as goal

pub loop-i-preserved : goal.loop-i-preserved
loop-i-preserved c =
    let next = tables_next c.loop-i.i _ _ _ refl c.in-Some.ensures in
    (omega (arith, next, c.loop-i.invariant.0, c.target_count-more.ensures), omega (arith, c.if-words-more-ge16777216.false))

pub returns-then-more-ge16777216-clause-err : goal.returns-then-more-ge16777216-clause-err
returns-then-more-ge16777216-clause-err c =
    let within = tables_within c.loop-i.i _ _ c.in-Some.ensures in
    omega (arith, within, c.target_count-more.ensures, c.if-more-ge16777216.true)

pub returns-then-words-more-ge16777216-clause-err : goal.returns-then-words-more-ge16777216-clause-err
returns-then-words-more-ge16777216-clause-err c =
    let within = tables_within c.loop-i.i _ _ c.in-Some.ensures in
    omega (arith, within, c.loop-i.invariant.0, c.target_count-more.ensures, c.if-words-more-ge16777216.true)
