use Rattle.std.proofs.Common.{rules, arith}
use Rattle.back_emit.proofs.Counted.{one_more_of, long_line_of, long_rest_of}
use Rattle.back_emit.proofs.sizes.rests_of.Goals as goal

pub loop-k-preserved : goal.loop-k-preserved
loop-k-preserved c =
    one_more_of _ _ _ _ _ c.len-count.result c.loop-k.k c.in_ok-words.words c.left_at-left.result c.in-Some.line.now c.loop-k.lefts c.replace.new.self
    c.len-count.ensures c.loop-k-test.true c.in-Some.ensures c.in_ok-words.ensures.ok c.left_at-left.ensures c.replace.ensures.now c.loop-k.invariant

pub returns-in_err-words-clause-err : goal.returns-in_err-words-clause-err
returns-in_err-words-clause-err c =
    search (
      rules,
      long_line_of c.args.places.now c.args.sizing c.args.ways.now c.args.nears.now c.args.lines.now c.len-count.result c.loop-k.k c.in-Some.line.now c.loop-k.lefts c.len-count.ensures
          c.loop-k-test.true c.in-Some.ensures c.loop-k.invariant,
    )

pub returns-then-words-ge16777216-clause-err : goal.returns-then-words-ge16777216-clause-err
returns-then-words-ge16777216-clause-err c e =
    long_line_of c.args.places.now c.args.sizing c.args.ways.now c.args.nears.now c.args.lines.now c.len-count.result c.loop-k.k c.in-Some.line.now c.loop-k.lefts c.len-count.ensures
    c.loop-k-test.true c.in-Some.ensures c.loop-k.invariant (omega (arith, c.in_ok-words.ensures.ok, c.if-words-ge16777216.true))

pub returns-then-left-ge16777216-clause-err : goal.returns-then-left-ge16777216-clause-err
returns-then-left-ge16777216-clause-err c e =
    long_rest_of c.args.places.now c.args.sizing c.args.ways.now c.args.nears.now c.args.lines.now c.len-count.result c.loop-k.k c.loop-k.lefts c.len-count.ensures c.loop-k-test.true
    c.loop-k.invariant (omega (arith, c.left_at-left.ensures, c.if-left-ge16777216.true))
