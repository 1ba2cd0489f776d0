-- Where one literal more is named, all are where those that are left are; where one is not, not all are.
use Rattle.std.specs.List.{list_all}
use Rattle.back_build.specs.Named.{is_literal_named}
use Rattle.back_build.proofs.Listed.{holds_of, fails_of, next_listed}
use Rattle.back_build.proofs.names_there.are_literals_named.Goals as goal

pub loop-at-preserved : goal.loop-at-preserved
loop-at-preserved c =
    holds_of (list_all (is_literal_named c.args.count)) (is_literal_named c.args.count) (next_listed (is_literal_named c.args.count)) c.args.literals.now
    c.loop-at.at c.in-Some.literal.now c.in_ok-is.is' c.in-Some.ensures c.in_ok-is.ensures c.if-not-is.false c.loop-at.invariant

pub returns-then-not-is : goal.returns-then-not-is
returns-then-not-is c =
    fails_of (list_all (is_literal_named c.args.count)) (is_literal_named c.args.count) (next_listed (is_literal_named c.args.count)) c.args.literals.now
    c.loop-at.at c.in-Some.literal.now c.in_ok-is.is' c.in-Some.ensures c.in_ok-is.ensures c.if-not-is.true c.loop-at.invariant
