-- Argument by argument.
use Rattle.std.proofs.Common.{◌≡◌, ◌∙◌, sym, arith, rules}
use Rattle.lang_dispatch.specs.OfClasses.{with_classes}
use Rattle.lang_dispatch.proofs.MethodTurns.{differ_length, not_here, applies_here}
use Rattle.lang_dispatch.proofs.applying.applies.Goals as goal

pub returns-then-len : goal.returns-then-len
returns-then-len c =
    sym (differ_length (with_classes c.args.classes.now) c.args.tuple.now c.args.method.now
    (λ e. let t : c.len.result ≡ c.len-2.result = omega (arith, c.len.ensures, c.len-2.ensures, e) in c.if-len.true t))

pub returns-then-not-is_below : goal.returns-then-not-is_below
returns-then-not-is_below c =
    sym (not_here (with_classes c.args.classes.now) c.args.tuple.now c.args.method.now c.loop-at.at c.in-Some.class.now c.in-Some-get.above.now
    c.in-Some.ensures c.in-Some-get.ensures (search rules))
    ∙ c.loop-at.invariant

pub loop-at-preserved : goal.loop-at-preserved
loop-at-preserved c =
    applies_here (with_classes c.args.classes.now) c.args.tuple.now c.args.method.now c.loop-at.at c.in-Some.class.now c.in-Some-get.above.now
    c.in-Some.ensures c.in-Some-get.ensures (search rules)
    ∙ c.loop-at.invariant
