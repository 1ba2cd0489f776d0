-- Each turn looks at one class.
use Rattle.std.proofs.Common.{◌≡◌, ◌∙◌, ◌+◌, true, false, ◌&&◌, ap, sym, arith}
use Rattle.test_checker.proofs.FirstClasses.{begins_from, is_built_in, turn, no_class_left}
use Rattle.test_checker.proofs.classes.begins_with_built_in.Goals as goal

pub returns-in_default : goal.returns-in_default
returns-in_default c =
    sym (no_class_left c.args.classes.now c.loop-number.number (omega (arith, c.loop-number-test.true)) c.in_default.ensures.lookup.3)
    ∙ c.loop-number.invariant

pub returns-then-not-is_built_in : goal.returns-then-not-is_built_in
returns-then-not-is_built_in c =
    let none : is_built_in c.in-Some.class.now c.loop-number.number ≡ false = sym c.if-not-is_built_in.ensures in
    sym (turn c.args.classes.now c.loop-number.number c.in-Some.class.now (omega (arith, c.loop-number-test.true)) (omega (arith, c.in-Some.ensures.lookup)) c.in-Some.ensures.lookup.1
    ∙ ap (λ yes. yes && begins_from c.args.classes.now (c.loop-number.number + 1)) none)
    ∙ c.loop-number.invariant

pub loop-number-preserved : goal.loop-number-preserved
loop-number-preserved c =
    let one : is_built_in c.in-Some.class.now c.loop-number.number ≡ true = sym c.if-not-is_built_in.ensures in
    sym (turn c.args.classes.now c.loop-number.number c.in-Some.class.now (omega (arith, c.loop-number-test.true)) (omega (arith, c.in-Some.ensures.lookup)) c.in-Some.ensures.lookup.1
    ∙ ap (λ yes. yes && begins_from c.args.classes.now (c.loop-number.number + 1)) one)
    ∙ c.loop-number.invariant
