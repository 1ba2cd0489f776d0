-- One more is listed; and at the end all are.
use Rattle.std.proofs.Common.{◌≤◌, ◌++◌, sym, ap, ◌∙◌, length, arith}
use Rattle.std.proofs.Math.ListN.{drop_of_length-le}
use Rattle.flat_conversion.specs.Binders.{binders_of_mains}
use Rattle.flat_conversion.proofs.Listing.{main_listed}
use Rattle.flat_conversion.proofs.binders.list_mains.Goals as goal

pub loop-at-preserved : goal.loop-at-preserved
loop-at-preserved c =
    main_listed c.args.list.now c.loop-at.at c.in-Some.form.now c.args.made.now c.loop-at.made c.list_form.new.made c.in-Some.ensures c.loop-at.invariant c.in_ok-list_form.ensures.put

pub returns : goal.returns
returns c = λ rest.
    let xs = c.args.list.now in
    let all : length xs ≤ c.loop-at.at = omega (arith, c.loop-at-test.false, c.len-at-end.ensures) in
    ap (λ fs. c.loop-at.made ++ binders_of_mains fs rest) (sym (drop_of_length-le xs all)) ∙ c.loop-at.invariant rest
