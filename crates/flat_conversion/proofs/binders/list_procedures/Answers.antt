-- One more is listed; and at the end all are.
use Rattle.std.proofs.Common.{◌≤◌, [], ◌∷◌, ◌++◌, sym, ap, ◌∙◌, length, arith, length-append}
use Rattle.std.proofs.Math.ListN.{drop_of_length-le}
use Rattle.flat_conversion.specs.Binders.{binders_of_procedures}
use Rattle.flat_conversion.proofs.Listing.{procedure_listed}
use Rattle.flat_conversion.proofs.binders.list_procedures.Goals as goal

pub list_body-requires : goal.list_body-requires
list_body-requires c = omega (arith, c.len-number.ensures, ap length c.in_ok-push.ensures.ok, length-append c.loop-at.made (c.reserved.result ∷ []))

pub loop-at-preserved : goal.loop-at-preserved
loop-at-preserved c =
    procedure_listed c.args.list.now c.loop-at.at c.in-Some.row.now c.in_ok-variables.variables c.in_ok-variables.ensures c.args.made.now c.loop-at.made c.push.new.self c.list_body.new.made c.reserved.result c.len-number.result _
    c.in-Some.ensures c.loop-at.invariant c.len-number.ensures c.in_ok-push.ensures.ok c.in_ok-list_body.ensures

pub returns : goal.returns
returns c = λ rest.
    let xs = c.args.list.now in
    let all : length xs ≤ c.loop-at.at = omega (arith, c.loop-at-test.false, c.len-at-end.ensures) in
    ap (λ ps. c.loop-at.made ++ binders_of_procedures ps rest) (sym (drop_of_length-le xs all)) ∙ c.loop-at.invariant rest
