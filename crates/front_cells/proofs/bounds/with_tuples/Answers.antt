-- The maps, the tuples, and the methods of all chains.
use Rattle.std.proofs.Common.{◌≡◌, ◌+◌, IfSome, arith, rules}
use Rattle.front_cells.proofs.Tupling.{generic_few, all_tuples_counted, some_as}
use Rattle.front_cells.proofs.bounds.with_tuples.Goals as goal

pub returns : goal.returns
returns c =
    let rows = c.args._classes.now in
    let g = c.args.generic.now in
    let first : c.in_ok-checked_add.field-0 ≡ c.args.maps + c.args.counts.now.tuples = search rules in
    let most : IfSome c.checked_add-2.result (λ n. n ≡ c.in_ok-checked_add.field-0 + c.in_ok-chained.chained) = search rules in
    let few = generic_few rows g c.args.maps c.args.counts.now.tuples c.in_ok-chained.chained c.requires.maps (all_tuples_counted rows g c.args.counts.now c.requires.counts) c.in_ok-chained.ensures in
    some_as c.checked_add-2.result _ _ (λ n same. omega (arith, few, first, same)) most
