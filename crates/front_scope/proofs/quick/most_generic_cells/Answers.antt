-- Its maps, its combinations of groups, and the methods of all chains.
use Rattle.std.proofs.Common.{◌≡◌, ◌≤◌, ◌+◌, ◌*◌, length, filter, IfSome, ap, ◌∙◌, rules, arith}
use Rattle.std.specs.List.{range_with_len}
use Rattle.std.proofs.Math.Nat.{mul-le-mul_left}
use Rattle.lang_meaning.specs.Cells.{is_specialised}
use Rattle.front_scope.proofs.CellBounds.{generic_few, some_as}
use Rattle.front_scope.proofs.quick.most_generic_cells.Goals as goal

pub returns : goal.returns
returns c =
    let rows = c.args.classes.now.rows in
    let g = c.args.generic.now in
    let count = length (filter (is_specialised g) (range_with_len 0 g.required)) in
    let product : c.in_ok-maps.maps ≡ c.len.result * c.specialised_arguments.result = search rules in
    let all : c.len.result ≡ length rows = c.len.ensures ∙ ap length c.rows.ensures.rows in
    let higher : length rows * count ≤ length rows * c.specialised_arguments.result = mul-le-mul_left (length rows) c.specialised_arguments.ensures in
    let maps : length rows * count ≤ c.in_ok-maps.maps = omega (arith, higher, product, ap (λ n. n * c.specialised_arguments.result) all) in
    let first : c.in_ok-checked_add.field-0 ≡ c.in_ok-maps.maps + c.in_ok-tuples.tuples = search rules in
    let most : IfSome c.checked_add-2.result (λ n. n ≡ c.in_ok-checked_add.field-0 + c.in_ok-chains.chains) = search rules in
    let few = generic_few rows g c.in_ok-maps.maps c.in_ok-tuples.tuples c.in_ok-chains.chains maps c.in_ok-tuples.ensures c.in_ok-chains.ensures in
    some_as c.checked_add-2.result _ _ (λ n same. omega (arith, few, first, same)) most
