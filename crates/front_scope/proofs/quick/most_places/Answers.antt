-- A class more.
use Rattle.std.proofs.Common.{◌≡◌, ◌*◌, Some, get_or, slice_get, rules}
use Rattle.front_scope.specs.Below.{places}
use Rattle.front_scope.proofs.CellBounds.{place_more}
use Rattle.front_scope.proofs.ClassCounts.{number_at}
use Rattle.front_scope.proofs.quick.most_places.Goals as goal

pub loop-class-preserved : goal.loop-class-preserved
loop-class-preserved c =
    let rows = c.args._classes.now.rows in
    let classes = c.args.method.now.classes in
    let class = get_or c.as_slice-class-items.result.now c.loop-class.class-index 0 in
    let there = number_at c.as_slice-class-items.result.now classes c.loop-class.class-index c.as_slice-class-items.ensures c.loop-class-test.true in
    let got : slice_get c.args.below.now class ≡ Some c.in_ok-get.field-0.now = search rules in
    let same : c.in_ok-most.most ≡ c.loop-class.most * c.in_ok-get.field-0.now = search rules in
    place_more rows classes c.loop-class.class-index class (places rows classes) c.loop-class.most c.in_ok-get.field-0.now c.in_ok-most.most
    there (c.requires class c.in_ok-get.field-0.now got) same c.loop-class.invariant
