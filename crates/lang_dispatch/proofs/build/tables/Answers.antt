-- One table more.
use Rattle.std.proofs.Common.{◌≡◌, ◌+◌, ◌∷◌, [], length, length-append, ap, ◌∙◌, arith}
use Rattle.lang_meaning.specs.Cells.{generic_cells}
use Rattle.lang_dispatch.specs.OfClasses.{with_classes}
use Rattle.lang_dispatch.proofs.Picking.{item_at}
use Rattle.lang_dispatch.proofs.Making.{one_of_sum, tables_more}
use Rattle.lang_dispatch.proofs.build.tables.Goals as goal

pub table_of-requires : goal.table_of-requires
table_of-requires c =
    let there = item_at c.as_slice-generic-items.result.now c.args.generics.now c.loop-generic.generic-index c.generic-item.result c.as_slice-generic-items.ensures c.loop-generic-test.true c.generic-item.is in
    omega (arith, one_of_sum (generic_cells (with_classes c.args.classes.now)) c.args.generics.now c.loop-generic.generic-index c.generic-item.result there, c.requires)

pub loop-generic-preserved : goal.loop-generic-preserved
loop-generic-preserved c =
    let there = item_at c.as_slice-generic-items.result.now c.args.generics.now c.loop-generic.generic-index c.generic-item.result c.as_slice-generic-items.ensures c.loop-generic-test.true c.generic-item.is in
    record {
      count = ap length c.in_ok-push.ensures.ok ∙ length-append c.loop-generic.found (c.in_ok-table.table ∷ []) ∙ ap (λ n. n + 1) c.loop-generic.invariant.count;
      each = tables_more (with_classes c.args.classes.now) c.args.generics.now c.loop-generic.found c.push.new.self c.loop-generic.generic-index c.generic-item.result c.in_ok-table.table
          c.loop-generic.invariant.each c.loop-generic.invariant.count there c.in_ok-table.ensures c.in_ok-push.ensures.ok;
    }

pub returns : goal.returns
returns c =
    let all : c.loop-generic.generic-index ≡ length c.args.generics.now = omega (arith, ap length c.as_slice-generic-items.ensures) in
    rw c.of.ensures (record { count = c.loop-generic.invariant.count ∙ all; each = c.loop-generic.invariant.each })
