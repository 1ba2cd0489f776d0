-- There are no more tuples than cells.
use Rattle.std.proofs.Common.{◌≤◌, length, map, ap, ◌∙◌, arith}
use Rattle.lang_meaning.specs.Classes.{chain}
use Rattle.lang_meaning.specs.Cells.{tuples}
use Rattle.lang_dispatch.specs.OfClasses.{with_classes}
use Rattle.lang_dispatch.proofs.TuplePlaces.{tuples-le-cells}
use Rattle.lang_dispatch.specs.Tables.{tuples_of}
use Rattle.lang_dispatch.proofs.table.table_of.Goals as goal

pub chains-requires : goal.chains-requires
chains-requires c =
    let bounded = tuples-le-cells (with_classes c.args.classes.now) c.args.generic.now in
    let same = ap (λ ls. length (tuples ls)) c.in_ok-arguments.ensures.lists in
    omega (arith, bounded, same, c.requires)

pub returns : goal.returns
returns c =
    let bounded : length (tuples_of (with_classes c.args.classes.now) c.args.generic.now) ≤ 262144 =
    omega (arith, tuples-le-cells (with_classes c.args.classes.now) c.args.generic.now, c.requires) in
    record {
      maps = c.in_ok-arguments.ensures.maps;
      cells = c.in_ok-cells.ensures ∙ ap (λ ls. map (chain (with_classes c.args.classes.now) c.args.generic.now) (tuples ls)) c.in_ok-arguments.ensures.lists;
      bounded = bounded;
    }
