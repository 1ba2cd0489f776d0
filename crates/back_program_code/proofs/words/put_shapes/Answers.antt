use Rattle.std.proofs.Common.{rules, ◌++◌, sym, ap, subst, ◌∙◌}
use Rattle.std.specs.Prelude.{slice_get, slice_index}
use Rattle.back_program_code.specs.Shapes.{listed, AreLow}
use Rattle.back_program_code.specs.ShapedImage.{shape_image, numbered_image}
use Rattle.back_program_code.proofs.Joined.{joined_more}
use Rattle.back_program_code.proofs.Positions.{within, are_low}
use Rattle.back_program_code.proofs.Long.{image_part_long}
use Rattle.back_program_code.proofs.words.put_shapes.Goals as goal

pub put_shape-requires : goal.put_shape-requires
put_shape-requires c =
    let f = c.args.front in
    let lefts = c.args.lefts.now in
    let shapes = c.args.shapes.now in
    let n = c.loop-number.number in
    let low = c.requires.4 in
    let is = c.requires.3 in (
      c.requires.0 n c.in-Some.shape.now c.in-Some.ensures,
      within f lefts shapes n c.entry_position-at.result c.in-Some-get.left.now c.in-Some.shape.now c.in-Some.ensures c.in-Some-get.ensures
          (c.entry_position-at.ensures ∙ ap (λ es. slice_index es n) is) low,
      subst AreLow (sym is) (are_low f lefts shapes low),
    )

pub loop-number-preserved : goal.loop-number-preserved
loop-number-preserved c =
    let f = c.args.front in
    let n = c.loop-number.number in
    let s = c.in-Some.shape.now in
    let entries = c.args.entries.now in
    let old = c.loop-number.words in
    joined_more (numbered_image f entries c.args.nears.now c.args.lefts.now) n s _ c.args.words.now _ _
    (c.in_ok-put_shape.ensures.ok
    ∙ ap (λ at. old ++ shape_image f entries at c.in-Some-get-2.near.now c.in-Some-get.left.now s) c.entry_position-at.ensures
    ∙ ap (λ o. old ++ shape_image f entries (slice_index entries n) (listed o) c.in-Some-get.left.now s) (sym c.in-Some-get-2.ensures)
    ∙ ap (λ o. old ++ shape_image f entries (slice_index entries n) (listed (slice_get c.args.nears.now n)) (listed o) s) (sym c.in-Some-get.ensures))
    c.loop-number.invariant c.in-Some.ensures

pub returns-in_err-put_shape-clause-err : goal.returns-in_err-put_shape-clause-err
returns-in_err-put_shape-clause-err c =
    search (
      rules,
      image_part_long c.args.front c.args.entries.now c.args.nears.now c.args.lefts.now c.args.shapes.now c.loop-number.number c.entry_position-at.result c.in-Some-get-2.near.now
          c.in-Some-get.left.now c.in-Some.shape.now c.in-Some.ensures c.in-Some-get-2.ensures c.in-Some-get.ensures c.entry_position-at.ensures,
    )
