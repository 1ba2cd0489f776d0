use Rattle.std.proofs.Common.{rules, ◌≡◌, ◌+◌, ◌++◌, refl, ap, ◌∙◌, arith, append_assoc}
use Rattle.back_emit.specs.PlacedCode.{placed_line, placed_behind}
use Rattle.back_program_code.specs.Shapes.{spot_in}
use Rattle.back_program_code.specs.ShapedImage.{line_instructions, line_spot}
use Rattle.back_program_code.proofs.Joined.{joined_more}
use Rattle.back_program_code.proofs.Fitting.{spot_is, spot_fits}
use Rattle.back_program_code.proofs.Most.{tables_next, tables_within}
use Rattle.back_program_code.proofs.Long.{joined_long, part_long}
use Rattle.back_program_code.proofs.words.put_lines.Goals as goal

pub put_line-requires : goal.put_line-requires
put_line-requires c =
    let within = tables_within c.loop-i.i c.in-Some.line.now c.args.shape.now.chosen.lines c.in-Some.ensures in
    spot_fits c.args.front c.args.shape.now c.requires.0 c.args.entries.now c.args.at c.args.nears.now c.args.lefts.now c.requires.2 (omega (arith, c.requires.1))
    c.placed_spot-spot.result c.sizing_of-sizing.result c.args.nears.now c.in_ok-body.body c.loop-i.table c.loop-i.i c.in-Some.line.now c.placed_spot-spot.ensures
    c.sizing_of-sizing.ensures refl c.in_ok-body.ensures (omega (arith, within, c.loop-i.invariant.1, c.requires.1)) c.in-Some.ensures

pub put_behind-requires : goal.put_behind-requires
put_behind-requires c =
    let within = tables_within c.loop-i.i c.in-Some.line.now c.args.shape.now.chosen.lines c.in-Some.ensures in
    spot_fits c.args.front c.args.shape.now c.requires.0 c.args.entries.now c.args.at c.args.nears.now c.args.lefts.now c.requires.2 (omega (arith, c.requires.1))
    c.placed_spot-spot.result c.sizing_of-sizing.result c.args.nears.now c.in_ok-body.body c.loop-i.table c.loop-i.i c.in-Some.line.now c.placed_spot-spot.ensures
    c.sizing_of-sizing.ensures refl c.in_ok-body.ensures (omega (arith, within, c.loop-i.invariant.1, c.requires.1)) c.in-Some.ensures

pub overflow_cast-table-in-loop-i : goal.overflow_cast-table-in-loop-i
overflow_cast-table-in-loop-i c =
    let within = tables_within c.loop-i.i c.in-Some.line.now c.args.shape.now.chosen.lines c.in-Some.ensures in
    omega (arith, within, c.requires.1, c.target_count.ensures)

pub overflow_add-table-in-loop-i : goal.overflow_add-table-in-loop-i
overflow_add-table-in-loop-i c =
    let within = tables_within c.loop-i.i c.in-Some.line.now c.args.shape.now.chosen.lines c.in-Some.ensures in
    omega (arith, within, c.loop-i.invariant.1, c.requires.1, c.target_count.ensures)

pub loop-i-preserved : goal.loop-i-preserved
loop-i-preserved c =
    let x = c.in-Some.line.now in
    let f = c.args.front in
    let entries = c.args.entries.now in
    let at = c.args.at in
    let nears = c.args.nears.now in
    let lefts = c.args.lefts.now in
    let shape = c.args.shape.now in
    let spot = c.placed_spot-spot.result in
    let next = tables_next c.loop-i.i (c.loop-i.i + 1) x shape.chosen.lines refl c.in-Some.ensures in
    let same : spot ≡ line_spot f entries at nears lefts shape c.loop-i.i x =
    spot_is f shape c.requires.0 entries at nears lefts c.requires.2 (omega (arith, c.requires.1)) spot c.sizing_of-sizing.result nears c.in_ok-body.body c.loop-i.table
    c.loop-i.i x c.placed_spot-spot.ensures c.sizing_of-sizing.ensures refl c.in_ok-body.ensures
    ∙ ap (λ t. spot_in f entries at nears lefts shape t c.loop-i.i x) c.loop-i.invariant.1 in (
      joined_more (line_instructions f entries at nears lefts shape) c.loop-i.i x shape.chosen.lines c.args.code.now c.loop-i.code _
          (c.in_ok-put_behind.ensures ∙ ap (λ k. k ++ placed_behind shape.chosen.places spot x) c.in_ok-put_line.ensures.ok ∙ append_assoc c.loop-i.code (placed_line shape.chosen.places spot x) (placed_behind shape.chosen.places spot x)
          ∙ ap (λ k. c.loop-i.code ++ (placed_line shape.chosen.places k x ++ placed_behind shape.chosen.places k x)) same)
          c.loop-i.invariant.0 c.in-Some.ensures,
      omega (arith, next, c.loop-i.invariant.1, c.target_count.ensures),
    )

pub returns-in_err-put_line-clause-err : goal.returns-in_err-put_line-clause-err
returns-in_err-put_line-clause-err c =
    let x = c.in-Some.line.now in
    let f = c.args.front in
    let entries = c.args.entries.now in
    let at = c.args.at in
    let nears = c.args.nears.now in
    let lefts = c.args.lefts.now in
    let shape = c.args.shape.now in
    let spot = c.placed_spot-spot.result in
    let same : spot ≡ line_spot f entries at nears lefts shape c.loop-i.i x =
    spot_is f shape c.requires.0 entries at nears lefts c.requires.2 (omega (arith, c.requires.1)) spot c.sizing_of-sizing.result nears c.in_ok-body.body c.loop-i.table
    c.loop-i.i x c.placed_spot-spot.ensures c.sizing_of-sizing.ensures refl c.in_ok-body.ensures
    ∙ ap (λ t. spot_in f entries at nears lefts shape t c.loop-i.i x) c.loop-i.invariant.1 in
    let within = joined_long (line_instructions f entries at nears lefts shape) 0 c.loop-i.i c.loop-i.i x shape.chosen.lines (omega arith) c.in-Some.ensures in
    search (rules, part_long shape.chosen.places spot (line_spot f entries at nears lefts shape c.loop-i.i x) x _ same within)
