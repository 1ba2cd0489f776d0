use Rattle.std.proofs.Common.{[], ◌∷◌, ◌++◌, ap, ◌∙◌, arith}
use Rattle.back_emit.specs.PlacedNear.{placed_is_near}
use Rattle.back_program_code.specs.Shapes.{spot_in}
use Rattle.back_program_code.proofs.Joined.{joined_one}
use Rattle.back_program_code.proofs.Fitting.{spot_is, spot_fits}
use Rattle.back_program_code.proofs.nears.shape_nears.Goals as goal

pub line_is_near-requires : goal.line_is_near-requires
line_is_near-requires c =
    spot_fits c.args.front c.args.shape.now c.requires.0 c.args.entries.now c.args.at [] c.args.lefts.now c.requires.2 (omega (arith, c.requires.1))
    c.placed_spot-spot.result c.sizing_of-sizing.result c.new-none.result c.in_ok-body.body 0 c.loop-i.i c.in-Some.line.now c.placed_spot-spot.ensures
    c.sizing_of-sizing.ensures c.new-none.ensures c.in_ok-body.ensures (omega arith) c.in-Some.ensures

pub loop-i-preserved : goal.loop-i-preserved
loop-i-preserved c =
    let x = c.in-Some.line.now in
    joined_one (λ line y. placed_is_near c.args.shape.now.chosen.places (spot_in c.args.front c.args.entries.now c.args.at [] c.args.lefts.now c.args.shape.now 0 line y) y ∷ []) c.loop-i.i x _ _ _
    (c.in_ok-push.ensures.ok
    ∙ ap (λ n. c.loop-i.nears ++ n ∷ [])
    (c.in_ok-line_is_near.ensures
    ∙ ap (λ s. placed_is_near c.args.shape.now.chosen.places s x)
    (spot_is c.args.front c.args.shape.now c.requires.0 c.args.entries.now c.args.at [] c.args.lefts.now c.requires.2 (omega (arith, c.requires.1))
    c.placed_spot-spot.result c.sizing_of-sizing.result c.new-none.result c.in_ok-body.body 0 c.loop-i.i x c.placed_spot-spot.ensures
    c.sizing_of-sizing.ensures c.new-none.ensures c.in_ok-body.ensures)))
    c.loop-i.invariant c.in-Some.ensures
