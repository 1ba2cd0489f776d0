use Rattle.std.proofs.Common.{rules, inr, sym, ◌∙◌}
use Rattle.back_program_code.specs.Shapes.{chosen_in}
use Rattle.back_program_code.proofs.Shaped.{shapes_are, places_fit}
use Rattle.back_program_code.proofs.ShapesFit.{shapes_fit}
use Rattle.back_program_code.proofs.TooLarge.{near_or_deep, far_large, front_large}
use Rattle.back_program_code.proofs.plans.plan_of.Goals as goal

pub front_of-requires : goal.front_of-requires
front_of-requires c = shapes_are c.args.program.now c.in_ok-shapes.shapes c.in_ok-shapes.ensures.ok

pub laid_out-requires : goal.laid_out-requires
laid_out-requires c =
    let program = c.args.program.now in
    let shapes = c.in_ok-shapes.shapes in
    let fit = places_fit program shapes c.in_ok-shapes.ensures.ok in
    let are = shapes_are program shapes c.in_ok-shapes.ensures.ok in
    let near : _ = sym c.are_near_shapes.ensures ∙ c.if-not-are_near_shapes.false in (
      c.requires,
      fit,
      are,
      c.in_ok-front.ensures.ok,
      c.in_ok-front.ensures.low,
      shapes_fit program c.in_ok-front.front shapes c.requires fit are c.in_ok-front.ensures.ok c.in_ok-front.ensures.low near,
    )

pub returns-in_err-front-clause-large : goal.returns-in_err-front-clause-large
returns-in_err-front-clause-large c = search (rules, front_large c.args.program.now c.in_ok-shapes.shapes c.in_ok-shapes.ensures.ok)

pub returns-in_err-laid_out-clause-large : goal.returns-in_err-laid_out-clause-large
returns-in_err-laid_out-clause-large c = search (rules, far_large c.args.program.now c.in_ok-shapes.shapes c.in_ok-shapes.ensures.ok)

pub returns-then-not-are_near_shapes-clause-large : goal.returns-then-not-are_near_shapes-clause-large
returns-then-not-are_near_shapes-clause-large c e =
    let program = c.args.program.now in
    let shapes = c.in_ok-shapes.shapes in
    inr (near_or_deep program (chosen_in shapes) c.requires (places_fit program shapes c.in_ok-shapes.ensures.ok) shapes (shapes_are program shapes c.in_ok-shapes.ensures.ok)
    (sym c.are_near_shapes.ensures ∙ c.if-not-are_near_shapes.true))
