use Rattle.std.proofs.Common.{rules, sym, subst}
use Rattle.back_emit.specs.PlacedSizes.{EachFits}
use Rattle.back_program_code.proofs.Fitting.{sizing_fits}
use Rattle.back_program_code.proofs.lefts.shape_lefts.Goals as goal

pub rests_of-requires : goal.rests_of-requires
rests_of-requires c = (
  search rules,
  subst (λ z. EachFits c.args.shape.now.chosen.places z c.args.shape.now.ways c.args.nears.now c.args.shape.now.chosen.lines) (sym c.sizing_of-sizing.ensures)
      (sizing_fits c.args.front c.args.shape.now c.requires c.args.nears.now),
)
