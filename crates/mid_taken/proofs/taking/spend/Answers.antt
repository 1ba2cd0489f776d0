use Rattle.std.proofs.Common.{arith}
use Rattle.base.specs.declared.reason.Reason.TheVariants.{ExpansionTooLarge}
use Rattle.mid_taken.specs.Taking.{PartFails}
use Rattle.mid_taken.proofs.Takes.{too_large, stops_refused}
use Rattle.mid_taken.proofs.taking.spend.Goals as goal

pub returns-then-left-size-clause-stops : goal.returns-then-left-size-clause-stops
returns-then-left-size-clause-stops c = λ deep.
    stops_refused c.args.from.now.place (λ r. PartFails c.args.from.now c.args.part deep c.args.left.now r) ExpansionTooLarge c.refused.result c.refused.ensures
    (too_large c.args.from.now c.args.part deep c.args.left.now (omega (arith, c.if-left-size.true, c.part_size-size.ensures)))
