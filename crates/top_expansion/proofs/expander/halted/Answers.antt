-- It printed, or its word is that of the value.
use Rattle.base.specs.declared.reason.Reason.TheVariants.{ExpanderPrinted}
use Rattle.top_expansion.proofs.Calls.{stops_there, prints, shows}
use Rattle.top_expansion.proofs.expander.halted.Goals as goal

pub returns-then-run-clause-stops : goal.returns-then-run-clause-stops
returns-then-run-clause-stops c =
    stops_there c.args.names.now c.args.call.now ExpanderPrinted c.refused.result c.refused.ensures
    (prints c.args.names.now c.args.call.now c.args.built.now c.requires.call c.args.run.now c.requires.fits c.requires.run c.args.word c.requires.ending
    c.if-run.true)

pub datum_of-requires-clause-shows : goal.datum_of-requires-clause-shows
datum_of-requires-clause-shows c =
    shows c.args.names.now c.args.call.now c.args.built.now c.requires.call c.args.run.now c.requires.fits c.requires.run c.law_values_left.ensures c.args.word
    c.requires.ending c.if-run.false
