-- No other primitive reads.
use Rattle.std.proofs.Common.{ap, ◌∙◌}
use Rattle.eval_step.specs.Streams.{is_reading}
use Rattle.eval_step.proofs.Reading.{quiet_reads_nothing}
use Rattle.eval_step.proofs.next_step.is_reading.Goals as goal

pub returns-in-Some : goal.returns-in-Some
returns-in-Some c = c.takes_byte.ensures ∙ ap is_reading c.in-Some.ensures

pub returns-in-None : goal.returns-in-None
returns-in-None c = quiet_reads_nothing c.args.which c.in-None.ensures
