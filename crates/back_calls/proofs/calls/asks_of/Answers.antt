-- As the tables say.
use Rattle.std.proofs.Common.{◌∙◌}
use Rattle.back_calls.proofs.calls.asks_of.Goals as goal

pub returns : goal.returns
returns c = c.flag.ensures ∙ c.requires.tabled.asking c.args.number c.args.procedure.now c.requires.found
