-- The variable is in the set.
use Rattle.flat_conversion.proofs.Marking.{set_marked}
use Rattle.flat_conversion.proofs.marks.Marks.set.Goals as goal

pub returns : goal.returns
returns c = set_marked c.args.self.now c.insert.new.self c.args.var c.in_ok-insert.ensures.updates
