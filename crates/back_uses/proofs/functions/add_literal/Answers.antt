-- A literal that is not there names nothing.
use Rattle.std.proofs.Common.{ap}
use Rattle.std.proofs.lemmas.Option.{slice_get_past}
use Rattle.back_words.specs.Uses.{of_literal}
use Rattle.back_uses.proofs.Adding.{none_added, same_added}
use Rattle.back_uses.proofs.functions.add_literal.Goals as goal

pub returns-in-None : goal.returns-in-None
returns-in-None c =
    same_added
    (ap (of_literal c.args.lookups.now.names.now c.args.lookups.now.program.now)
    (slice_get_past c.args.lookups.now.program.now.literals c.args.literal c.in-None.ensures))
    (none_added c.args.used.now)
