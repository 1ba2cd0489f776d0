-- One slot behind another.
use Rattle.std.proofs.Common.{[], ◌∷◌}
use Rattle.lang_classes.proofs.builtin.own_pair.Goals as goal

pub returns-clause-own : goal.returns-clause-own
returns-clause-own c = c.in_ok-add_own.ensures.own (c.args.first.now ∷ []) c.in_ok-own.ensures.own
