-- What suits the tables is taken.
use Rattle.front_elaboration.proofs.MakingStops.{method_wants}
use Rattle.front_elaboration.proofs.elaborate.methods.add_method.Goals as goal

pub add_method-requires : goal.add_method-requires
add_method-requires c = c.requires.there

pub want-requires : goal.want-requires
want-requires c =
    method_wants (record { line = 0; column = 0 }) c.args.tables.now.generics c.args.generic c.args.head c.args.procedure c.has_rest-rest.result c.in-Err.stop
    c.has_rest-rest.ensures c.requires.takes c.in-Err.ensures.refused
