-- What the functions in front add is there, and what those behind add suits the tables.
use Rattle.std.proofs.Common.{drop}
use Rattle.front_elaboration.proofs.MakingClasses.{FunctionsAdded}
use Rattle.front_elaboration.proofs.elaborate.classes.add_slot_functions.Given as goal

abbrev pub invariant-loop-at : goal.invariant-loop-at
invariant-loop-at l =
    FunctionsAdded l.class l.of_file l.functions l.fn.first l.fn.tables (drop l.at l.functions) l.procedure l.tables
