-- Methods in front were added, and those behind suit the tables.
use Rattle.std.proofs.Common.{◌≡◌, length, drop}
use Rattle.front_elaboration.proofs.MakingMethods.{MethodsAdded}
use Rattle.front_elaboration.proofs.elaborate.methods.add_methods.Given as goal

abbrev pub invariant-loop-at : goal.invariant-loop-at
invariant-loop-at l = record {
  added : MethodsAdded l.generic l.fn.heads l.fn.first l.fn.tables (drop l.at l.heads) l.procedure l.tables;
  length : length l.heads ≡ length l.fn.heads;
}
