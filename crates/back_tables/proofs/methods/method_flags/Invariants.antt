-- The methods from a generic function on are marked.
use Rattle.std.proofs.Common.{drop}
use Rattle.lang_rows.specs.Marked.{AreFlags, methods_of}
use Rattle.back_tables.proofs.methods.method_flags.Given as goal

abbrev pub invariant-loop-at : goal.invariant-loop-at
invariant-loop-at l = AreFlags l.count (methods_of (drop l.at l.generics)) l.flags
