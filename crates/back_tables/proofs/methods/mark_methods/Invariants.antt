-- The methods from one on are marked.
use Rattle.std.proofs.Common.{map, drop}
use Rattle.lang_meaning.specs.declared.program.MethodRow.{MethodRow}
use Rattle.lang_rows.specs.Marked.{AreMarked}
use Rattle.back_tables.proofs.methods.mark_methods.Given as goal

abbrev pub invariant-loop-at : goal.invariant-loop-at
invariant-loop-at l = AreMarked l.initial.flags (map (λ (m : MethodRow). m.procedure) (drop l.at l.methods)) l.flags
