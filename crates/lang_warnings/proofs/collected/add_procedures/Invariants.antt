-- It is left to add the warnings of the rest of the procedures.
use Rattle.std.proofs.Common.{drop}
use Rattle.lang_meaning.specs.declared.program.Procedure.{Procedure}
use Rattle.lang_warnings.specs.Warnings.{warnings_in}
use Rattle.lang_warnings.proofs.Adding.{ToAdd}
use Rattle.lang_warnings.proofs.collected.add_procedures.Given as goal

abbrev pub invariant-loop-row : goal.invariant-loop-row
invariant-loop-row l =
    ToAdd (λ (p : Procedure). warnings_in l.known.names.now l.known.program.now p.body) l.procedures (drop l.row-index l.procedures)
    l.initial.list.items l.list.items
