-- The index as far as it is counted, in any program whose maps these are.
use Rattle.lang_meaning.specs.declared.program.ProgramRows.{ProgramRows}
use Rattle.lang_meaning.specs.declared.program.GenericRow.{GenericRow}
use Rattle.lang_dispatch.specs.Tables.{AreMapsOf, AreCalled}
use Rattle.lang_dispatch.proofs.Placing.{Indexing}
use Rattle.lang_dispatch.proofs.table.index_of.Given as goal

abbrev pub invariant-loop-at : goal.invariant-loop-at
invariant-loop-at l =
    (program : ProgramRows) → (g : GenericRow) → AreMapsOf program g l.arguments → AreCalled program g l.classes → Indexing program g l.classes l.index l.at
