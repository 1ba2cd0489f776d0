-- The functions of the names so far.
use Rattle.lang_rows.specs.Numbered.{AreOfNames}
use Rattle.lang_rows.proofs.named.rows_of_names.Given as goal

abbrev pub invariant-loop-number : goal.invariant-loop-number
invariant-loop-number l = AreOfNames l.names l.numbered l.number l.rows
