-- Behind the last procedure of a program.
use Rattle.std.proofs.Common.{◌≡◌, ◌≤◌, ℕ, true, List, length, drop, ap}
use Rattle.std.proofs.lemmas.List.{drop_all}
use Rattle.lang_meaning.specs.declared.program.Procedure.{Procedure}
use Rattle.lang_meaning.specs.declared.program.ProgramRows.{ProgramRows}
use Rattle.lang_meaning.specs.Facts.{procedures_stand}

-- behind the last one there is none
pub none_left : (rows : ProgramRows) (i : ℕ) (ps : List Procedure) → length ps ≤ i → procedures_stand rows i (drop i ps) ≡ true
none_left rows i ps h = ap (procedures_stand rows i) (drop_all i ps h)
