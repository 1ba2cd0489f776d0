-- It is left to see whether the rest of the procedures stands.
use Rattle.std.proofs.Common.{◌≡◌, drop}
use Rattle.lang_meaning.specs.Facts.{procedures_stand}
use Rattle.test_checker.proofs.procedures.procedures_stand.Given as goal

abbrev pub invariant-loop-id : goal.invariant-loop-id
invariant-loop-id l = procedures_stand l.rows l.id (drop l.id l.rows.procedures) ≡ procedures_stand l.rows 0 l.rows.procedures
