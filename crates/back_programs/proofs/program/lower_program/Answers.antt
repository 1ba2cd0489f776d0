-- The tables are those of the program.
use Rattle.std.proofs.Common.{refl}
use Rattle.back_programs.proofs.program.lower_program.Goals as goal

pub procedures_of-requires : goal.procedures_of-requires
procedures_of-requires c = c.in_ok-tables.ensures _ refl refl refl
