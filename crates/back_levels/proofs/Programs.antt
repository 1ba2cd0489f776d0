-- Whole programs, from what the run comes to.
use Rattle.back_levels.specs.Programs.{LawOfPrograms}
use Rattle.back_levels.proofs.Runs.{runs_law}
use Rattle.back_levels.proofs.RunsMeant.{runs_meant_law}

pub programs_law : LawOfPrograms
programs_law setting right input k w y does b enough = runs_meant_law setting input k w y b enough (runs_law setting right input k w y does b)
