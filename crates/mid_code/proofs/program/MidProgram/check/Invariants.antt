-- It is left to see whether the rest is in form.
use Rattle.std.proofs.Common.{◌≡◌, drop}
use Rattle.std.specs.List.{list_all}
use Rattle.mid_code.specs.Checked.{is_sound_in}
use Rattle.mid_code.proofs.program.MidProgram.check.Given as goal

abbrev pub invariant-loop-procedure : goal.invariant-loop-procedure
invariant-loop-procedure l =
    list_all (is_sound_in l.self.procedures) (drop l.procedure-index l.self.procedures) ≡ list_all (is_sound_in l.self.procedures) l.self.procedures
