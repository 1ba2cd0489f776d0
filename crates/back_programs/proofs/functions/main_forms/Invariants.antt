-- The main forms that are left stand behind those that were made.
use Rattle.std.proofs.Common.{◌≡◌, ◌++◌, drop, map}
use Rattle.back_lowering.specs.Program as lowering
use Rattle.back_programs.proofs.functions.main_forms.Given as goal

abbrev pub invariant-loop-i : goal.invariant-loop-i
invariant-loop-i l =
    l.list ++ map (lowering.main_form l.given.names.now l.given.at.now l.given.program.now) (drop l.i l.given.program.now.main)
    ≡ l.initial.list ++ map (lowering.main_form l.given.names.now l.given.at.now l.given.program.now) l.given.program.now.main
