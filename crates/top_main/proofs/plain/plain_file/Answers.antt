-- The answer for a file to evaluate, by the verdict on its text.
use Rattle.std.proofs.Common.{sym, subst}
use Rattle.top_exec.specs.Loads.{IsTextTaken}
use Rattle.top_command.specs.declared.command.Action.TheVariants.{Plain}
use Rattle.top_main.proofs.Outcomes.{of_program}
use Rattle.top_main.proofs.plain.plain_file.Goals as goal

pub returns-in-Ok-read_program : goal.returns-in-Ok-read_program
returns-in-Ok-read_program g c =
    of_program Plain _ c.as_slice.result.now
    (record { names = c.in-Ok-read_program.whole.names; program = c.in-Ok-read_program.whole.program; accepts = c.in-Ok-read_program.ensures.program })
    _ _ _ _ _ _ _ _ _ _
    (subst (IsTextTaken (g.F.Shelf.holds c.args.shelf.now c.args.file.now)) (sym c.as_slice.ensures) c.in-Ok.ensures.taken)
    c.plain-answer.result c.plain-answer.ensures
