-- The image file of a whole program, or the offence of the text.
use Rattle.std.proofs.Common.{◌≡◌, ℕ, List, refl, sym, subst}
use Rattle.top_command.specs.declared.command.Action.TheVariants.{Build}
use Rattle.top_lines.specs.Lines.{answer_of_stop}
use Rattle.top_main.specs.Theorem.{IsTextOf}
use Rattle.top_main.proofs.Written.{of_built, of_no_program}
use Rattle.top_main.proofs.build.build_text.Goals as goal

pub returns-in-Ok : goal.returns-in-Ok
returns-in-Ok g c = λ held is_text.
    of_built held c.as_slice.result.now
    (record { names = c.in-Ok.whole.names; program = c.in-Ok.whole.program; accepts = c.in-Ok.ensures.program })
    _ _ _ (subst (IsTextOf Build held) (sym c.as_slice.ensures) is_text) c.build_whole-answer.result _ _ _ c.build_whole-answer.ensures

pub returns-in-Err : goal.returns-in-Err
returns-in-Err g c = λ held is_text.
    of_no_program c.of_stop.result c.in-Err.stop held c.as_slice.result.now _ _ _ _ _ _
    (subst (λ (t : List ℕ). c.of_stop.result ≡ answer_of_stop t c.in-Err.stop) (sym c.as_slice.ensures) c.of_stop.ensures)
    (subst (IsTextOf Build held) (sym c.as_slice.ensures) is_text) c.in-Err.ensures.stops refl c.requires.empty
