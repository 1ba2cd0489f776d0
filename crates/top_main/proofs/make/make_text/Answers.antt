-- The answer for a number, by the verdict on its text.
use Rattle.std.proofs.Common.{◌≡◌, ℕ, List, refl, sym, subst, ◌∙◌}
use Rattle.top_command.specs.declared.command.Action.TheVariants.{Make}
use Rattle.top_lines.specs.Lines.{answer_of_stop}
use Rattle.top_main.proofs.Outcomes.{of_program, of_stop}
use Rattle.top_main.proofs.make.make_text.Goals as goal

pub returns-in-Ok-read_program : goal.returns-in-Ok-read_program
returns-in-Ok-read_program g c = λ held.
    of_program (Make c.args.number) held c.as_slice.result.now
    (record { names = c.in-Ok-read_program.whole.names; program = c.in-Ok-read_program.whole.program; accepts = c.in-Ok-read_program.ensures.program })
    _ _ _ _ _ _ _ _ _ _
    (c.as_slice.ensures ∙ c.in-Ok.ensures)
    c.make-answer.result (c.make-answer.ensures c.args.number)

pub returns-in-Err-read_program : goal.returns-in-Err-read_program
returns-in-Err-read_program g c = λ held.
    of_stop c.of_stop.result c.in-Err-read_program.stop (Make c.args.number) _ held c.as_slice.result.now _ _ _ _ _ _ _ _ _ _
    (subst (λ (t : List ℕ). c.of_stop.result ≡ answer_of_stop t c.in-Err-read_program.stop) (sym c.as_slice.ensures) c.of_stop.ensures) refl (c.as_slice.ensures ∙ c.in-Ok.ensures)
    c.in-Err-read_program.ensures.stops (refl, refl) c.requires.empty
