-- What the program is warned of, or the offence of the text.
use Rattle.std.proofs.Common.{◌≡◌, ℕ, List, sym, subst}
use Rattle.top_command.specs.declared.command.Action.TheVariants.{Check}
use Rattle.top_lines.specs.Lines.{answer_of_stop}
use Rattle.top_main.specs.Theorem.{IsTextOf}
use Rattle.top_main.proofs.Written.{of_warned, of_unchecked}
use Rattle.top_main.proofs.check.check.Goals as goal

pub returns-in-Ok : goal.returns-in-Ok
returns-in-Ok c = λ held is_text.
    of_warned c.checked-answer.result held c.as_slice.result.now
    (record { names = c.in-Ok.whole.names; program = c.in-Ok.whole.program; accepts = c.in-Ok.ensures.program })
    (subst (IsTextOf Check held) (sym c.as_slice.ensures) is_text) c.checked-answer.ensures

pub returns-in-Err : goal.returns-in-Err
returns-in-Err c = λ held is_text.
    of_unchecked c.of_stop.result c.in-Err.stop held c.as_slice.result.now
    (subst (λ (t : List ℕ). c.of_stop.result ≡ answer_of_stop t c.in-Err.stop) (sym c.as_slice.ensures) c.of_stop.ensures)
    (subst (IsTextOf Check held) (sym c.as_slice.ensures) is_text) c.in-Err.ensures.stops
