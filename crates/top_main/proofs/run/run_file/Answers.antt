-- The answer for a file to run or to show, by the verdict on its text.
use Rattle.std.proofs.Common.{◌≡◌, ℕ, List, refl, sym, subst}
use Rattle.front_files.specs.declared.mode.Mode.{Mode}
use Rattle.front_files.specs.Verdicts.{Accepts}
use Rattle.top_exec.specs.Loads.{IsTextTaken}
use Rattle.top_lines.specs.Lines.{answer_of_stop}
use Rattle.top_main.specs.Theorem.{library}
use Rattle.top_main.proofs.Outcomes.{of_program, of_stop, of_action, text_taken}
use Rattle.top_main.proofs.run.run_file.Goals as goal

pub returns-in-Ok-read_program : goal.returns-in-Ok-read_program
returns-in-Ok-read_program g c =
    let names = c.in-Ok-read_program.whole.names in
    let program = c.in-Ok-read_program.whole.program in
    let text = c.as_slice.result.now in
    of_program c.args.action _ text
    (record { names = names; program = program; accepts = subst (λ (m : Mode). Accepts library text m names program) c.mode_of.ensures c.in-Ok-read_program.ensures.program })
    _ _ _ _ _ _ _ _ _ _
    (text_taken c.args.action _ text c.requires.runs (subst (IsTextTaken (g.F.Shelf.holds c.args.shelf.now c.args.file.now)) (sym c.as_slice.ensures) c.in-Ok.ensures.taken))
    _ (of_action names program _ _ _ _ _ _ _ _ _ c.args.action c.requires.runs c.run-answer.result.answer c.run-answer.ensures.answer)

pub returns-in-Err : goal.returns-in-Err
returns-in-Err g c =
    of_stop c.of_stop.result c.in-Err.stop c.args.action c.mode_of.result _ c.as_slice.result.now _ _ _ _ _ _ _ _ _ _
    (subst (λ (t : List ℕ). c.of_stop.result ≡ answer_of_stop t c.in-Err.stop) (sym c.as_slice.ensures) c.of_stop.ensures) c.mode_of.ensures
    (text_taken c.args.action _ c.as_slice.result.now c.requires.runs (subst (IsTextTaken (g.F.Shelf.holds c.args.shelf.now c.args.file.now)) (sym c.as_slice.ensures) c.in-Ok.ensures.taken))
    c.in-Err.ensures.stops (refl, refl) c.requires.empty
