-- A refusal has the lines of its text, and they are not empty.
use Rattle.std.proofs.Common.{◌≡◌, ℕ, List, [], sym, subst}
use Rattle.std.specs.Prelude.{OnOk}
use Rattle.base.specs.Given.{WasGiven}
use Rattle.top_lines.specs.Lines.{line_of, refusal_lines}
use Rattle.top_lines.specs.declared.status.CommandAnswer.{CommandAnswer}
use Rattle.top_lines.proofs.Fronts.{ends_some}
use Rattle.top_lines.proofs.lines.write_line.Goals as goal

pub returns-in-Refused-clause-given : goal.returns-in-Refused-clause-given
returns-in-Refused-clause-given g c =
    let Given : List ℕ → Type 0 = λ bytes. OnOk c.write_refusal.result (WasGiven (g.E.Sink.given c.args.err.now) bytes (g.E.Sink.given c.write_refusal.new.err)) in
    let P : List ℕ → Type 0 = λ text. Given (refusal_lines c.args.file.now text c.in-Refused.refusal) in
    let Q : CommandAnswer → Type 0 = λ a. Given (line_of c.args.file.now a) in
    subst Q (sym c.in-Refused.is) (subst P c.as_slice-in-Refused.ensures c.write_refusal.ensures.given)

pub returns-in-Refused-clause-quiet : goal.returns-in-Refused-clause-quiet
returns-in-Refused-clause-quiet g c = λ none.
    let Q : CommandAnswer → Type 0 = λ a. line_of c.args.file.now a ≡ [] in
    absurd (ends_some _ _ (subst Q c.in-Refused.is none))
