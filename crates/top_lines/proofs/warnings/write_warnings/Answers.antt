-- One line more; and where there is a warning, the lines are not empty.
use Rattle.std.proofs.Common.{rules, ◌++◌, List, ℕ, sym, subst}
use Rattle.base.specs.Given.{WasGiven}
use Rattle.top_lines.specs.Lines.{place_in, warning_line}
use Rattle.top_lines.specs.Warned.{warned}
use Rattle.top_lines.specs.declared.status.WarningLine.{WarningLine}
use Rattle.std.specs.Prelude.{codes}
use Rattle.top_lines.proofs.Fronts.{given_both, item_there, no_lines, line_more}
use Rattle.top_lines.proofs.warnings.write_warnings.Goals as goal

pub returns-in_err-write_warning-clause-quiet : goal.returns-in_err-write_warning-clause-quiet
returns-in_err-write_warning-clause-quiet g c = λ none.
    let there = item_there c.args.warnings.now c.loop-warning.warning-index c.warning-item.result (search rules) c.warning-item.is in
    absurd (no_lines (λ (w : WarningLine). (place_in c.args.file.now w.place ++ codes ": warning: ") ++ warned w.name w.fault)
    c.args.warnings.now c.loop-warning.warning-index c.warning-item.result there none)

pub loop-warning-preserved : goal.loop-warning-preserved
loop-warning-preserved g c =
    let there = item_there c.args.warnings.now c.loop-warning.warning-index c.warning-item.result (search rules) c.warning-item.is in
    record {
      given =
          subst (λ (text : List ℕ). WasGiven (g.E.Sink.given c.args.err.now) text (g.E.Sink.given c.write_warning.new.err))
          (sym (line_more (warning_line c.args.file.now) c.args.warnings.now c.loop-warning.warning-index c.warning-item.result there))
          (given_both _ _ _ _ _ c.loop-warning.invariant.given c.in_ok-write_warning.ensures.given);
      count = search rules;
    }
