-- The class behind its label, the place of the site, and the end of the line.
use Rattle.std.proofs.Common.{ℕ, subst}
use Rattle.std.specs.Prelude.{codes}
use Rattle.std.proofs.lemmas.Result.{on_ok_weaker}
use Rattle.base.specs.Given.{WasGiven}
use Rattle.top_lines.specs.Lines.{labelled}
use Rattle.top_lines.proofs.Fronts.{given_both}
use Rattle.top_lines.proofs.lines.write_unhandled_class.Goals as goal

pub returns-clause-given : goal.returns-clause-given
returns-clause-given g c =
    let label =
    subst
    (λ (n : ℕ). WasGiven (g.E.Sink.given c.args.err.now) (labelled (codes "unhandled class ") n) (g.E.Sink.given c.write_labelled.new.out))
    c.from.ensures c.in_ok-write_labelled.ensures.given in
    on_ok_weaker c.write_all.result
    (given_both _ _ _ _ _ (given_both _ _ _ _ _ label c.in_ok-write_file_site.ensures.given))
    c.write_all.ensures.given
