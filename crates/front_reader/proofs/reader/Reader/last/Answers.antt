use Rattle.std.proofs.Common.{sym, eq-eqb, length}
use Rattle.std.proofs.lemmas.Bool.{eqb-true}
use Rattle.front_reader.proofs.Answering.{gap-at-end, end-at-gap, open-no-gap}
use Rattle.front_reader.proofs.reader.Reader.last.Goals as goal

pub returns-in-Ends : goal.returns-in-Ends
returns-in-Ends c =
    rw (← c.self.view_is) (
      λ e. gap-at-end c.self.inside.rest.now c.in-Ends.n (sym c.in-Ends.ensures) (eqb-true c.in-Ends.n (length c.self.inside.rest.now) e),
      λ g. eq-eqb c.in-Ends.n (length c.self.inside.rest.now) (end-at-gap c.self.inside.rest.now c.in-Ends.n (sym c.in-Ends.ensures) g),
    )

pub returns-in-OpenFrom : goal.returns-in-OpenFrom
returns-in-OpenFrom c =
    rw (← c.self.view_is)
    (λ e. absurd (cc), λ g. absurd (open-no-gap c.self.inside.rest.now c.in-OpenFrom.field-0 (sym c.in-OpenFrom.ensures) g))
