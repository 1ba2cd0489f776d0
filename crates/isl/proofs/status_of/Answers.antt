-- Where the text was printed, the answer is that of what is done.
use Rattle.std.proofs.Common.{inl, inr}
use Rattle.top_lines.specs.declared.status.CommandAnswer.TheVariants.{Done}
use Rattle.isl.proofs.status_of.Goals as goal

pub returns-in-Some-clause-line : goal.returns-in-Some-clause-line
returns-in-Some-clause-line g c = λ h.
    elim c.told_status.ensures.told [
      | inl done ↦ (Done, (done, c.told_status.ensures.quiet h))
      | inr fault ↦ absurd (h fault)
    ]
