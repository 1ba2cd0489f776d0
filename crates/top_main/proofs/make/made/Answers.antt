-- The counts behind a value, or the answer as it was.
use Rattle.std.proofs.Common.{ℕ, refl, subst, inl, inr}
use Rattle.base.specs.Outside.{Rose}
use Rattle.top_lines.specs.Lines.{counts_line}
use Rattle.top_main.specs.Answers.{BytesAnswers}
use Rattle.top_main.proofs.make.made.Goals as goal

pub returns-in-Done : goal.returns-in-Done
returns-in-Done g c =
    let words =
    subst
    (λ (m : ℕ). BytesAnswers c.tell_counts.result (counts_line c.nodes.result m c.args.ran.executed) (g.O.Sink.given c.args.out.now) (g.O.Sink.given c.tell_counts.new.out)
    (Rose (g.O.Sink.faults c.args.out.now) (g.O.Sink.faults c.tell_counts.new.out)))
    c.from.ensures c.tell_counts.ensures in
    inl (
      c.in-Done.is,
      subst
          (λ (m : ℕ). BytesAnswers c.tell_counts.result (counts_line m c.args.ran.words c.args.ran.executed) (g.O.Sink.given c.args.out.now) (g.O.Sink.given c.tell_counts.new.out)
          (Rose (g.O.Sink.faults c.args.out.now) (g.O.Sink.faults c.tell_counts.new.out)))
          c.nodes.ensures words,
    )

pub returns-in_default : goal.returns-in_default
returns-in_default g c = inr (c.in_default.not-Done, (refl, refl))
