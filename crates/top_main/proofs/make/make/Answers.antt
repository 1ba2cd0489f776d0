-- The counts are told behind a value; any other answer stays.
use Rattle.std.proofs.Common.{◌≡◌, sym, subst, inl, inr}
use Rattle.base.specs.Outside.{Rose}
use Rattle.top_command.specs.declared.command.Action.TheVariants.{Make}
use Rattle.top_exec.specs.Runs.{sent_to}
use Rattle.top_lines.specs.declared.status.CommandAnswer.{CommandAnswer}
use Rattle.top_main.specs.Answers.{ProgramAnswers}
use Rattle.top_main.proofs.Made.{of_value, of_other, rose_later}
use Rattle.top_main.proofs.make.make.Goals as goal

pub returns : goal.returns
returns g c = λ number.
    elim c.made.ensures [
      | inl h ↦ of_value number _ _ _ _ _ _ _ _ _ _ _ _ _ _ _ _ _ (rose_later _ _ _ c.run-ran.ensures.count) c.made.result c.run-ran.result _ _ h.0 c.run-ran.ensures.counted c.run-ran.ensures.answer h.1
      | inr h ↦
          subst
          (λ o. ProgramAnswers c.made.result (Make number) c.args.whole.now.names c.args.whole.now.program c.run-ran.new.kept.image c.args.bounds.arena c.args.bounds.steps
          (g.S.Source.left c.args.input.now) (g.S.Source.left c.run-ran.new.input)
          (sent_to (g.O.Sink.given c.args.out.now) (g.O.Sink.writes c.args.out.now) (g.O.Sink.given o) (g.O.Sink.writes o))
          (Rose (g.S.Source.faults c.args.input.now) (g.S.Source.faults c.run-ran.new.input))
          (Rose (g.O.Sink.faults c.args.out.now) (g.O.Sink.faults o))
          ((o ≡ c.args.out.now) × (c.run-ran.new.input ≡ c.args.input.now)))
          (sym h.1.1)
          (subst
          (λ (a : CommandAnswer). ProgramAnswers a (Make number) c.args.whole.now.names c.args.whole.now.program c.run-ran.new.kept.image c.args.bounds.arena c.args.bounds.steps
          (g.S.Source.left c.args.input.now) (g.S.Source.left c.run-ran.new.input)
          (sent_to (g.O.Sink.given c.args.out.now) (g.O.Sink.writes c.args.out.now) (g.O.Sink.given c.run-ran.new.out) (g.O.Sink.writes c.run-ran.new.out))
          (Rose (g.S.Source.faults c.args.input.now) (g.S.Source.faults c.run-ran.new.input))
          (Rose (g.O.Sink.faults c.args.out.now) (g.O.Sink.faults c.run-ran.new.out))
          ((c.run-ran.new.out ≡ c.args.out.now) × (c.run-ran.new.input ≡ c.args.input.now)))
          (sym h.1.0)
          (of_other number _ _ _ _ _ _ _ _ _ _ _ c.run-ran.result.answer h.0 c.run-ran.ensures.answer))
    ]
