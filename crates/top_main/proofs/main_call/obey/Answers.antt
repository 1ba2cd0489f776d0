-- The file is the one that the command names.
use Rattle.std.proofs.Common.{◌≡◌, List, ℕ, subst}
use Rattle.base.specs.Outside.{Rose}
use Rattle.top_exec.specs.Runs.{sent_to}
use Rattle.top_main.specs.Answers.{Obeys}
use Rattle.top_main.proofs.main_call.obey.Goals as goal

pub returns : goal.returns
returns g c =
    subst
    (λ (name : List ℕ). Obeys c.act.result (record { action = c.args.command.now.action; steps = c.args.command.now.steps; arena = c.args.command.now.arena; file = name })
    (g.F.Shelf.holds c.args.shelf.now name) c.act.new.kept.image
    (g.S.Source.left c.args.input.now) (g.S.Source.left c.act.new.input)
    (sent_to (g.O.Sink.given c.args.out.now) (g.O.Sink.writes c.args.out.now) (g.O.Sink.given c.act.new.out) (g.O.Sink.writes c.act.new.out))
    (Rose (g.F.Shelf.faults c.args.shelf.now) (g.F.Shelf.faults c.act.new.shelf))
    (Rose (g.S.Source.faults c.args.input.now) (g.S.Source.faults c.act.new.input))
    (Rose (g.O.Sink.faults c.args.out.now) (g.O.Sink.faults c.act.new.out))
    (c.act.new.out ≡ c.args.out.now) (c.act.new.input ≡ c.args.input.now) (c.act.new.shelf ≡ c.args.shelf.now))
    c.as_str-file.ensures.value c.act.ensures
