-- No situation links to the frame.
use Rattle.std.proofs.Common.{◌∷◌, ap, reverse}
use Rattle.std.proofs.lemmas.Result.{on_ok_weaker}
use Rattle.eval_machine.specs.Configuration.{configuration, evaluate}
use Rattle.eval_state.specs.Tops.{taken, below}
use Rattle.eval_state.specs.View.{state}
use Rattle.eval_state.proofs.Going.{followed}
use Rattle.eval_state.proofs.Tops.{stays_unlinked}
use Rattle.eval_state.proofs.machine.Machine.hold.Goals as goal

pub returns : goal.returns
returns c =
    let m = c.args.self.now in
    on_ok_weaker c.enter.result
    (λ x. followed _ _ _ _ x (λ names s b.
    ap (λ p. configuration (evaluate c.args.form.now p) (taken names m c.args.frame ∷ below names m c.args.frame) (state names m b))
    (stays_unlinked names m.current (reverse m.frames.items) c.args.frame c.args.situation c.requires)))
    c.enter.ensures
