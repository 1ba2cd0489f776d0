-- The frames have one more on top.
use Rattle.std.proofs.Common.{ap, ◌∙◌, reverse}
use Rattle.eval_machine.specs.Configuration.{configuration, evaluate}
use Rattle.eval_state.specs.Frames.{situation_in}
use Rattle.eval_state.specs.View.{frames, state}
use Rattle.eval_state.proofs.Tops.{entered}
use Rattle.eval_state.proofs.machine.Machine.enter.Goals as goal

pub returns : goal.returns
returns c =
    let m = c.args.self.now in
    let pushed = c.in_ok-push_frame.ensures in
    record {
      given = ap (λ n. n.given) pushed.same;
      comes = λ names b k.
          ap (λ n. configuration (evaluate c.args.form.now (situation_in names n.current (reverse n.frames.items) c.args.inside)) (frames names n 0) (state names n b)) pushed.same
          ∙ entered names m.current m.operands.items m.slots.items m.frames.items c.push_frame.new.self.frames.items c.args.frame c.args.form.now c.args.inside (state names m b) pushed.frames;
    }
