-- The words of the stack are set, and the outcome goes on.
use Rattle.std.proofs.Common.{ap, ◌∙◌}
use Rattle.eval_machine.specs.Configuration.{configuration, come_to}
use Rattle.eval_state.specs.Frames.{frame_slots, outcome_of}
use Rattle.eval_state.specs.View.{frames}
use Rattle.eval_control.proofs.restoring.restores_stack.Goals as goal

pub returns : goal.returns
returns c =
    let m = c.args.machine.now in
    record {
      given = c.come_to.ensures.given;
      comes = λ names b k.
          c.come_to.ensures.comes names b k
          ∙ ap (λ z. configuration (come_to (outcome_of names c.args.outcome)) (frames names m 0) z) (c.set_stack.ensures names (record b { frame = frame_slots names m.current m.slots.items }));
    }
