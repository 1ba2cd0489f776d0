-- The words of the stack are set, and the value goes on.
use Rattle.std.proofs.Common.{ap, ◌∙◌}
use Rattle.flat_language.specs.FlatState.{gives}
use Rattle.eval_machine.specs.Configuration.{ended}
use Rattle.eval_store.specs.Words.{value_of_word}
use Rattle.eval_state.specs.Frames.{frame_slots}
use Rattle.eval_state.specs.View.{frames}
use Rattle.eval_control.proofs.main_forms.main_value.Goals as goal

pub returns : goal.returns
returns c =
    let m = c.args.machine.now in
    record {
      given = c.gives.ensures.given;
      comes = λ names b k.
          c.gives.ensures.comes names b k
          ∙ ap (λ z. ended (gives (value_of_word names c.args.word) z) (frames names m 0)) (c.set_stack.ensures names (record b { frame = frame_slots names m.current m.slots.items }));
    }
