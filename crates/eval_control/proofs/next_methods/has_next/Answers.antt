-- The value of the test goes into the innermost frame.
use Rattle.std.proofs.Common.{ap, ◌∙◌}
use Rattle.lang_meaning.specs.Values.{truth}
use Rattle.flat_language.specs.FlatState.{gives}
use Rattle.eval_machine.specs.Configuration.{ended}
use Rattle.eval_state.specs.View.{frames, state}
use Rattle.eval_state.proofs.Going.{followed}
use Rattle.eval_control.proofs.next_methods.has_next.Goals as goal

pub returns : goal.returns
returns c =
    let m = c.args.machine.now in
    followed _ _ _ _ c.gives.ensures (λ names s b.
    ap (λ v. ended (gives v (state names m b)) (frames names m 0)) (c.truth_word-word.ensures names)
    ∙ ap (λ t. ended (gives (truth t) (state names m b)) (frames names m 0)) (c.is_next.ensures names c.args.situation))
