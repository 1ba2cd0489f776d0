-- The variable is set, and its value goes into the innermost frame.
use Rattle.flat_language.specs.FlatState.{gives, set_to}
use Rattle.eval_machine.specs.Configuration.{ended}
use Rattle.eval_store.specs.Words.{value_of_word}
use Rattle.eval_state.specs.View.{at}
use Rattle.eval_state.proofs.Aside.{after_change}
use Rattle.eval_control.proofs.locals.set_local.Goals as goal

pub returns : goal.returns
returns c =
    let m = c.args.machine.now in
    after_change m c.set_variable.new.machine c.gives.new.self c.args.situation 0 (λ names t p fs z. ended (gives (value_of_word names c.args.word) z) fs)
    (λ names z. set_to c.args.place (value_of_word names c.args.word) (at names m c.args.situation).environment z) (c.set_variable.ensures c.args.situation) c.gives.ensures
