-- The table has the value.
use Rattle.flat_language.specs.FlatState.{gives}
use Rattle.eval_machine.specs.Configuration.{ended}
use Rattle.eval_store.specs.declared.word.Word.TheVariants.{Symbol}
use Rattle.eval_store.specs.Words.{value_of_word}
use Rattle.eval_state.specs.View.{frames, state}
use Rattle.eval_step.proofs.Naming.{went_put, defined}
use Rattle.eval_step.proofs.evaluator.Evaluator.define_named.Goals as goal

pub returns : goal.returns
returns c =
    went_put c.args.self.now c.put_under.new.self c.gives.new.self c.args.table c.args.name.0 c.args.word
    (λ m names s b. ended (gives (value_of_word names (Symbol c.args.name)) (state names m b)) (frames names m 0)) _ c.in_ok-put_under.ensures c.gives.ensures
    (λ names written unread b st. defined c.args.table c.args.name c.args.word names c.args.self.now.machine b)
