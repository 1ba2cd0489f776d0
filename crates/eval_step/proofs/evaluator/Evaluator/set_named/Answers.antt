-- The table has the value, or there is a condition.
use Rattle.std.proofs.Common.{ap, sym, ◌∙◌}
use Rattle.lang_meaning.specs.Lookup.{text}
use Rattle.flat_language.specs.FlatState.{gives, on_state}
use Rattle.eval_machine.specs.Applications.{signal_unbound}
use Rattle.eval_machine.specs.Configuration.{ended, some_or}
use Rattle.eval_store.specs.Words.{value_of_word}
use Rattle.eval_state.specs.View.{setting_of, at, frames, state}
use Rattle.eval_step.specs.Named.{pairs_in, with_pair}
use Rattle.eval_step.proofs.Naming.{went_put, state_put, unbound}
use Rattle.eval_step.proofs.evaluator.Evaluator.set_named.Goals as goal

pub returns-in_ok-put_under-in-Some : goal.returns-in_ok-put_under-in-Some
returns-in_ok-put_under-in-Some c =
    let e = c.args.self.now in
    let q = c.args.situation in
    let n = c.args.name.0 in
    let w = c.args.word in
    went_put e c.put_under.new.self c.gives.new.self c.args.table n w
    (λ m names s b. ended (gives (value_of_word names w) (state names m b)) (frames names m 0)) _ c.in_ok-put_under-in-Some.ensures c.gives.ensures
    (λ names written unread b st.
    ap (λ z. ended (gives (value_of_word names w) z) (frames names e.machine 0)) (state_put c.args.table n w names e.machine b)
    ∙ sym (ap (λ o. some_or o (signal_unbound (setting_of names e.machine.given) (text names n) (at names e.machine q).level (at names e.machine q).around)
    (λ old rest y. ended (gives (value_of_word names w) (on_state (with_pair c.args.table (text names n) (value_of_word names w)) y)) rest)
    (frames names e.machine 0) (state names e.machine b))
    (c.in-Some.ensures names written unread b st)))

pub returns-in-None : goal.returns-in-None
returns-in-None c =
    let e = c.args.self.now in
    let n = c.args.name.0 in
    unbound c.signal_unbound.result e c.signal_unbound.new.self n c.args.situation (λ names b. pairs_in c.args.table (state names e.machine b).state)
    (λ names s old rest y. ended (gives (value_of_word names c.args.word) (on_state (with_pair c.args.table (text s.names n) (value_of_word names c.args.word)) y)) rest)
    (λ names written unread b st. c.in-None.ensures names written unread b st) c.signal_unbound.ensures
