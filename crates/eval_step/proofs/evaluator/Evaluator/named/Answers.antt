-- The value in the table, or a condition.
use Rattle.std.proofs.Common.{ap, sym}
use Rattle.lang_meaning.specs.Lookup.{text}
use Rattle.flat_language.specs.FlatState.{gives}
use Rattle.eval_machine.specs.Applications.{signal_unbound}
use Rattle.eval_machine.specs.Configuration.{ended, some_or}
use Rattle.eval_state.specs.View.{setting_of, at, frames, state}
use Rattle.eval_step.specs.Named.{pairs_in}
use Rattle.eval_step.proofs.Naming.{went, unbound}
use Rattle.eval_step.proofs.evaluator.Evaluator.named.Goals as goal

pub returns-in-Some : goal.returns-in-Some
returns-in-Some c =
    let e = c.args.self.now in
    let q = c.args.situation in
    went e c.gives.new.self _ _ c.gives.ensures (λ names written unread b k st.
    sym (ap (λ o. some_or o (signal_unbound (setting_of names e.machine.given) (text names c.args.name.0) (at names e.machine q).level
    (at names e.machine q).around) (λ v rest y. ended (gives v y) rest) (frames names e.machine 0) (state names e.machine b))
    (c.in-Some.ensures names written unread b st)))

pub returns-in-None : goal.returns-in-None
returns-in-None c =
    let e = c.args.self.now in
    unbound c.signal_unbound.result e c.signal_unbound.new.self c.args.name.0 c.args.situation
    (λ names b. pairs_in c.args.table (state names e.machine b).state) (λ names s v rest y. ended (gives v y) rest)
    (λ names written unread b st. c.in-None.ensures names written unread b st) c.signal_unbound.ensures
