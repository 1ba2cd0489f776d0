-- The variable of the innermost binding, or the outermost value.
use Rattle.std.proofs.Common.{Some, subst}
use Rattle.std.proofs.lemmas.Result.{on_ok_weaker}
use Rattle.lang_meaning.specs.Lookup.{text, set_at}
use Rattle.flat_language.specs.FlatState.{gives, on_state}
use Rattle.eval_machine.specs.Configuration.{ended}
use Rattle.eval_store.specs.Words.{value_of_word}
use Rattle.eval_state.specs.View.{at}
use Rattle.eval_control.specs.Bindings.{IsBindingFound}
use Rattle.eval_step.specs.declared.named.Table.TheVariants.{Dynamics}
use Rattle.eval_step.specs.Named.{set_named_step}
use Rattle.eval_step.proofs.Searching.{found_runs, unfound_runs, variable_set}
use Rattle.eval_step.proofs.evaluator.Evaluator.set_dynamic.Goals as goal

pub returns-in-Some : goal.returns-in-Some
returns-in-Some c =
    let e = c.args.self.now in
    let q = c.args.situation in
    let n = c.args.name.0 in
    let mid = c.find_binding.new.machine in
    let m = c.gives.new.self in
    found_runs e mid m n c.in-Some.number q
    (λ names v frs z. ended (gives (value_of_word names c.args.word) (on_state (λ y. set_at (Some v) (value_of_word names c.args.word) y) z)) frs)
    (λ names s. set_named_step Dynamics s (text s.names n) (value_of_word names c.args.word) (at names e.machine q))
    (subst (IsBindingFound e.machine mid n q.around.bindings) c.in-Some.is c.in_ok-number.ensures)
    (variable_set mid m c.set_variable.new.self c.in-Some.number c.args.word c.set_variable.ensures c.gives.ensures)

pub returns-in-None : goal.returns-in-None
returns-in-None c =
    let e = c.args.self.now in
    let q = c.args.situation in
    let n = c.args.name.0 in
    let mid = c.find_binding.new.machine in
    on_ok_weaker c.set_named.result
    (unfound_runs e c.set_named.new.self mid n q
    (λ names v frs z. ended (gives (value_of_word names c.args.word) (on_state (λ y. set_at (Some v) (value_of_word names c.args.word) y) z)) frs)
    (λ names s at_q. set_named_step Dynamics s (text s.names n) (value_of_word names c.args.word) at_q)
    (subst (IsBindingFound e.machine mid n q.around.bindings) c.in-None.is c.in_ok-number.ensures))
    c.set_named.ensures
