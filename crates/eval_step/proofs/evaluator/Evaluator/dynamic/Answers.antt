-- The variable of the innermost binding, or the outermost value.
use Rattle.std.proofs.Common.{Some, subst}
use Rattle.std.proofs.lemmas.Result.{on_ok_weaker}
use Rattle.lang_meaning.specs.Lookup.{text, value_at}
use Rattle.flat_language.specs.FlatState.{gives}
use Rattle.eval_machine.specs.Configuration.{ended}
use Rattle.eval_state.specs.View.{at}
use Rattle.eval_control.specs.Bindings.{IsBindingFound}
use Rattle.eval_step.specs.declared.named.Table.TheVariants.{Dynamics}
use Rattle.eval_step.specs.Named.{named_step}
use Rattle.eval_step.proofs.Searching.{found_runs, unfound_runs, variable_given}
use Rattle.eval_step.proofs.evaluator.Evaluator.dynamic.Goals as goal

pub returns-in-Some : goal.returns-in-Some
returns-in-Some c =
    let e = c.args.self.now in
    let q = c.args.situation in
    let n = c.args.name.0 in
    let mid = c.find_binding.new.machine in
    let m = c.gives.new.self in
    found_runs e mid m n c.in-Some.number q (λ names v frs z. ended (gives (value_at (Some v) z.state) z) frs)
    (λ names s. named_step Dynamics s (text s.names n) (at names e.machine q))
    (subst (IsBindingFound e.machine mid n q.around.bindings) c.in-Some.is c.in_ok-number.ensures)
    (variable_given mid m c.in-Some.number c.variable-word.result c.variable-word.ensures c.gives.ensures)

pub returns-in-None : goal.returns-in-None
returns-in-None c =
    let e = c.args.self.now in
    let q = c.args.situation in
    let n = c.args.name.0 in
    let mid = c.find_binding.new.machine in
    on_ok_weaker c.named.result
    (unfound_runs e c.named.new.self mid n q (λ names v frs z. ended (gives (value_at (Some v) z.state) z) frs)
    (λ names s at_q. named_step Dynamics s (text s.names n) at_q)
    (subst (IsBindingFound e.machine mid n q.around.bindings) c.in-None.is c.in_ok-number.ensures))
    c.named.ensures
