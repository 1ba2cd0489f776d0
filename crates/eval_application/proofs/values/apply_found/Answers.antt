-- A procedure, a function that a form made, a generic function, or none.
use Rattle.lang_meaning.specs.Objects.{function_class}
use Rattle.eval_machine.specs.Applications.{signal_domain}
use Rattle.eval_store.specs.Words.{value_of_word}
use Rattle.eval_state.proofs.Stepping.{on_ok}
use Rattle.eval_state.proofs.Doing.{then_dropped}
use Rattle.eval_application.proofs.Callees.{found_applied}
use Rattle.eval_application.proofs.values.apply_found.Goals as goal

pub returns-in-Procedure : goal.returns-in-Procedure
returns-in-Procedure c =
    on_ok c.apply_procedure.result _ _
    (found_applied c.args.machine.now c.apply_procedure.new.machine c.args.function _ c.args.word c.args.operands c.args.level c.args.around c.in-Procedure.is)
    c.apply_procedure.ensures

pub returns-in-Closure : goal.returns-in-Closure
returns-in-Closure c =
    on_ok c.apply_function.result _ _
    (found_applied c.args.machine.now c.apply_function.new.machine c.args.function _ c.args.word c.args.operands c.args.level c.args.around c.in-Closure.is)
    c.apply_function.ensures

pub returns-in-Generic : goal.returns-in-Generic
returns-in-Generic c =
    on_ok c.apply_generic.result _ _
    (found_applied c.args.machine.now c.apply_generic.new.machine c.args.function _ c.args.word c.args.operands c.args.level c.args.around c.in-Generic.is)
    c.apply_generic.ensures

pub returns-in-NoFunction : goal.returns-in-NoFunction
returns-in-NoFunction c =
    on_ok c.signal_domain.result _ _
    (λ x. found_applied c.args.machine.now c.signal_domain.new.self c.args.function _ c.args.word c.args.operands c.args.level c.args.around c.in-NoFunction.is
    (then_dropped c.args.machine.now c.drop_operands.new.self c.signal_domain.new.self c.args.operands c.args.around (λ names s around frames z. signal_domain s (value_of_word names c.args.word) function_class c.args.level around frames z) c.drop_operands.ensures x))
    c.signal_domain.ensures
