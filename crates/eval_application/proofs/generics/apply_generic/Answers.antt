-- The number of arguments is judged.
use Rattle.std.proofs.Common.{sym, ◌∙◌}
use Rattle.std.proofs.lemmas.Option.{slice_get_past}
use Rattle.eval_state.proofs.Stepping.{on_ok}
use Rattle.eval_application.proofs.Calling.{no_generic, generic_taken, generic_not_taken}
use Rattle.eval_application.proofs.generics.apply_generic.Goals as goal

pub returns-in_default : goal.returns-in_default
returns-in_default c =
    no_generic c.args.machine.now c.give_nil.new.machine c.args.number c.args.operands c.args.level c.args.around (slice_get_past c.args.machine.now.given.program.now.generics c.args.number c.in_default.ensures) c.give_nil.ensures

pub returns-then-takes_arguments : goal.returns-then-takes_arguments
returns-then-takes_arguments c =
    on_ok c.dispatch.result _ _
    (generic_taken c.args.machine.now c.dispatch.new.machine c.in-Some.row.now c.args.number c.args.operands c.held_operands-count.result c.args.level c.args.around c.in-Some.ensures c.held_operands-count.ensures (sym c.takes_arguments.ensures ∙ c.if-takes_arguments.true))
    c.dispatch.ensures

pub returns-else-takes_arguments : goal.returns-else-takes_arguments
returns-else-takes_arguments c =
    on_ok c.signal_class.result _ _
    (generic_not_taken c.args.machine.now c.drop_operands.new.self c.signal_class.new.self c.in-Some.row.now c.args.number c.args.operands c.held_operands-count.result c.args.level c.args.around c.in-Some.ensures c.held_operands-count.ensures (sym c.takes_arguments.ensures ∙ c.if-takes_arguments.false) c.drop_operands.ensures)
    c.signal_class.ensures
