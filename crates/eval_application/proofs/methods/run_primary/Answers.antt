-- The before methods, above the first primary method; or a control error.
use Rattle.std.proofs.Common.{not, ap, ◌∙◌}
use Rattle.eval_state.proofs.Stepping.{on_ok}
use Rattle.eval_application.proofs.Running.{no_primary, none_primary, some_primary, before_goes}
use Rattle.eval_application.proofs.methods.run_primary.Goals as goal

pub returns-then-is_none : goal.returns-then-is_none
returns-then-is_none c =
    on_ok c.signal_class.result _ _
    (no_primary c.args.machine.now c.signal_class.new.self c.args.rest c.args.arguments.value c.args.level c.args.around (none_primary c.args.rest c.next_primary.result c.next_primary.ensures (c.is_none.ensures ∙ ap not c.if-is_none.true)))
    c.signal_class.ensures

pub returns : goal.returns
returns c =
    on_ok c.apply_each.result _ _
    (before_goes c.args.machine.now c.push_frame.new.self c.apply_each.new.machine c.args.rest c.in_ok-shared.shared c.args.arguments _ c.args.level c.args.around
    (some_primary c.args.rest c.next_primary.result c.next_primary.ensures (c.is_none.ensures ∙ ap not c.if-is_none.false)) c.in_ok-shared.ensures.cases c.before_methods-at.ensures c.in_ok-push_frame.ensures)
    c.apply_each.ensures
