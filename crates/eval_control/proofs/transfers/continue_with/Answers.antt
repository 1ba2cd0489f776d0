-- The signal that is found and may be continued, or a control error.
use Rattle.std.proofs.Common.{subst, sym, ◌∙◌}
use Rattle.eval_state.proofs.Stepping.{on_ok}
use Rattle.eval_control.specs.declared.exits.Sought.TheVariants.{SignalOf}
use Rattle.eval_control.specs.Exits.{IsFound}
use Rattle.eval_control.proofs.Leaving.{continues, continues_not, continues_nowhere}
use Rattle.eval_control.proofs.transfers.continue_with.Goals as goal

pub returns-then-is_continuable : goal.returns-then-is_continuable
returns-then-is_continuable c =
    continues c.args.machine.now c.find_exit.new.machine c.come_to.new.self c.args.condition c.args.word c.args.level c.args.around c.in-Some.exit
    (subst (IsFound c.args.machine.now c.find_exit.new.machine (SignalOf c.args.condition) c.args.around.exits) c.in-Some.is c.in_ok-exit.ensures)
    (λ names. sym c.if-is_continuable.true ∙ c.is_continuable.ensures names) c.come_to.ensures

pub returns-else-is_continuable : goal.returns-else-is_continuable
returns-else-is_continuable c =
    on_ok c.signal_class.result _ _
    (continues_not c.args.machine.now c.find_exit.new.machine c.signal_class.new.self c.args.condition c.args.word c.args.level c.args.around c.in-Some.exit
    (subst (IsFound c.args.machine.now c.find_exit.new.machine (SignalOf c.args.condition) c.args.around.exits) c.in-Some.is c.in_ok-exit.ensures)
    (λ names. sym c.if-is_continuable.false ∙ c.is_continuable.ensures names))
    c.signal_class.ensures

pub returns-in-None : goal.returns-in-None
returns-in-None c =
    on_ok c.signal_class-in-None.result _ _
    (continues_nowhere c.args.machine.now c.find_exit.new.machine c.signal_class-in-None.new.self c.args.condition c.args.word c.args.level c.args.around
    (subst (IsFound c.args.machine.now c.find_exit.new.machine (SignalOf c.args.condition) c.args.around.exits) c.in-None.is c.in_ok-exit.ensures))
    c.signal_class-in-None.ensures
