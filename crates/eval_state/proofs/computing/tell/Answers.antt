-- An answer is told by what the machine does with it.
use Rattle.eval_state.proofs.Carrying.{told_value, told_condition, told_domain}
use Rattle.eval_state.proofs.computing.tell.Goals as goal

pub returns-in-Gives : goal.returns-in-Gives
returns-in-Gives c =
    told_value c.args.machine.now c.gives.new.self c.args.answer c.in-Gives.word c.args.level c.args.around c.in-Gives.is c.gives.ensures

pub returns-in-Fails : goal.returns-in-Fails
returns-in-Fails c =
    told_condition c.signal_class.result c.args.machine.now c.signal_class.new.self c.args.answer c.in-Fails.class c.args.level c.args.around c.in-Fails.is
    c.signal_class.ensures

pub returns-in-DomainError : goal.returns-in-DomainError
returns-in-DomainError c =
    told_domain c.signal_domain.result c.args.machine.now c.signal_domain.new.self c.args.answer c.in-DomainError.word c.in-DomainError.class c.args.level c.args.around
    c.in-DomainError.is c.signal_domain.ensures
