-- Where there is no answer, there is no room.
use Rattle.eval_state.proofs.Carrying.{told_err}
use Rattle.eval_state.proofs.computing.tell_result.Goals as goal

pub returns-in-Err : goal.returns-in-Err
returns-in-Err c =
    told_err c.tell_halt.result c.args.machine.now c.tell_halt.new.machine c.args.answer c.in-Err.halt c.args.level c.args.around c.in-Err.is c.tell_halt.ensures
