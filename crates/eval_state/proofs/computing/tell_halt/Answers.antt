-- There is no room, and that is what the machine comes to.
use Rattle.eval_state.proofs.Carrying.{told_full}
use Rattle.eval_state.proofs.computing.tell_halt.Goals as goal

pub returns-in-Full : goal.returns-in-Full
returns-in-Full c = λ level around.
    told_full c.args.machine.now c.come_to.new.self c.args.halt c.in-Full.asked c.in-Full.left level around c.in-Full.is c.come_to.ensures
