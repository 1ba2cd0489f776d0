use Rattle.rv_machine.proofs.Turns.{walks-none}
use Rattle.rv_machine.proofs.machine.Machine.walk.Goals as goal

pub returns-then-self-ne0-clause-walks : goal.returns-then-self-ne0-clause-walks
returns-then-self-ne0-clause-walks c = walks-none c.args.self.now.state
