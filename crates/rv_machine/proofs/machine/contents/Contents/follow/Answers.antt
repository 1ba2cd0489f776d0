use Rattle.rv_machine.proofs.Flows.{goes_from}
use Rattle.rv_machine.proofs.machine.contents.Contents.follow.Goals as goal

pub returns-clause-goes : goal.returns-clause-goes
returns-clause-goes c = goes_from c.row_at-row.result c.args.place c.carry_out.result c.args.self.now c.carry_out.new.self c.row_at-row.ensures.steps c.carry_out.ensures
