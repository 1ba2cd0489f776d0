-- Without a rest variable nothing is gathered.
use Rattle.std.proofs.Common.{sym, ◌∙◌}
use Rattle.eval_state.proofs.Doing.{over_ok}
use Rattle.eval_application.proofs.Gathered.{none_gathered}
use Rattle.eval_application.proofs.entering.gather.Goals as goal

pub returns-else-is_some : goal.returns-else-is_some
returns-else-is_some c =
    over_ok c.keep_record.result (none_gathered c.args.machine.now c.keep_record.new.machine c.args.procedure c.args.count c.args.procedure.level c.args.procedure.around (sym c.is_some.ensures ∙ c.if-is_some.false)) c.keep_record.ensures
