-- One group behind the other.
use Rattle.std.proofs.Common.{◌++◌}
use Rattle.std.proofs.lemmas.Result.{on_ok_weaker}
use Rattle.back_programs.specs.Parts as parts
use Rattle.back_programs.proofs.Joining.{joined}
use Rattle.back_programs.proofs.routines.all_of.Goals as goal

pub returns : goal.returns
returns c =
    let at = c.args.at.now in
    on_ok_weaker c.looking.result
    (λ e. joined c.args.list.now c.transfers.new.list c.looking.new.list (parts.transfers at) (parts.signals at ++ (parts.conditions at ++ (parts.applications at ++ (parts.lists at ++ (parts.looking at))))) c.in_ok-transfers.ensures
    (joined c.transfers.new.list c.signals.new.list c.looking.new.list (parts.signals at) (parts.conditions at ++ (parts.applications at ++ (parts.lists at ++ (parts.looking at)))) c.in_ok-signals.ensures
    (joined c.signals.new.list c.conditions.new.list c.looking.new.list (parts.conditions at) (parts.applications at ++ (parts.lists at ++ (parts.looking at))) c.in_ok-conditions.ensures
    (joined c.conditions.new.list c.applications.new.list c.looking.new.list (parts.applications at) (parts.lists at ++ (parts.looking at)) c.in_ok-applications.ensures
    (joined c.applications.new.list c.lists.new.list c.looking.new.list (parts.lists at) (parts.looking at) c.in_ok-lists.ensures e)))))
    c.looking.ensures
