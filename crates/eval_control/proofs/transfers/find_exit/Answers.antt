-- Those that were passed are counted.
use Rattle.eval_state.proofs.Givens.{spelling}
use Rattle.eval_control.proofs.Leaving.{counted}
use Rattle.eval_control.proofs.transfers.find_exit.Goals as goal

pub returns : goal.returns
returns c =
    counted c.args.machine.now c.charge.new.self c.args.sought c.args.link c.in_ok-looked.looked
    (λ names g. c.in_ok-looked.ensures names (spelling names c.args.machine.now.given g)) c.in_ok-charge.ensures
