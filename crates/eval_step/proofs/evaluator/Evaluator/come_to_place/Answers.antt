-- A value is taken, and any other outcome passed on.
use Rattle.std.proofs.Common.{refl}
use Rattle.eval_state.specs.View.{state}
use Rattle.eval_state.proofs.Going.{followed}
use Rattle.eval_step.proofs.Lifting.{lifted}
use Rattle.eval_step.proofs.PassedOn.{passes, no_value}
use Rattle.eval_step.proofs.evaluator.Evaluator.come_to_place.Goals as goal

pub returns-in-Exit : goal.returns-in-Exit
returns-in-Exit c =
    let e = c.args.self.now in
    lifted e (record e { machine = c.pass.new.machine }) _ refl
    (followed _ _ _ _ c.pass.ensures (λ names s b. passes names s e.machine c.args.frame c.args.operands c.args.outcome (state names e.machine b) c.requires (no_value c.args.outcome c.in-Exit.is)))
