-- By whether one is there.
use Rattle.std.proofs.Common.{ap, sym}
use Rattle.flat_language.specs.model.View.{dynamics_of}
use Rattle.back_lowering.proofs.Rests.{there, past}
use Rattle.back_calls.specs.Cells.{no_more}
use Rattle.back_calls.proofs.bindings.is_end.Goals as goal

pub returns-in-Some : goal.returns-in-Some
returns-in-Some c = sym (ap (λ xs. no_more (dynamics_of xs)) (there c.args.list.now c.args.at _ c.in-Some.ensures))

pub returns-in-None : goal.returns-in-None
returns-in-None c = sym (ap (λ xs. no_more (dynamics_of xs)) (past c.args.list.now c.args.at c.in-None.ensures))
