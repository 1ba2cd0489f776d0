-- What primitives see is that of the program.
use Rattle.std.proofs.Common.{refl}
use Rattle.eval_primitives.proofs.Fitting.{fitted}
use Rattle.eval_primitives.proofs.primitives.Primitives.new.Goals as goal

pub returns : goal.returns
returns c = λ spelling layout. fitted c.args.names.now _ refl c.in_ok-serious.ensures spelling layout
