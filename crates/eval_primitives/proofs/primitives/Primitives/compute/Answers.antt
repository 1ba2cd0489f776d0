-- Another number of arguments than a primitive takes gives nil.
use Rattle.std.proofs.Common.{arith}
use Rattle.eval_primitives.proofs.Dispatching.{zero_misused, one_misused, two_misused, three_misused}
use Rattle.eval_primitives.proofs.primitives.Primitives.compute.Goals as goal

pub returns-in_default : goal.returns-in_default
returns-in_default c = zero_misused c.args.self.now c.args.limit c.in-Zero.zero c.args.which c.args.arguments.now c.args.store.now c.in-Zero.ensures (λ e. omega (arith, e, c.in_default.len_at_least))

pub returns-in_default-arguments-4 : goal.returns-in_default-arguments-4
returns-in_default-arguments-4 c = one_misused c.args.self.now c.args.limit c.in-One.one c.args.which c.args.arguments.now c.args.store.now c.in-One.ensures (λ e. omega (arith, e, c.in_default-arguments.len_at_least))

pub returns-in_default-arguments-2 : goal.returns-in_default-arguments-2
returns-in_default-arguments-2 c = two_misused c.args.self.now c.args.limit c.in-Two.two c.args.which c.args.arguments.now c.args.store.now c.in-Two.ensures (λ e. omega (arith, e, c.in_default-arguments-2.len_below))

pub returns-in_default-arguments-2-2 : goal.returns-in_default-arguments-2-2
returns-in_default-arguments-2-2 c = two_misused c.args.self.now c.args.limit c.in-Two.two c.args.which c.args.arguments.now c.args.store.now c.in-Two.ensures (λ e. omega (arith, e, c.in_default-arguments-2.len_at_least))

pub returns-in_default-arguments-3 : goal.returns-in_default-arguments-3
returns-in_default-arguments-3 c = three_misused c.args.self.now c.args.limit c.in-Three.three c.args.which c.args.arguments.now c.args.store.now c.in-Three.ensures (λ e. omega (arith, e, c.in_default-arguments-3.len_below))

pub returns-in_default-arguments-3-2 : goal.returns-in_default-arguments-3-2
returns-in_default-arguments-3-2 c = three_misused c.args.self.now c.args.limit c.in-Three.three c.args.which c.args.arguments.now c.args.store.now c.in-Three.ensures (λ e. omega (arith, e, c.in_default-arguments-3.len_at_least))
