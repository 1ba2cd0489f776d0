-- A group is that of the streams, or another one.
use Rattle.std.proofs.Common.{ap, sym, ◌∙◌}
use Rattle.eval_primitives.specs.Groups.{primitive_of}
use Rattle.eval_step.proofs.Quiet.{zero_quiet, one_quiet, two_quiet, three_quiet}
use Rattle.eval_step.proofs.computing.stream_among.Goals as goal

pub returns-in-Stream : goal.returns-in-Stream
returns-in-Stream c = sym (ap primitive_of c.in-Stream.is) ∙ c.group_of.ensures

pub returns-in-Zero : goal.returns-in-Zero
returns-in-Zero c = zero_quiet c.group_of.result c.args.which c.in-Zero._zero c.in-Zero.is c.group_of.ensures

pub returns-in-One : goal.returns-in-One
returns-in-One c = one_quiet c.group_of.result c.args.which c.in-One._one c.in-One.is c.group_of.ensures

pub returns-in-Two : goal.returns-in-Two
returns-in-Two c = two_quiet c.group_of.result c.args.which c.in-Two._two c.in-Two.is c.group_of.ensures

pub returns-in-Three : goal.returns-in-Three
returns-in-Three c = three_quiet c.group_of.result c.args.which c.in-Three._three c.in-Three.is c.group_of.ensures
