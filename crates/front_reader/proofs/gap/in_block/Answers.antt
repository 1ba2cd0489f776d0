-- One comment more is around.
use Rattle.std.proofs.Common.{refl, add-one}
use Rattle.front_reader.specs.bridge.Lexemes.{skip}
use Rattle.front_reader.proofs.gap.in_block.Goals as goal

pub returns-then-is_mark-clause-turned : goal.returns-then-is_mark-clause-turned
unfolding skip
returns-then-is_mark-clause-turned c = λ i o. rw (← c.is_mark.ensures, c.if-is_mark.true, add-one c.args.n) refl
