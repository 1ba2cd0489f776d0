-- The image passes the arena.
use Rattle.std.proofs.Common.{arith}
use Rattle.base.specs.declared.reason.Reason.TheVariants.{ExpanderArena}
use Rattle.top_expansion.proofs.Calls.{stops_there, too_large}
use Rattle.top_expansion.proofs.expander.expand_built.Goals as goal

pub returns-then-words-gt-WORDS-clause-stops : goal.returns-then-words-gt-WORDS-clause-stops
returns-then-words-gt-WORDS-clause-stops c =
    stops_there c.args.names.now c.args.call.now ExpanderArena c.refused.result c.refused.ensures
    (too_large c.args.names.now c.args.call.now c.args.built.now c.requires (omega (arith, c.if-words-gt-WORDS.true, c.words.ensures.exact)))
