-- A byte is there, or nothing is left to read.
use Rattle.std.proofs.Common.{sym, ◌∙◌}
use Rattle.eval_step.proofs.Streaming.{peeked, peeked_none}
use Rattle.eval_step.proofs.evaluator.Evaluator.peek_byte.Goals as goal

pub returns-in-Some : goal.returns-in-Some
returns-in-Some c = peeked c.args.self.now c.in-Some.byte c.byte_word.result c.byte_word.ensures (sym c.next_byte.ensures ∙ c.in-Some.is)

pub returns-in-None : goal.returns-in-None
returns-in-None c = peeked_none c.args.self.now (sym c.next_byte.ensures ∙ c.in-None.is) c.requires
