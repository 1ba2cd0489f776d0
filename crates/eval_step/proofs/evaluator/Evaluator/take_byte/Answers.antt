-- A byte is there, or nothing is left to read.
use Rattle.std.proofs.Common.{sym, ◌∙◌}
use Rattle.eval_step.proofs.Streaming.{taken_one, taken_none}
use Rattle.eval_step.proofs.evaluator.Evaluator.take_byte.Goals as goal

pub returns-in-Some : goal.returns-in-Some
returns-in-Some c = taken_one c.args.self.now c.in-Some.byte c.byte_word.result c.byte_word.ensures (sym c.next_byte.ensures ∙ c.in-Some.is)

pub returns-in-None : goal.returns-in-None
returns-in-None c = taken_none c.args.self.now (sym c.next_byte.ensures ∙ c.in-None.is) c.requires
