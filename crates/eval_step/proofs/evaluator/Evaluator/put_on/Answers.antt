-- A value that is no character, and a character.
use Rattle.std.proofs.Common.{◌∙◌}
use Rattle.eval_step.proofs.Streaming.{put_no_character}
use Rattle.eval_step.proofs.evaluator.Evaluator.put_on.Goals as goal

pub returns-in-None : goal.returns-in-None
returns-in-None c =
    put_no_character c.args.self.now c.args.stream c.args.word c.args.is_output c.character_of.result c.in-None.is c.requires c.character_of.ensures

pub put_byte-requires-clause-character : goal.put_byte-requires-clause-character
put_byte-requires-clause-character c = record { is = λ names. c.character_of.ensures names ∙ c.in-Some.is }
