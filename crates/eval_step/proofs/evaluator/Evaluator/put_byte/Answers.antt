-- The byte is printed.
use Rattle.eval_step.proofs.Streaming.{put_done}
use Rattle.eval_step.proofs.evaluator.Evaluator.put_byte.Goals as goal

pub returns-in_ok-print : goal.returns-in_ok-print
returns-in_ok-print c =
    put_done c.args.self.now c.print.new.self c.args.stream c.args.word c.args.is_output c.args.code c.if-is_output.true c.requires.stream c.requires.character
    c.in_ok-print.ensures
