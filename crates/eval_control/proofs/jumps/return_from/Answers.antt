-- The exit is that of the place.
use Rattle.std.proofs.lemmas.Result.{on_ok_weaker}
use Rattle.lang_meaning.specs.State.{at_segment}
use Rattle.eval_store.specs.Words.{value_of_word}
use Rattle.eval_control.proofs.Jumping.{transferred}
use Rattle.eval_control.proofs.jumps.return_from.Goals as goal

pub returns : goal.returns
returns c =
    on_ok_weaker c.transfer.result
    (transferred c.args.machine.now c.transfer.new.machine c.args.place c.in_ok-number.number (λ names. value_of_word names c.args.word)
    (at_segment 0) c.args.situation c.in_ok-number.ensures)
    c.transfer.ensures
