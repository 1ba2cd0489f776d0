use Rattle.std.proofs.Common.{◌∙◌}
use Rattle.mid_told.proofs.Bytes.{one_more_byte}
use Rattle.mid_told.proofs.strings.bytes_in.Goals as goal

pub loop-i-preserved : goal.loop-i-preserved
loop-i-preserved c = λ bytes n there.
    c.in_ok-push.ensures.ok
    ∙ one_more_byte c.args.words.now c.args.at c.args.count c.loop-i.i c.word_in-word.result c.byte_of.result c.loop-i.read c.loop-i-test.true c.word_in-word.ensures
    c.byte_of.ensures c.loop-i.invariant bytes n there
