use Rattle.std.proofs.Common.{arith}
use Rattle.std.proofs.lemmas.List.{get_or_default}
use Rattle.rv_image_file.proofs.PartBytes.{none_put, put_word}
use Rattle.rv_image_file.proofs.parts.put_words.Goals as goal

pub loop-word-init : goal.loop-word-init
loop-word-init c = none_put c.args.out.now

pub loop-word-preserved : goal.loop-word-preserved
loop-word-preserved c =
    put_word c.args.out.now c.loop-word.out _ c.args.words.now c.loop-word.word-index c.loop-word-test.true c.loop-word.invariant
    c.in_ok-put_number.ensures

pub returns-clause-fit : goal.returns-clause-fit
returns-clause-fit c = λ k d h. omega (arith, c.type_inv.words k, get_or_default c.args.words.now k d 0 h)
