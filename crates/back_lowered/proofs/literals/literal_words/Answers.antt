-- One word more, and all of them.
use Rattle.std.proofs.Common.{◌+◌, ◌++◌, ◌∷◌, [], drop, ap, ◌∙◌, arith}
use Rattle.back_words.specs.Start.{literals_from}
use Rattle.back_lowered.proofs.InOrder.{literals_later, literals_all}
use Rattle.back_lowered.proofs.literals.literal_words.Goals as goal

pub loop-number-preserved : goal.loop-number-preserved
loop-number-preserved c =
    ap (λ ws. ws ++ literals_from c.args.names.now c.args.functions.now c.args.laid.now (drop (c.loop-number.number + 1) c.args.literals.now) (c.loop-number.number + 1))
    (c.in_ok-push.ensures.ok ∙ ap (λ w. c.loop-number.words ++ w ∷ []) c.literal_word.ensures)
    ∙ literals_later c.args.names.now c.args.functions.now c.args.laid.now c.args.literals.now c.loop-number.number c.in-Some.literal.now
    c.loop-number.words c.in-Some.ensures c.loop-number.invariant

pub returns : goal.returns
returns c =
    literals_all c.args.names.now c.args.functions.now c.args.laid.now c.args.literals.now c.loop-number.number c.loop-number.words
    (omega (arith, c.len-number-end.ensures)) c.loop-number.invariant
