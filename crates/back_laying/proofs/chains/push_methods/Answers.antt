-- One method more.
use Rattle.std.proofs.Common.{◌+◌, ◌*◌, ◌++◌, ◌∷◌, [], ap, ◌∙◌, arith}
use Rattle.base.specs.AllOf.{all_at}
use Rattle.back_laying.specs.Fits.{IsSmall}
use Rattle.back_laying.proofs.Lists.{mapped_more, mapped_all}
use Rattle.back_laying.proofs.chains.push_methods.Goals as goal

pub method_word-requires-clause-few : goal.method_word-requires-clause-few
method_word-requires-clause-few c = all_at IsSmall c.args.procedures.now c.loop-at.at c.in-Some.procedure.now c.requires.few c.in-Some.ensures

pub loop-at-preserved : goal.loop-at-preserved
loop-at-preserved c =
    mapped_more (λ p. 8 * p + c.args.kind) c.args.words.now c.loop-at.words c.push.new.self c.args.procedures.now c.loop-at.at c.in-Some.procedure.now
    c.in-Some.ensures c.loop-at.invariant
    (c.in_ok-push.ensures.ok ∙ ap (λ w. c.loop-at.words ++ w ∷ []) c.method_word.ensures)

pub returns : goal.returns
returns c =
    mapped_all (λ p. 8 * p + c.args.kind) c.args.words.now c.loop-at.words c.args.procedures.now c.loop-at.at (omega (arith, c.len-at-end.ensures)) c.loop-at.invariant
