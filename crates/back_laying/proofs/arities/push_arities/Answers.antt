-- One procedure more.
use Rattle.std.proofs.Common.{◌^◌, ◌<◌, ◌++◌, ◌∷◌, [], length, ap, ◌∙◌, arith}
use Rattle.base.specs.AllOf.{all_at}
use Rattle.flat_language.specs.declared.program.FlatProcedure.{FlatProcedure}
use Rattle.back_words.specs.Words.{arity_of}
use Rattle.back_laying.proofs.Lists.{mapped_more, mapped_all}
use Rattle.back_laying.proofs.arities.push_arities.Goals as goal

pub arity_word-requires : goal.arity_word-requires
arity_word-requires c =
    all_at (λ (q : FlatProcedure). length q.required < 2 ^ 30) c.args.procedures.now c.loop-at.at c.in-Some.procedure.now c.requires c.in-Some.ensures

pub loop-at-preserved : goal.loop-at-preserved
loop-at-preserved c =
    mapped_more arity_of c.args.words.now c.loop-at.words c.push.new.self c.args.procedures.now c.loop-at.at c.in-Some.procedure.now
    c.in-Some.ensures c.loop-at.invariant
    (c.in_ok-push.ensures.ok ∙ ap (λ w. c.loop-at.words ++ w ∷ []) c.arity_word.ensures)

pub returns : goal.returns
returns c =
    mapped_all arity_of c.args.words.now c.loop-at.words c.args.procedures.now c.loop-at.at (omega (arith, c.len-at-end.ensures)) c.loop-at.invariant
