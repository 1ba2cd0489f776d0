use Rattle.std.proofs.Common.{rules, ◌+◌, [], ◌∷◌, ◌++◌, refl, ap, ◌∙◌, arith}
use Rattle.back_program_code.specs.Shapes.{listed, shape_words, entry_position}
use Rattle.back_program_code.proofs.Joined.{joined_one}
use Rattle.back_program_code.proofs.Positions.{words_next}
use Rattle.back_program_code.proofs.Long.{words_long, end_long}
use Rattle.back_program_code.proofs.entries.all_entries.Goals as goal

pub shape_words-requires : goal.shape_words-requires
shape_words-requires c = c.requires.0 c.loop-number.number c.in-Some.shape.now c.in-Some.ensures

pub loop-number-preserved : goal.loop-number-preserved
loop-number-preserved c =
    let f = c.args.front in
    let lefts = c.args.lefts.now in
    let shapes = c.args.shapes.now in
    let n = c.loop-number.number in
    let inv = c.loop-number.invariant in
    let there = c.in-Some.ensures in
    let next = words_next f lefts 0 n (n + 1) n c.in-Some.shape.now shapes refl (omega arith) there in
    let left = ap (λ o. shape_words f (listed o) c.in-Some.shape.now) c.in-Some-get.ensures in (
      joined_one (λ number s. entry_position f lefts shapes number ∷ []) n _ _ _ _
          (c.in_ok-push.ensures.ok ∙ ap (λ x. c.loop-number.entries ++ x ∷ []) inv.1) inv.0 there,
      omega (arith, inv.1, next, left, c.in_ok-words.ensures.ok.0),
      omega (arith, c.if-at-words-ge16777216.false),
    )

pub returns-in_err-words-clause-err : goal.returns-in_err-words-clause-err
returns-in_err-words-clause-err c =
    search (
      rules,
      words_long c.args.front c.args.lefts.now c.args.shapes.now c.loop-number.number c.in-Some.shape.now c.in-Some-get.left.now c.in-Some.ensures c.in-Some-get.ensures,
    )

pub returns-then-at-words-ge16777216-clause-err : goal.returns-then-at-words-ge16777216-clause-err
returns-then-at-words-ge16777216-clause-err c e =
    end_long c.args.front c.args.lefts.now c.args.shapes.now c.loop-number.number c.in-Some.shape.now c.in-Some-get.left.now c.in-Some.ensures c.in-Some-get.ensures
    c.loop-number.at c.in_ok-words.words c.loop-number.invariant.1 c.in_ok-words.ensures.ok.0 (omega (arith, c.if-at-words-ge16777216.true))
