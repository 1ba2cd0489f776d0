-- One generic function more, or one that does not fit.
use Rattle.std.proofs.Common.{◌≡◌, ◌+◌, ◌*◌, ◌^◌, ◌≤◌, ◌++◌, length, drop, ap, subst, ◌∙◌, arith}
use Rattle.std.proofs.lemmas.Result.{err_from_is_err_and}
use Rattle.lang_dispatch.specs.OfClasses.{with_classes}
use Rattle.back_words.specs.Blocks.{blocks, block_addresses}
use Rattle.back_words.specs.Generics.{generic_words}
use Rattle.back_words.specs.Words.{symbol_among}
use Rattle.back_laying.specs.TooLarge.{DoNotFit}
use Rattle.back_laying.proofs.Behind.{block_more, addresses_too_large, laid_too_large, block_too_large}
use Rattle.back_laying.proofs.generics.push_generics.Goals as goal

pub loop-at-preserved : goal.loop-at-preserved
loop-at-preserved c =
    block_more (generic_words (with_classes c.args.classes.now) (symbol_among c.args.symbols.now)) c.args.generics.now c.args.generics.now c.loop-at.at c.in-Some.generic.now
    c.in_ok-start.start c.in_ok-here.here c.args.words.now c.loop-at.words c.loop-at.laid c.push.new.self c.push_generic.new.words c.in-Some.ensures
    (c.in_ok-here.ensures.ok ∙ ap (λ n. c.in_ok-start.start + 4 * n) c.len-in-loop-at.ensures) c.in_ok-push.ensures.ok c.in_ok-push_generic.ensures.words c.loop-at.invariant

pub returns-in_err-start-clause-too_large : goal.returns-in_err-start-clause-too_large
returns-in_err-start-clause-too_large c =
    λ e.
    let far : 2 ^ 32 ≤ c.args.address + 4 * length c.args.generics.now = omega (arith, c.in_err-start.ensures.too_large, c.len.ensures) in
    addresses_too_large (generic_words (with_classes c.args.classes.now) (symbol_among c.args.symbols.now)) c.args.generics.now c.args.address
    (c.args.address + 4 * length c.args.generics.now) far

pub returns-in_err-here-clause-too_large : goal.returns-in_err-here-clause-too_large
returns-in_err-here-clause-too_large c =
    λ e.
    let of = generic_words (with_classes c.args.classes.now) (symbol_among c.args.symbols.now) in
    let at : c.in_ok-start.start ≡ c.args.address + 4 * length c.args.generics.now = omega (arith, c.in_ok-start.ensures.ok, c.len.ensures) in
    let far : 2 ^ 32 ≤ c.in_ok-start.start + 4 * length c.loop-at.laid = omega (arith, c.in_err-here.ensures.too_large, c.len-in-loop-at.ensures) in
    subst (λ s. DoNotFit c.args.address (block_addresses of c.args.generics.now s ++ blocks of c.args.generics.now s)) at
    (laid_too_large of c.args.generics.now (drop c.loop-at.at c.args.generics.now) c.args.address c.in_ok-start.start c.args.words.now c.loop-at.words c.loop-at.laid at
    c.loop-at.invariant far)

pub returns-in_err-push_generic-clause-too_large : goal.returns-in_err-push_generic-clause-too_large
returns-in_err-push_generic-clause-too_large c =
    let of = generic_words (with_classes c.args.classes.now) (symbol_among c.args.symbols.now) in
    let at : c.in_ok-start.start ≡ c.args.address + 4 * length c.args.generics.now = omega (arith, c.in_ok-start.ensures.ok, c.len.ensures) in
    let p = err_from_is_err_and c.from_residual-in_err-push_generic.result c.from_residual-in_err-push_generic.ensures.1 in
    rw (p.1, p.2) (λ e.
    subst (λ s. DoNotFit c.args.address (block_addresses of c.args.generics.now s ++ blocks of c.args.generics.now s)) at
    (block_too_large of c.args.generics.now c.args.generics.now c.loop-at.at c.in-Some.generic.now c.args.address c.in_ok-start.start c.in_ok-here.here
    c.args.words.now c.loop-at.words c.loop-at.laid c.in-Some.ensures at (c.in_ok-here.ensures.ok ∙ ap (λ n. c.in_ok-start.start + 4 * n) c.len-in-loop-at.ensures)
    (c.in_err-push_generic.ensures.too_large e) c.loop-at.invariant))
