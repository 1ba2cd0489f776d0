-- All words, one part behind another, or one part that does not fit.
use Rattle.std.proofs.Common.{◌≡◌, ◌+◌, ◌*◌, ◌++◌, Err, inr, length, map, ap, subst, ◌∙◌, length-append, arith}
use Rattle.std.proofs.lemmas.Result.{err_from_is_err_and}
use Rattle.std.proofs.lemmas.List.{length-map}
use Rattle.lang_dispatch.specs.OfClasses.{with_classes}
use Rattle.back_words.specs.Blocks.{blocks, block_addresses}
use Rattle.back_words.specs.Generics.{generic_words}
use Rattle.back_words.specs.Words.{arity_of, arity_words, generic_words_from, symbol_among}
use Rattle.back_laying.specs.declared.faults.LayingFault.TheVariants as fault
use Rattle.back_laying.specs.TooLarge.{SomeOf, IsLarge, DoNotFit}
use Rattle.back_laying.proofs.Large.{some_front, some_behind, last_too_large}
use Rattle.back_laying.proofs.further.further_words.Goals.{then-not-arities_fit-via-then-not-arities_fit, then-not-arities_fit-via-else-not-arities_fit+then-not-arities_fit-2}
use Rattle.back_laying.proofs.further.further_words.Goals as goal

pub returns-clause-words : goal.returns-clause-words
returns-clause-words c =
    let program = c.args.program.now in
    let of = generic_words (with_classes program.classes) (symbol_among c.args.symbols.now) in
    let first = c.in_ok-generics.generics + 4 * length program.generics in
    let arities : c.push_arities-2.new.words ≡ arity_words program =
    c.in_ok-push_arities-2.ensures ∙ ap (λ l. l ++ map arity_of program.lambdas) c.in_ok-push_arities.ensures
    ∙ ap (λ l. (l ++ map arity_of program.procedures) ++ map arity_of program.lambdas) c.new-words.ensures in
    let start : first ≡ generic_words_from program c.args.address =
    omega (
      arith,
      c.in_ok-behind.ensures.ok,
      c.in_ok-generics.ensures.ok,
      c.len.ensures,
      c.len-2.ensures,
      length-append (map arity_of program.procedures) (map arity_of program.lambdas),
      length-map program.procedures arity_of,
      length-map program.lambdas arity_of,
    ) in
    c.in_ok-push_generics.ensures.words
    ∙ ap (λ l. l ++ (block_addresses of program.generics first ++ blocks of program.generics first)) arities
    ∙ ap (λ a. arity_words program ++ (block_addresses of program.generics a ++ blocks of program.generics a)) start

pub returns-then-not-arities_fit-clause-too_large : goal.returns-then-not-arities_fit-clause-too_large
returns-then-not-arities_fit-clause-too_large c =
    λ e.
    let program = c.args.program.now in
    let of = generic_words (with_classes program.classes) (symbol_among c.args.symbols.now) in
    let first = generic_words_from program c.args.address in
    let rest = block_addresses of program.generics first ++ blocks of program.generics first in
    let large : SomeOf IsLarge (arity_words program) =
    elim c.then-not-arities_fit.branch [
      | then-not-arities_fit-via-then-not-arities_fit w ↦ some_front IsLarge (map arity_of program.procedures) (map arity_of program.lambdas) (c.arities_fit.ensures.too_large w.if-not-arities_fit.true)
      | then-not-arities_fit-via-else-not-arities_fit+then-not-arities_fit-2 w ↦ some_behind IsLarge (map arity_of program.procedures) (map arity_of program.lambdas) (w.arities_fit-else-not-arities_fit.ensures.too_large w.if-not-arities_fit-2.true)
    ] in
    inr (some_front IsLarge (arity_words program) rest large)

pub returns-in_err-push_generics-clause-too_large : goal.returns-in_err-push_generics-clause-too_large
returns-in_err-push_generics-clause-too_large c =
    let program = c.args.program.now in
    let of = generic_words (with_classes program.classes) (symbol_among c.args.symbols.now) in
    let here = c.in_ok-generics.generics in
    let at : here ≡ c.args.address + 4 * length (arity_words program) =
    omega (
      arith,
      c.in_ok-behind.ensures.ok,
      c.in_ok-generics.ensures.ok,
      c.len.ensures,
      c.len-2.ensures,
      length-append (map arity_of program.procedures) (map arity_of program.lambdas),
      length-map program.procedures arity_of,
      length-map program.lambdas arity_of,
    ) in
    let start : here + 4 * length program.generics ≡ generic_words_from program c.args.address = ap (λ n. n + 4 * length program.generics) at in
    let p = err_from_is_err_and c.from_residual-in_err-push_generics.result c.from_residual-in_err-push_generics.ensures.1 in
    rw (p.1, p.2) (λ e.
    let same : c.in_err-push_generics.field-0.0 ≡ fault.TooLarge = cc e in
    last_too_large c.args.address here (arity_words program)
    (block_addresses of program.generics (generic_words_from program c.args.address) ++ blocks of program.generics (generic_words_from program c.args.address)) at
    (subst (λ a. DoNotFit here (block_addresses of program.generics a ++ blocks of program.generics a)) start (c.in_err-push_generics.ensures.too_large (ap Err same))))
