-- The kind that does not fit.
use Rattle.std.proofs.Common.{◌≡◌, false, sym, ◌∙◌, arith}
use Rattle.lang_dispatch.specs.Chains.{seen}
use Rattle.back_relation.specs.Chains.{chain_words}
use Rattle.back_laying.specs.TooLarge.{SomeOf, IsLarge}
use Rattle.back_laying.proofs.LargeChains.{around_large, before_large, primary_large, after_large, many_large}
use Rattle.back_laying.proofs.chains.chain_fits.Goals.{then-all_small, else-all_small, then-all_small-2, else-all_small-2, then-all_small-3, else-all_small-3}
use Rattle.back_laying.proofs.chains.chain_fits.Goals as goal

pub returns-then-all_small-4-clause-too_large : goal.returns-then-all_small-4-clause-too_large
returns-then-all_small-4-clause-too_large c =
    λ e. let many = c.few.ensures.many e in many_large (seen c.args.chain.now) (omega (arith, many, c.len.ensures, c.len-then-all_small-4.ensures))

pub returns-else-all_small-4-clause-too_large : goal.returns-else-all_small-4-clause-too_large
returns-else-all_small-4-clause-too_large c =
    let chain = seen c.args.chain.now in
    let first : c.if-all_small.value ≡ false → SomeOf IsLarge (chain_words chain) =
    λ e. elim c.if-all_small.branch [
      | then-all_small w ↦ before_large chain (w.all_small-then-all_small.ensures.too_large (sym w.value-is ∙ e) 1)
      | else-all_small w ↦ around_large chain (c.all_small.ensures.too_large w.if-all_small.false 0)
    ] in
    let second : c.if-all_small-2.value ≡ false → SomeOf IsLarge (chain_words chain) =
    λ e. elim c.if-all_small-2.branch [
      | then-all_small-2 w ↦ primary_large chain (w.all_small-then-all_small-2.ensures.too_large (sym w.value-is ∙ e) 3)
      | else-all_small-2 w ↦ first w.if-all_small-2.false
    ] in
    λ e. elim c.if-all_small-3.branch [
      | then-all_small-3 w ↦ after_large chain (w.all_small-then-all_small-3.ensures.too_large (sym w.value-is ∙ e) 2)
      | else-all_small-3 w ↦ second w.if-all_small-3.false
    ]
