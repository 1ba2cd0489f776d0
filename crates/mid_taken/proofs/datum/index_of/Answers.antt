-- One symbol after another is found by its word.
use Rattle.std.proofs.Common.{◌≡◌, ◌+◌, Some, sym, ap, ◌∙◌, subst}
use Rattle.std.specs.Prelude.{slice_get}
use Rattle.std.proofs.lemmas.Option.{slice_get-get_or}
use Rattle.mid_taken.specs.IndexOf.{IsIndexOfFirst}
use Rattle.mid_taken.proofs.Indexed.{none_indexed, one_indexed}
use Rattle.mid_taken.proofs.datum.index_of.Goals as goal

pub loop-at-init : goal.loop-at-init
loop-at-init c = subst (λ index. IsIndexOfFirst c.args.symbols.now 0 index) (sym c.new-index.ensures) (none_indexed c.args.symbols.now)

pub loop-at-preserved : goal.loop-at-preserved
loop-at-preserved c =
    let there = c.in-Some.ensures.lookup in
    let at : slice_get c.args.symbols.now c.loop-at.at ≡ Some c.in-Some.entry.now =
    slice_get-get_or c.args.symbols.now c.loop-at.at c.in-Some.entry.now there.3.0 ∙ ap (λ x. Some x) (sym there.1) in
    subst (λ index. IsIndexOfFirst c.args.symbols.now (c.loop-at.at + 1) index) (sym c.in_ok-bind.ensures.ok)
    (one_indexed c.args.symbols.now c.loop-at.at c.in-Some.entry.now c.loop-at.index at c.loop-at.invariant)
