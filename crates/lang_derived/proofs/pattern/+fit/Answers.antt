-- Patterns inside others; the first pattern, and those behind it.
use Rattle.lang_derived.proofs.Views.{inside_smaller, each_smaller, inside_fit, each_fit}
use Rattle.lang_derived.proofs.Fitting.{fit_turn, not_fit, fit_behind}
use Rattle.std.proofs.Common.{rules, ◌∙◌, sym, arith}
use Rattle.lang_derived.proofs.pattern.+fit.Goals as goal

pub fit-fit_inside-requires : goal.fit-fit_inside-requires
fit-fit_inside-requires t c = (omega (arith, inside_smaller _ _ c.in-Inside.is, c.decreases), tt)

pub fit-each_fits-requires : goal.fit-each_fits-requires
fit-each_fits-requires t c = (omega (arith, each_smaller _ _ c.in-Each.is, c.decreases), tt)

pub fit-returns-in-Inside : goal.fit-returns-in-Inside
fit-returns-in-Inside t c = rw (inside_fit c.args.names.now _ _ c.args.items.now c.in-Inside.is) c.fit_inside.ensures

pub fit-returns-in_ok-fits-in-Each : goal.fit-returns-in_ok-fits-in-Each
fit-returns-in_ok-fits-in-Each t c =
    rw (each_fit c.args.names.now _ _ c.args.items.now c.in-Each.is, sym c.in_ok-fits-in-Each.ensures) c.part_if-in-Each.ensures

pub fit_all-returns-then-not-branch : goal.fit_all-returns-then-not-branch
fit_all-returns-then-not-branch t c =
    fit_turn _ _ _ _ _ c.split_at.result.0.now c.split_at.result.1.now _ _ _ c.in-Some.ensures.cases.0 c.saturating_sub.ensures c.taken_by-taken.ensures c.min.ensures c.split_at.ensures.front c.split_at.ensures.back
    ∙ not_fit _ _ _ _ _ (search rules) c.in_ok-fit.ensures

pub fit_all-returns : goal.fit_all-returns
fit_all-returns t c =
    fit_behind _ _ _ _ _ _ _ _
    (fit_turn _ _ _ _ _ c.split_at.result.0.now c.split_at.result.1.now _ _ _ c.in-Some.ensures.cases.0 c.saturating_sub.ensures c.taken_by-taken.ensures c.min.ensures c.split_at.ensures.front c.split_at.ensures.back)
    (search rules) c.in_ok-fit.ensures c.fit_all.ensures
