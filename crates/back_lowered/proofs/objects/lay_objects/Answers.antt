-- The rows of a program are those of its tables.
use Rattle.std.proofs.Common.{refl, ap, Err, inl, arith}
use Rattle.flat_language.specs.FlatNodes.{tables}
use Rattle.back_lowered.proofs.Told.{told_of_data}
use Rattle.back_lowered.proofs.objects.lay_objects.Goals as goal

pub lay_symbols-requires-clause-first : goal.lay_symbols-requires-clause-first
lay_symbols-requires-clause-first c = (c.in_ok-laid.ensures.start (tables c.args.program.now) refl refl refl).first

pub returns-clause-start : goal.returns-clause-start
returns-clause-start c =
    c.in_ok-lay_symbols.ensures.start (tables c.args.program.now) c.args.low (c.in_ok-laid.ensures.start (tables c.args.program.now) refl refl refl)

pub returns-clause-symbols : goal.returns-clause-symbols
returns-clause-symbols c =
    c.in_ok-lay_symbols.ensures.symbols (tables c.args.program.now) c.args.low (c.in_ok-laid.ensures.start (tables c.args.program.now) refl refl refl)

pub returns-in_err-laid-clause-too_large : goal.returns-in_err-laid-clause-too_large
returns-in_err-laid-clause-too_large c = λ e.
    inl (c.in_err-laid.ensures.too_large (ap Err (told_of_data c.in_err-laid.field-0.0 c.from_residual.result c.from_residual.ensures.1 e)))

pub returns-clause-within : goal.returns-clause-within
returns-clause-within c = omega (arith, c.in_ok-laid.ensures.within, c.in_ok-lay_symbols.ensures.within)
