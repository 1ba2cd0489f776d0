-- The names that are wanted are in the table; and the parts are those of the program.
use Rattle.std.proofs.Common.{◌+◌, ◌*◌, ◌^◌, ◌<◌, length, ap, subst, Err, inl, inr}
use Rattle.flat_language.specs.FlatNodes.{tables}
use Rattle.back_lowered.proofs.Exceeding.{objects_too_large, further_too_large}
use Rattle.back_lowered.proofs.Told.{told_of_data, told_of_laying, told_of_own}
use Rattle.back_lowered.proofs.Wanted.{are_named}
use Rattle.back_lowered.proofs.Whole.{program_laid, generics_behind}
use Rattle.back_lowered.proofs.program.lay_program.Goals as goal

pub lay_objects-requires-clause-named : goal.lay_objects-requires-clause-named
lay_objects-requires-clause-named c =
    are_named c.args.names.now c.args.program.now c.in_ok-used.used c.in_ok-used.ensures c.requires.named c.requires.fit.no_nil

pub returns-clause-laid : goal.returns-clause-laid
returns-clause-laid c =
    program_laid c.args.names.now c.args.program.now c.in_ok-used.used c.in_ok-used.ensures c.in_ok-variables.variables
    (c.in_ok-variables.ensures.laid c.args.program.now c.in_ok-used.ensures) c.in_ok-low.low c.in_ok-low.ensures c.in_ok-objects.objects
    c.in_ok-objects.ensures.start c.in_ok-objects.ensures.symbols c.in_ok-symbols.symbols c.in_ok-literals.literals c.in_ok-symbols.ensures
    c.in_ok-literals.ensures (4 * c.len.result) (ap (λ n. 4 * n) c.len.ensures) c.in_ok-further.further c.in_ok-further.ensures.words
    c.in_ok-data.data c.in_ok-data.ensures.kept c.in_ok-data.ensures.behind
    (λ l. c.in_ok-data.ensures.start c.args.names.now (tables c.args.program.now) l) c.in_ok-objects.ensures.within c.len-4.result c.len-5.result
    (4 * c.len.result + 4 * (c.len-2.result + c.len-3.result)) c.len-4.ensures c.len-5.ensures
    (generics_behind c.args.program.now (4 * c.len.result) c.len-2.result c.len-3.result c.len-2.ensures c.len-3.ensures)

pub returns-in_err-objects-clause-too_large : goal.returns-in_err-objects-clause-too_large
returns-in_err-objects-clause-too_large c = λ e.
    objects_too_large c.args.names.now c.args.program.now c.in_ok-used.used c.in_ok-used.ensures c.in_ok-variables.variables
    (c.in_ok-variables.ensures.laid c.args.program.now c.in_ok-used.ensures) c.in_ok-low.low c.in_ok-low.ensures
    (c.in_err-objects.ensures.too_large (ap Err (told_of_own c.in_err-objects.field-0.0 c.from_residual-in_err-objects.result c.from_residual-in_err-objects.ensures.1 e)))

pub returns-in_err-further-clause-too_large : goal.returns-in_err-further-clause-too_large
returns-in_err-further-clause-too_large c = λ e.
    further_too_large c.args.names.now c.args.program.now c.in_ok-used.used c.in_ok-used.ensures c.in_ok-variables.variables
    (c.in_ok-variables.ensures.laid c.args.program.now c.in_ok-used.ensures) c.in_ok-low.low c.in_ok-low.ensures c.in_ok-objects.objects
    c.in_ok-objects.ensures.start c.in_ok-symbols.symbols c.in_ok-symbols.ensures
    (4 * c.len.result) (ap (λ n. 4 * n) c.len.ensures)
    (inl (c.in_err-further.ensures.too_large (ap Err (told_of_laying c.in_err-further.field-0.0 c.from_residual-in_err-further.result c.from_residual-in_err-further.ensures.1 e))))

pub returns-in_err-data-clause-too_large : goal.returns-in_err-data-clause-too_large
returns-in_err-data-clause-too_large c = λ e.
    further_too_large c.args.names.now c.args.program.now c.in_ok-used.used c.in_ok-used.ensures c.in_ok-variables.variables
    (c.in_ok-variables.ensures.laid c.args.program.now c.in_ok-used.ensures) c.in_ok-low.low c.in_ok-low.ensures c.in_ok-objects.objects
    c.in_ok-objects.ensures.start c.in_ok-symbols.symbols c.in_ok-symbols.ensures
    (4 * c.len.result) (ap (λ n. 4 * n) c.len.ensures)
    (inr (subst (λ ws. 2 ^ 24 < length c.in_ok-objects.objects.arena.words + length ws) c.in_ok-further.ensures.words
    (c.in_err-data.ensures.too_large (ap Err (told_of_data c.in_err-data.field-0.0 c.from_residual-in_err-data.result c.from_residual-in_err-data.ensures.1 e)))))
