-- The table of the generic function has the chain.
use Rattle.std.proofs.Common.{◌<◌, length, arith}
use Rattle.std.proofs.lemmas.Option.{slice_get_within}
use Rattle.lang_dispatch.specs.OfClasses.{with_classes}
use Rattle.lang_dispatch.proofs.dispatch_tables.Tables.chain.Goals as goal

pub returns-in-Some : goal.returns-in-Some
returns-in-Some c =
    λ generics rows g tables row called.
    c.chain.ensures (with_classes rows) g (tables.each c.args.generic g c.in-Some.table.now row c.in-Some.ensures) called

pub returns-in-None : goal.returns-in-None
returns-in-None c =
    λ generics rows g tables row called.
    let within : c.args.generic < length generics = slice_get_within generics c.args.generic g row in
    absurd (omega (arith, tables.count, c.in-None.ensures))
