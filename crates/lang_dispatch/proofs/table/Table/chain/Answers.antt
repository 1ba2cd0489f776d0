-- The cell at the number of the tuple has the chain.
use Rattle.lang_dispatch.proofs.Placing.{cell_at, cell_there}
use Rattle.lang_dispatch.proofs.table.Table.chain.Goals as goal

pub returns-in-Some : goal.returns-in-Some
returns-in-Some c =
    λ program g table called.
    let place = c.index_of.ensures program g table.maps called table.bounded in
    let cell = cell_at program g c.args.self.now c.args.classes.now c.index_of.result c.in-Some.cell.now table place c.in-Some.ensures in
    rw (← cell) c.chain_in.ensures

pub returns-in-None : goal.returns-in-None
returns-in-None c =
    λ program g table called.
    absurd (cell_there program g c.args.self.now c.args.classes.now c.index_of.result table
    (c.index_of.ensures program g table.maps called table.bounded) c.in-None.ensures)
