-- The tables have the functions of names, and so the names that are used are those that are asked.
use Rattle.back_lowered.proofs.Tabled.{functions_tabled}
use Rattle.back_build.proofs.building.are_names_asked.Goals as goal

pub used_names-requires : goal.used_names-requires
used_names-requires c = functions_tabled c.args.names.now c.args.flat.now c.in_ok-tables.tables c.in_ok-tables.ensures

pub returns : goal.returns
returns c = c.are_in_table.ensures c.args.flat.now c.in_ok-used.ensures
