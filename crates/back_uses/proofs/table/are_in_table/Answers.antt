-- All are below the number of names, or one is not.
use Rattle.std.proofs.Common.{◌&&◌, refl, sym, ◌∙◌, ap}
use Rattle.std.specs.Prelude.{nat_lt}
use Rattle.std.specs.List.{list_all}
use Rattle.base.specs.declared.datum.Name.{Name}
use Rattle.back_uses.proofs.Within.{tested}
use Rattle.back_uses.proofs.table.are_in_table.Goals as goal

pub returns-then-variables_below : goal.returns-then-variables_below
returns-then-variables_below c program is =
    tested c.args.names.now program c.args.used.now c.len-count.result c.variables_below.result c.names_below.result c.names_below.result
    c.len-count.ensures.len is c.variables_below.ensures c.names_below.ensures (sym (ap (λ b. b && c.names_below.result) c.if-variables_below.true))

pub returns-else-variables_below : goal.returns-else-variables_below
returns-else-variables_below c program is =
    let symbols = list_all (λ (n : Name). nat_lt n.0 c.len-count.result) c.args.used.now.symbols in
    tested c.args.names.now program c.args.used.now c.len-count.result c.variables_below.result symbols c.variables_below.result
    c.len-count.ensures.len is c.variables_below.ensures refl (c.if-variables_below.false ∙ sym (ap (λ b. b && symbols) c.if-variables_below.false))
