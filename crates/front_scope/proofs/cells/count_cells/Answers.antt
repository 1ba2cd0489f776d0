-- A form is refused where there are too many cells.
use Rattle.std.proofs.Common.{List, refl, subst, sym}
use Rattle.lang_meaning.specs.declared.program.ClassRow.{ClassRow}
use Rattle.lang_meaning.specs.declared.program.GenericRow.{GenericRow}
use Rattle.front_cells.specs.declared.count.Recount.{Recount}
use Rattle.front_cells.specs.Counts.{WasCellCount, IsRecount}
use Rattle.front_scope.proofs.Keeping.{was_counted, few_rows, too_many}
use Rattle.front_scope.proofs.cells.count_cells.Goals as goal

pub returns-in-TooMany-clause-stop : goal.returns-in-TooMany-clause-stop
returns-in-TooMany-clause-stop c =
    let many = subst (λ (r : Recount). IsRecount c.rows.result.now c.rows-2.result.now c.args.cells.now r) c.in-TooMany.is c.in_ok-recount.ensures in
    rw c.refused.ensures (refl, too_many c.args.tables.now c.rows.result.now c.rows-2.result.now c.rows.ensures.rows c.rows-2.ensures.rows many)

pub recount-requires : goal.recount-requires
recount-requires c =
    subst (λ (cs : List ClassRow). WasCellCount cs c.rows-2.result.now c.args.cells.now) (sym c.rows.ensures.rows)
    (subst (λ (gs : List GenericRow). WasCellCount c.args.tables.now.classes.rows gs c.args.cells.now) (sym c.rows-2.ensures.rows)
    (was_counted c.args.tables.now c.args.cells.now c.requires.before))

pub returns-in-Same-clause-counted : goal.returns-in-Same-clause-counted
returns-in-Same-clause-counted c =
    let counted = subst (λ (r : Recount). IsRecount c.rows.result.now c.rows-2.result.now c.args.cells.now r) c.in-Same.is c.in_ok-recount.ensures in
    (few_rows c.args.tables.now c.rows.result.now c.rows-2.result.now c.rows.ensures.rows c.rows-2.ensures.rows counted.few, c.requires.before)
