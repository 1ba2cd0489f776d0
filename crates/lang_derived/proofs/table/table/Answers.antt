-- The groups of the code are those of the definition.
use Rattle.std.proofs.Common.{refl}
use Rattle.lang_derived.specs.Table.{table}
use Rattle.lang_derived.proofs.table.table.Goals as goal

pub returns : goal.returns
unfolding table
returns c =
    rw (c.conditional_rows.ensures, c.binding_rows.ensures, c.case_rows.ensures, c.case_using_rows.ensures, c.loop_rows.ensures, c.place_rows.ensures, c.function_rows.ensures, c.condition_rows.ensures, c.class_rows.ensures, c.quotation_rows.ensures)
    refl
