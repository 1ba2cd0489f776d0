-- The row that is made is that of the definition.
use Rattle.lang_classes.proofs.Defining.{row_is, is_right}
use Rattle.lang_classes.proofs.definition.new_class.Goals as goal

pub returns-in-Ok-made-clause-row : goal.returns-in-Ok-made-clause-row
returns-in-Ok-made-clause-row c =
    row_is c.args.table.now c.args.name c.args.supers.now c.args.slots.now c.args.abstract_class c.requires.hierarchy c.requires.in_range
    c.in-Ok-made.new.row _ _ c.in-Ok.ensures.line c.in-Ok.ensures.inherited c.in-Ok-made.ensures.row

pub returns-in-Ok-made-clause-right : goal.returns-in-Ok-made-clause-right
returns-in-Ok-made-clause-right c =
    is_right c.args.table.now c.args.name c.args.supers.now c.args.slots.now c.args.abstract_class c.requires.hierarchy c.requires.in_range
    c.in-Ok-made.new.row c.in-Ok.ensures.fit c.in-Ok.ensures.few
    (row_is c.args.table.now c.args.name c.args.supers.now c.args.slots.now c.args.abstract_class c.requires.hierarchy c.requires.in_range
    c.in-Ok-made.new.row _ _ c.in-Ok.ensures.line c.in-Ok.ensures.inherited c.in-Ok-made.ensures.row)
