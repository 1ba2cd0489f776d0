-- One more of the first classes.
use Rattle.lang_classes.proofs.BuiltIns.{next}
use Rattle.lang_classes.proofs.builtin.add_built_in.Goals as goal

pub add-requires-clause-new : goal.add-requires-clause-new
add-requires-clause-new c = (next c.args.names.now c.class_name.new.names c.built_in_own.new.names c.args.table.now c.args.class c.in_ok-name.name c.in_ok-row.row c.in_ok-own.own
    c.requires.below c.requires.first c.in_ok-name.ensures.extends c.in_ok-own.ensures.extends c.in_ok-name.ensures.name c.in_ok-own.ensures.own
    c.in_ok-row.ensures.name c.in_ok-row.ensures.precedence c.in_ok-row.ensures.made c.in_ok-row.ensures.concrete).new

pub add-requires-clause-right : goal.add-requires-clause-right
add-requires-clause-right c = (next c.args.names.now c.class_name.new.names c.built_in_own.new.names c.args.table.now c.args.class c.in_ok-name.name c.in_ok-row.row c.in_ok-own.own
    c.requires.below c.requires.first c.in_ok-name.ensures.extends c.in_ok-own.ensures.extends c.in_ok-name.ensures.name c.in_ok-own.ensures.own
    c.in_ok-row.ensures.name c.in_ok-row.ensures.precedence c.in_ok-row.ensures.made c.in_ok-row.ensures.concrete).right

pub returns-clause-first : goal.returns-clause-first
returns-clause-first c =
    (next c.args.names.now c.class_name.new.names c.built_in_own.new.names c.args.table.now c.args.class c.in_ok-name.name c.in_ok-row.row c.in_ok-own.own
    c.requires.below c.requires.first c.in_ok-name.ensures.extends c.in_ok-own.ensures.extends c.in_ok-name.ensures.name c.in_ok-own.ensures.own
    c.in_ok-row.ensures.name c.in_ok-row.ensures.precedence c.in_ok-row.ensures.made c.in_ok-row.ensures.concrete).more
    c.add.new.self c.in_ok-add.ensures.classes c.in_ok-add.ensures.ok
