-- All built-in classes are there.
use Rattle.lang_classes.proofs.BuiltIns.{all_first}
use Rattle.lang_classes.proofs.classes.Classes.builtin.Goals as goal

pub invariant_of-result : goal.invariant_of-result
invariant_of-result c = (all_first c.all_built_in.new.names c.in_ok-table.table c.in_ok-table.ensures.first).hierarchy

pub returns-clause-built_in : goal.returns-clause-built_in
returns-clause-built_in c = all_first c.all_built_in.new.names c.in_ok-table.table c.in_ok-table.ensures.first
