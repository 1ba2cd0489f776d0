-- The classes that stay are a hierarchy.
use Rattle.std.proofs.Common.{◌≤◌, length}
use Rattle.lang_classes.proofs.Cutting.{hierarchy_cut}
use Rattle.lang_classes.proofs.classes.Classes.cut.Goals as goal

pub invariant_of-self : goal.invariant_of-self
invariant_of-self c =
    let enough : c.args.len ≤ length c.self.inside.table.rows = rw c.self.view_is c.requires.enough in
    rw c.cut.ensures (hierarchy_cut c.self.inside.table c.args.len c.self.invariant c.requires.built_in enough)

pub returns-clause-hierarchy : goal.returns-clause-hierarchy
returns-clause-hierarchy c =
    let enough : c.args.len ≤ length c.self.inside.table.rows = rw c.self.view_is c.requires.enough in
    rw c.cut.ensures (hierarchy_cut c.self.inside.table c.args.len c.self.invariant c.requires.built_in enough)
