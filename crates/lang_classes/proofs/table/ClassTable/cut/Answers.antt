-- The classes that stay are found by their names.
use Rattle.lang_classes.proofs.Cutting.{classes_cut}
use Rattle.lang_classes.proofs.table.ClassTable.cut.Goals as goal

pub invariant_of-self : goal.invariant_of-self
invariant_of-self c =
    rw (c.cut.ensures, c.cut-2.ensures)
    (record {
      classes = classes_cut (record { rows = c.self.inside.rows; own = c.self.inside.own }) c.args.len c.self.invariant.classes;
      found = c.forget.ensures;
    })
