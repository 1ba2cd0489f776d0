-- A class more behind the others.
use Rattle.std.proofs.Common.{sym, ap, ◌∙◌, subst}
use Rattle.lang_classes.specs.InheritedClasses.{IsHierarchy, with_class}
use Rattle.lang_classes.specs.Given.{given}
use Rattle.lang_classes.proofs.Defining.{either_way, hierarchy_more, is_with_class}
use Rattle.lang_classes.proofs.classes.Classes.define.Goals as goal
use Rattle.lang_classes.proofs.classes.Classes.define.Goals.{in-Ok-add, in-Err-add}

pub invariant_of-self : goal.invariant_of-self
invariant_of-self c =
    either_way c.add.result c.add.ensures.ok c.add.ensures.err
    (λ e. hierarchy_more c.self.inside.table c.add.new.self c.in-Ok.new.row c.in-Ok.new.own c.self.invariant c.add.ensures.classes e)
    (λ e. subst IsHierarchy (sym e) c.self.invariant)

pub returns-after-add-clause-ok : goal.returns-after-add-clause-ok
returns-after-add-clause-ok c =
    elim c.match-add.branch [
      | in-Ok-add w ↦
          rw w.result-is
          (is_with_class c.self.inside.table c.add.new.self c.args.name c.args.supers.now _ c.args.abstract_class c.in-Ok.new.row c.in-Ok.new.own
          c.in-Ok.ensures.own c.in-Ok.ensures.row w.in-Ok-add.ensures.ok
          ∙ ap (λ h. with_class h c.args.name c.args.supers.now (given c.args.slots.now) c.args.abstract_class) c.self.view_is)
      | in-Err-add w ↦ rw w.result-is tt
    ]

pub returns-after-add-clause-hierarchy : goal.returns-after-add-clause-hierarchy
returns-after-add-clause-hierarchy c =
    either_way c.add.result c.add.ensures.ok c.add.ensures.err
    (λ e. hierarchy_more c.self.inside.table c.add.new.self c.in-Ok.new.row c.in-Ok.new.own c.self.invariant c.add.ensures.classes e)
    (λ e. subst IsHierarchy (sym e) c.self.invariant)
