-- A table of classes: they are found by the numbers of their names.
use Rattle.std.specs.Prelude.{◌≡◌, ℕ}
use Rattle.std.specs.Ordering.{nat_cmp}
use Rattle.std.specs.BTreeMap as tree
use Rattle.std.specs.BTreeMap.{BTreeMap}
use Rattle.base.specs.declared.datum.Name.{Name}
use Rattle.lang_classes.specs.InheritedClasses.{Hierarchy, AreClasses, class_named}

pub record IsIndexed (h : Hierarchy) (numbers : BTreeMap ℕ ℕ) : Type 0 where
  pub classes : AreClasses h
  pub found : (n : Name) → tree.get nat_cmp numbers n.0 ≡ class_named h.rows n
