-- The classes that are left are found by their names.
use Rattle.std.proofs.Common.{◌≡◌, ◌≤◌, ◌-◌, length, take}
use Rattle.std.specs.Ordering.{nat_cmp}
use Rattle.std.specs.BTreeMap.{get}
use Rattle.base.specs.declared.datum.Name.{Name}
use Rattle.lang_classes.specs.InheritedClasses.{class_named}
use Rattle.lang_classes.proofs.numbers.forget.Given as goal

abbrev pub invariant-loop-left : goal.invariant-loop-left
invariant-loop-left l = record {
  fits : l.left ≤ length l.rows;
  above : l.len ≤ l.left;
  found : (n : Name) → get nat_cmp l.numbers n.0 ≡ class_named (take l.left l.rows) n;
}

abbrev pub decreases-loop-left : goal.decreases-loop-left
decreases-loop-left l = l.left - l.len
