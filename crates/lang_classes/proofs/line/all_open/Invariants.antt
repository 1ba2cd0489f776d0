-- All classes so far may have subclasses.
use Rattle.std.proofs.Common.{◌≡◌, drop}
use Rattle.std.specs.List.{list_all}
use Rattle.lang_classes.specs.InheritedPrecedence.{is_open}
use Rattle.lang_classes.proofs.line.all_open.Given as goal

abbrev pub invariant-loop-class : goal.invariant-loop-class
invariant-loop-class l = list_all is_open (drop l.class-index l.supers) ≡ list_all is_open l.supers
