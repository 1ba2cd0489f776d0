-- The classes so far, and the names.
use Rattle.base.specs.Names.{Extends}
use Rattle.lang_classes.specs.FirstClasses.{AreFirst}
use Rattle.lang_classes.proofs.builtin.all_built_in.Given as goal

abbrev pub invariant-loop-class : goal.invariant-loop-class
invariant-loop-class l = record {
  first : AreFirst l.names l.table l.class;
  extends : Extends l.initial.names l.names;
}
