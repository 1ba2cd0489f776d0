-- The names of the slots so far, none of which is wrong.
use Rattle.std.proofs.Common.{◌≡◌, ◌++◌, ◌≤◌, [], take, drop, length}
use Rattle.lang_classes.specs.InheritedSlots.{each_first, names_of}
use Rattle.lang_classes.specs.InheritedClasses.{first_wrong, slot_limit}
use Rattle.lang_classes.specs.Given.{given, spec_names}
use Rattle.lang_classes.proofs.judged.judge_slots.Given as goal

abbrev pub invariant-loop-at : goal.invariant-loop-at
invariant-loop-at l = record {
  names : l.names ≡ each_first (names_of l.inherited ++ spec_names (take l.at l.slots));
  few : length l.names ≤ slot_limit;
  left : first_wrong (names_of l.inherited) (spec_names (take l.at l.slots)) (given (drop l.at l.slots))
      ≡ first_wrong (names_of l.inherited) [] (given l.slots);
}
