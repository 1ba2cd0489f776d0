-- The classes so far stand behind the list.
use Rattle.std.proofs.Common.{◌≡◌, ◌++◌, take}
use Rattle.lang_classes.proofs.line.append.Given as goal

abbrev pub invariant-loop-class : goal.invariant-loop-class
invariant-loop-class l = l.list ≡ l.initial.list ++ take l.class-index l.more
