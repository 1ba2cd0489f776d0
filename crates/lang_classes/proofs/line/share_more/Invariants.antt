-- None of the classes so far is shared.
use Rattle.std.proofs.Common.{◌≡◌, drop}
use Rattle.lang_classes.specs.InheritedPrecedence.{share_more}
use Rattle.lang_classes.proofs.line.share_more.Given as goal

abbrev pub invariant-loop-class : goal.invariant-loop-class
invariant-loop-class l = share_more (drop l.class-index l.line) l.other ≡ share_more l.line l.other
