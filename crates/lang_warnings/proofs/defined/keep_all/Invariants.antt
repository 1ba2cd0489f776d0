-- The numbers that are passed are kept.
use Rattle.std.proofs.Common.{take}
use Rattle.lang_warnings.specs.Known.{AreKept}
use Rattle.lang_warnings.proofs.defined.keep_all.Given as goal

abbrev pub invariant-loop-number : goal.invariant-loop-number
invariant-loop-number l = AreKept (take l.number-index l.numbers) l.kept
