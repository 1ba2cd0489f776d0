-- Some forms were taken, and those behind them are left.
use Rattle.std.proofs.Common.{◌≡◌, length, None}
use Rattle.base.specs.Names.{Extends}
use Rattle.front_files.proofs.Going.{FormsTaken}
use Rattle.front_files.proofs.forms.judge_forms.Given as goal

abbrev pub invariant-loop-datum : goal.invariant-loop-datum
invariant-loop-datum g l =
    FormsTaken l.names l.origin l.mode l.fn.scope l.fn.reader.rest l.fn.reader.place l.scope l.reader.rest l.reader.place
    × (l.reader.stop ≡ None)
    × Extends l.fn.names l.names

abbrev pub decreases-loop-datum : goal.decreases-loop-datum
decreases-loop-datum g l = length l.reader.rest
