-- The last digit of what is left stands in the room, and the digits behind it after it.
use Rattle.std.proofs.Common.{◌≡◌, ◌+◌, ◌%◌, ◌^◌, ◌<◌, ◌≤◌, ◌++◌, length, drop, get_or}
use Rattle.std.specs.Fmt.{decimal}
use Rattle.top_lines.proofs.lines.decimal_in.Given as goal

abbrev pub invariant-loop-rest : goal.invariant-loop-rest
invariant-loop-rest l = record {
  long : length l.room ≡ 20;
  within : l.at ≤ 19;
  room : l.rest < 10 ^ (l.at + 1);
  digit : get_or l.room l.at 0 ≡ 48 + l.rest % 10;
  digits : decimal l.rest ++ drop (l.at + 1) l.room ≡ decimal l.number;
}

abbrev pub decreases-loop-rest : goal.decreases-loop-rest
decreases-loop-rest l = l.rest
