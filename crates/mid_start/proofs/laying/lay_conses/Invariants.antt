-- The conses from a word on are laid.
use Rattle.std.proofs.Common.{◌≡◌, ◌+◌, ◌*◌, ◌≤◌, length, drop}
use Rattle.mid_start.specs.Laying.{Grown, LaysConses}
use Rattle.mid_start.proofs.laying.lay_conses.Given as goal

abbrev pub invariant-loop-at : goal.invariant-loop-at
invariant-loop-at l = record {
  inside : l.at ≤ length l.cars;
  grown : Grown l.fn.words l.words;
  count : length l.words.words + 2 * l.at ≡ length l.fn.words.words + 2 * length l.cars;
  laid : LaysConses (drop l.at l.cars) l.fn.end l.fn.words l.words l.list;
}

abbrev pub decreases-loop-at : goal.decreases-loop-at
decreases-loop-at l = l.at
