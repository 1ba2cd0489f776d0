-- The names that are left have their numbers.
use Rattle.std.proofs.Common.{◌≤◌, ◌-◌, length, take}
use Rattle.lang_dispatch.specs.Methods.{names_of}
use Rattle.lang_dispatch.specs.NameNumbers.{IsIndexed}
use Rattle.lang_dispatch.proofs.numbers.forget.Given as goal

abbrev pub invariant-loop-left : goal.invariant-loop-left
invariant-loop-left l = record {
  fits : l.left ≤ length l.rows;
  above : l.len ≤ l.left;
  indexed : IsIndexed (take l.left (names_of l.rows)) l.numbers;
}

abbrev pub decreases-loop-left : goal.decreases-loop-left
decreases-loop-left l = l.left - l.len
