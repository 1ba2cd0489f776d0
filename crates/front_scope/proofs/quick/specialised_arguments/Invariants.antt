-- What was counted, with the arguments that are left, is no fewer.
use Rattle.std.proofs.Common.{◌≤◌, ◌+◌, ◌-◌, length, filter}
use Rattle.std.specs.List.{range_with_len}
use Rattle.lang_meaning.specs.Cells.{is_specialised}
use Rattle.front_scope.proofs.quick.specialised_arguments.Given as goal

abbrev pub invariant-loop-argument : goal.invariant-loop-argument
invariant-loop-argument l = record {
  few : l.count ≤ l.argument;
  counted : length (filter (is_specialised l.generic) (range_with_len 0 l.generic.required))
      ≤ l.count + length (filter (is_specialised l.generic) (range_with_len l.argument (l.generic.required - l.argument)));
}
