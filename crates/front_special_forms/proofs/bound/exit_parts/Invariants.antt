-- The parts that were seen stand in front of the rest.
use Rattle.std.proofs.Common.{◌≡◌, ◌++◌, drop}
use Rattle.std.specs.List.{filter_map}
use Rattle.front_profile.specs.Names.{exit_part}
use Rattle.front_special_forms.proofs.bound.exit_parts.Given as goal

abbrev pub invariant-loop-one : goal.invariant-loop-one
invariant-loop-one l = l.parts ++ filter_map exit_part (drop l.one-index l.bound) ≡ filter_map exit_part l.bound
