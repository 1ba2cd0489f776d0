-- The parts that were seen stand in front of the rest.
use Rattle.std.proofs.Common.{◌≡◌, ◌++◌, drop}
use Rattle.std.specs.List.{filter_map}
use Rattle.front_profile.specs.Names.{variable_part}
use Rattle.front_special_forms.proofs.bound.variable_parts.Given as goal

abbrev pub invariant-loop-one : goal.invariant-loop-one
invariant-loop-one l = l.parts ++ filter_map variable_part (drop l.one-index l.bound) ≡ filter_map variable_part l.bound
