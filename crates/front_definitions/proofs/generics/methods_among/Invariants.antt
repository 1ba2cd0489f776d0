-- What was found stands in front of what the rest gives.
use Rattle.std.proofs.Common.{◌≡◌, ◌++◌, drop}
use Rattle.front_profile.specs.GenericRows.{methods_among, options_of}
use Rattle.front_syntax.specs.Definitions.{view_methods}
use Rattle.front_definitions.proofs.generics.methods_among.Given as goal

abbrev pub invariant-loop-item : goal.invariant-loop-item
invariant-loop-item l = view_methods l.methods ++ methods_among (options_of l.names (drop l.item-index l.items)) ≡ methods_among (options_of l.names l.items)
