-- It is left to see what the rest says.
use Rattle.std.proofs.Common.{◌≡◌, drop}
use Rattle.std.specs.List.{list_any}
use Rattle.front_profile.specs.GenericRows.{is_no_option, options_of}
use Rattle.front_definitions.proofs.generics.some_no_option.Given as goal

abbrev pub invariant-loop-item : goal.invariant-loop-item
invariant-loop-item l = list_any is_no_option (options_of l.names (drop l.item-index l.items)) ≡ list_any is_no_option (options_of l.names l.items)
