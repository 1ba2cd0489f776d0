-- It is left to see what the rest says.
use Rattle.std.proofs.Common.{◌≡◌, drop}
use Rattle.std.specs.List.{list_any}
use Rattle.front_profile.specs.ValueRows.{is_constant_row}
use Rattle.front_special_forms.proofs.values.is_constant.Given as goal

abbrev pub invariant-loop-global : goal.invariant-loop-global
invariant-loop-global l = list_any (is_constant_row l.name) (drop l.global-index l.tables.globals) ≡ list_any (is_constant_row l.name) l.tables.globals
