-- It is left to see what the rest says.
use Rattle.std.proofs.Common.{◌≡◌, drop}
use Rattle.std.specs.List.{list_any}
use Rattle.front_profile.specs.ClassRows.{is_kept_name}
use Rattle.front_class_definitions.specs.Functions.{view_uses}
use Rattle.front_drafts.specs.Drafts.{around}
use Rattle.front_class_definitions.proofs.classes.some_kept_name.Given as goal

abbrev pub invariant-loop-one : goal.invariant-loop-one
invariant-loop-one l = list_any (is_kept_name l.names (around l.here) l.here.tables.now) (view_uses (drop l.one-index l.uses)) ≡ list_any (is_kept_name l.names (around l.here) l.here.tables.now) (view_uses l.uses)
