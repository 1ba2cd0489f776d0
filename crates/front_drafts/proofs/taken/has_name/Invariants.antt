-- It is left to see what the rest says.
use Rattle.std.proofs.Common.{◌≡◌, drop}
use Rattle.std.specs.List.{list_any}
use Rattle.front_profile.specs.DefiningRows.{is_that}
use Rattle.front_drafts.proofs.taken.has_name.Given as goal

abbrev pub invariant-loop-other : goal.invariant-loop-other
invariant-loop-other l = list_any (is_that l.name) (drop l.other-index l.names) ≡ list_any (is_that l.name) l.names
