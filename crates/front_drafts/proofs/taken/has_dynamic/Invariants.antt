-- It is left to see what the rest says.
use Rattle.std.proofs.Common.{◌≡◌, ◌&&◌, drop}
use Rattle.std.specs.List.{list_any}
use Rattle.front_profile.specs.DefiningRows.{is_that, counts}
use Rattle.front_drafts.proofs.taken.has_dynamic.Given as goal

abbrev pub invariant-loop-variable : goal.invariant-loop-variable
invariant-loop-variable l =
    list_any (λ v. is_that l.name v.name && counts l.of_file v.of_file) (drop l.variable-index l.tables.dynamics)
    ≡ list_any (λ v. is_that l.name v.name && counts l.of_file v.of_file) l.tables.dynamics
