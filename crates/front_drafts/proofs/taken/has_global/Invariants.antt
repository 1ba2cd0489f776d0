-- It is left to see what the rest says.
use Rattle.std.proofs.Common.{◌≡◌, ◌&&◌, drop}
use Rattle.std.specs.List.{list_any}
use Rattle.front_profile.specs.DefiningRows.{is_that, counts}
use Rattle.front_drafts.proofs.taken.has_global.Given as goal

abbrev pub invariant-loop-global : goal.invariant-loop-global
invariant-loop-global l =
    list_any (λ g. is_that l.name g.name && counts l.of_file g.of_file) (drop l.global-index l.tables.globals)
    ≡ list_any (λ g. is_that l.name g.name && counts l.of_file g.of_file) l.tables.globals
