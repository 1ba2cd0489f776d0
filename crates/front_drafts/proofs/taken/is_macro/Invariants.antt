-- It is left to see what the rest says.
use Rattle.std.proofs.Common.{◌≡◌, drop}
use Rattle.std.specs.List.{list_any}
use Rattle.front_profile.specs.DefiningRows.{is_that}
use Rattle.front_drafts.proofs.taken.is_macro.Given as goal

abbrev pub invariant-loop-row : goal.invariant-loop-row
invariant-loop-row l = list_any (λ m. is_that l.name m.name) (drop l.row-index l.macros) ≡ list_any (λ m. is_that l.name m.name) l.macros
