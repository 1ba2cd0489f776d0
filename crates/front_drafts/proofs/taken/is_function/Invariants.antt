-- It is left to see what the rest says.
use Rattle.std.proofs.Common.{◌≡◌, drop}
use Rattle.std.specs.List.{list_any}
use Rattle.front_profile.specs.DefiningRows.{is_that}
use Rattle.front_drafts.proofs.taken.is_function.Given as goal

abbrev pub invariant-loop-function : goal.invariant-loop-function
invariant-loop-function l = list_any (λ f. is_that l.name f.name) (drop l.function-index l.functions) ≡ list_any (λ f. is_that l.name f.name) l.functions
