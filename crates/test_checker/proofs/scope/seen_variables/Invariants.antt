-- The variables so far, and those of the rest.
use Rattle.std.proofs.Common.{◌≡◌, ◌++◌, filter, drop}
use Rattle.std.specs.List.{list_any}
use Rattle.lang_meaning.specs.declared.capture.Capture.TheVariants.{Variable}
use Rattle.lang_meaning.specs.Mentions.{same_part}
use Rattle.test_checker.proofs.scope.seen_variables.Given as goal

abbrev pub invariant-loop-var : goal.invariant-loop-var
invariant-loop-var l = l.list ++ filter (λ v. list_any (same_part (Variable v)) l.parts) (drop l.var-index l.vars) ≡ filter (λ v. list_any (same_part (Variable v)) l.parts) l.vars
