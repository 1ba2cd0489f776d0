-- The exits so far, and those of the rest.
use Rattle.std.proofs.Common.{◌≡◌, ◌++◌, filter, drop}
use Rattle.std.specs.List.{list_any}
use Rattle.lang_meaning.specs.declared.capture.Capture.TheVariants.{Exit}
use Rattle.lang_meaning.specs.Mentions.{same_part}
use Rattle.test_checker.proofs.scope.seen_exits.Given as goal

abbrev pub invariant-loop-exit : goal.invariant-loop-exit
invariant-loop-exit l = l.list ++ filter (λ e. list_any (same_part (Exit e.exit)) l.parts) (drop l.exit-index l.exits) ≡ filter (λ e. list_any (same_part (Exit e.exit)) l.parts) l.exits
