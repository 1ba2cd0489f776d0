-- Those of the list so far, and then those of the rest.
use Rattle.std.proofs.Common.{◌≡◌, ◌++◌, filter, drop}
use Rattle.lang_meaning.specs.Lookup.{is_in}
use Rattle.lang_dispatch.proofs.groups.common.Given as goal

abbrev pub invariant-loop-class : goal.invariant-loop-class
invariant-loop-class l =
    l.both ++ filter (λ d. is_in d l.column) (drop l.class-index l.list) ≡ filter (λ d. is_in d l.column) l.list
