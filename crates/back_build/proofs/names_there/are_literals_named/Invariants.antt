-- All are named where those that are left are.
use Rattle.std.proofs.Common.{◌≡◌, drop}
use Rattle.std.specs.List.{list_all}
use Rattle.back_build.specs.Named.{is_literal_named}
use Rattle.back_build.proofs.names_there.are_literals_named.Given as goal

abbrev pub invariant-loop-at : goal.invariant-loop-at
invariant-loop-at l = list_all (is_literal_named l.count) (drop l.at l.literals) ≡ list_all (is_literal_named l.count) l.literals
