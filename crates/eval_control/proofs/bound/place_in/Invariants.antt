-- How far the list was searched.
use Rattle.std.proofs.Common.{ℕ, List}
use Rattle.eval_store.specs.Spelling.{IsSpelling}
use Rattle.eval_control.proofs.BindingsFound.{IsSought}
use Rattle.eval_control.proofs.bound.place_in.Given as goal

abbrev pub invariant-loop-at : goal.invariant-loop-at
invariant-loop-at l = (names : List (List ℕ)) → IsSpelling names l.spellings → IsSought names l.name.0 l.list l.at
