use Rattle.std.proofs.Common.{◌≡◌, ◌++◌, drop}
use Rattle.lang_derived.specs.Pieces.{all_taken}
use Rattle.lang_derived.proofs.piece.push_taken.Given as goal

abbrev pub invariant-loop-item : goal.invariant-loop-item
invariant-loop-item l = l.list ++ all_taken (drop l.item-index l.items) ≡ l.initial.list ++ all_taken l.items
