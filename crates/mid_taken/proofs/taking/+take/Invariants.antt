-- The levels that may open become fewer; in a loop what is taken so far is a front of what is to be taken.
use Rattle.std.proofs.Common.{◌+◌, ◌-◌, ◌*◌, ◌≤◌}
use Rattle.mid_taken.specs.declared.parts.Part.TheVariants.{Cons}
use Rattle.mid_taken.proofs.Passed.{ElementsPassed, ChainPassed}
use Rattle.mid_taken.proofs.taking.+take.Given as goal

abbrev pub decreases-take_word : goal.decreases-take_word
decreases-take_word l = 3 * l.deep + 2

abbrev pub decreases-take_part : goal.decreases-take_part
decreases-take_part l = 3 * l.deep + 1

abbrev pub decreases-take_vector : goal.decreases-take_vector
decreases-take_vector l = 3 * l.deep

abbrev pub decreases-take_list : goal.decreases-take_list
decreases-take_list l = 3 * l.deep

abbrev pub invariant-take_vector-loop-k : goal.invariant-take_vector-loop-k
invariant-take_vector-loop-k l = record {
  passed : ElementsPassed l.from l.at l.count (l.deep - 1) l.fn.left l.items l.k l.left;
  less : l.left ≤ l.fn.left;
}

abbrev pub invariant-take_list-conses : goal.invariant-take_list-conses
invariant-take_list-conses l = record {
  passed : ChainPassed l.from (Cons l.fn.car l.fn.cdr) (l.deep - 1) l.fn.left l.items l.part l.left;
  less : l.left ≤ l.fn.left;
}

abbrev pub decreases-take_list-conses : goal.decreases-take_list-conses
decreases-take_list-conses l = l.left
