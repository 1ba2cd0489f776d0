-- Each part takes of what is left; in a loop what is written so far is a front of what is to be written.
use Rattle.std.proofs.Common.{◌+◌, ◌*◌, ◌≤◌, ◌++◌}
use Rattle.std.specs.Prelude.{codes}
use Rattle.mid_told.specs.declared.parts.Part.TheVariants.{Cons}
use Rattle.mid_told.proofs.Passed.{ElementsPassed, ChainPassed}
use Rattle.mid_told.proofs.writing.+write.Given as goal

abbrev pub decreases-write_word : goal.decreases-write_word
decreases-write_word l = 3 * l.left.now + 2

abbrev pub decreases-write_part : goal.decreases-write_part
decreases-write_part l = 3 * l.left.now + 1

abbrev pub decreases-write_vector : goal.decreases-write_vector
decreases-write_vector l = 3 * l.left.now + 3

abbrev pub decreases-write_list : goal.decreases-write_list
decreases-write_list l = 3 * l.left.now + 3

abbrev pub invariant-write_vector-loop-k : goal.invariant-write_vector-loop-k
invariant-write_vector-loop-k l = record {
  passed : ElementsPassed l.words l.at l.count l.fn.left (l.fn.out ++ codes "#(") l.gap l.out l.k l.left;
  less : l.left ≤ l.fn.left;
}

abbrev pub invariant-write_list-conses : goal.invariant-write_list-conses
invariant-write_list-conses l = record {
  passed : ChainPassed l.words (Cons l.fn.car l.fn.cdr) l.fn.left (l.fn.out ++ codes "(") l.gap l.out l.part l.left;
  less : l.left ≤ l.fn.left;
}

abbrev pub decreases-write_list-conses : goal.decreases-write_list-conses
decreases-write_list-conses l = l.left
