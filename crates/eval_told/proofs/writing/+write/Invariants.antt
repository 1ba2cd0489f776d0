-- Less is left for each part that is written.
use Rattle.std.proofs.Common.{◌+◌, ◌*◌}
use Rattle.eval_told.proofs.writing.+write.Given as goal

abbrev pub decreases-write_word : goal.decreases-write_word
decreases-write_word l = 4 * l.left.now + 2

abbrev pub decreases-write_part : goal.decreases-write_part
decreases-write_part l = 4 * l.left.now + 1

abbrev pub decreases-write_elements : goal.decreases-write_elements
decreases-write_elements l = 4 * l.left.now + 3

abbrev pub decreases-write_chain : goal.decreases-write_chain
decreases-write_chain l = 4 * l.left.now + 3

abbrev pub decreases-write_vector : goal.decreases-write_vector
decreases-write_vector l = 4 * l.left.now + 4

abbrev pub decreases-write_list : goal.decreases-write_list
decreases-write_list l = 4 * l.left.now + 4
