use Rattle.test_tables.proofs.named.+spelled.Given as goal

abbrev pub decreases-is_spelled : goal.decreases-is_spelled
decreases-is_spelled l = l.depth

abbrev pub decreases-are_spelled : goal.decreases-are_spelled
decreases-are_spelled l = l.depth

abbrev pub decreases-is_tail_spelled : goal.decreases-is_tail_spelled
decreases-is_tail_spelled l = l.depth
