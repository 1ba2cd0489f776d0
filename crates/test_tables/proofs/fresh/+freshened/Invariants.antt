use Rattle.test_tables.proofs.fresh.+freshened.Given as goal

abbrev pub decreases-freshened : goal.decreases-freshened
decreases-freshened l = l.depth

abbrev pub decreases-all_freshened : goal.decreases-all_freshened
decreases-all_freshened l = l.depth

abbrev pub decreases-tail_freshened : goal.decreases-tail_freshened
decreases-tail_freshened l = l.depth
