use Rattle.test_library.proofs.walk.Walk.+form.Given as goal

abbrev pub decreases-form : goal.decreases-form
decreases-form l = l.depth

abbrev pub decreases-forms : goal.decreases-forms
decreases-forms l = l.depth

abbrev pub decreases-values : goal.decreases-values
decreases-values l = l.depth

abbrev pub decreases-clauses : goal.decreases-clauses
decreases-clauses l = l.depth

abbrev pub decreases-clause : goal.decreases-clause
decreases-clause l = l.depth
