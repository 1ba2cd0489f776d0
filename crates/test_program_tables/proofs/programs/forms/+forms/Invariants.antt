-- A form's parts stand less deep than the form.
use Rattle.std.proofs.Common.{◌+◌, ◌*◌}
use Rattle.test_program_tables.proofs.programs.forms.+forms.Given as goal

abbrev pub decreases-form : goal.decreases-form
decreases-form l = 4 * l.depth

abbrev pub decreases-boxed : goal.decreases-boxed
decreases-boxed l = 4 * l.depth + 1

abbrev pub decreases-forms : goal.decreases-forms
decreases-forms l = 4 * l.depth + 1

abbrev pub decreases-clause : goal.decreases-clause
decreases-clause l = 4 * l.depth + 1

abbrev pub decreases-bindings : goal.decreases-bindings
decreases-bindings l = 4 * l.depth + 1

abbrev pub decreases-dynamic_bindings : goal.decreases-dynamic_bindings
decreases-dynamic_bindings l = 4 * l.depth + 1

abbrev pub decreases-nest : goal.decreases-nest
decreases-nest l = 4 * l.depth + 1

abbrev pub decreases-kind : goal.decreases-kind
decreases-kind l = 4 * l.depth + 3

abbrev pub decreases-numbered_form : goal.decreases-numbered_form
decreases-numbered_form l = 4 * l.depth + 2

abbrev pub decreases-named_form : goal.decreases-named_form
decreases-named_form l = 4 * l.depth + 2

abbrev pub decreases-pair_form : goal.decreases-pair_form
decreases-pair_form l = 4 * l.depth + 2

abbrev pub decreases-list_form : goal.decreases-list_form
decreases-list_form l = 4 * l.depth + 2

abbrev pub decreases-headed_form : goal.decreases-headed_form
decreases-headed_form l = 4 * l.depth + 2

abbrev pub decreases-clauses_form : goal.decreases-clauses_form
decreases-clauses_form l = 4 * l.depth + 2

abbrev pub decreases-let_form : goal.decreases-let_form
decreases-let_form l = 4 * l.depth + 2

abbrev pub decreases-dynamic_let_form : goal.decreases-dynamic_let_form
decreases-dynamic_let_form l = 4 * l.depth + 2

abbrev pub decreases-lambda_form : goal.decreases-lambda_form
decreases-lambda_form l = 4 * l.depth + 2
