-- A form's parts stand inside fewer forms.
use Rattle.test_end_tables.proofs.forms.+forms.Given as goal

abbrev pub decreases-put_form : goal.decreases-put_form
decreases-put_form l = l.depth
