use Rattle.mid_examples.proofs.Instances.{allocate_rows, slot_count_rows, slot_place_rows, slot_ref_rows, slot_set_rows, slot_bound_rows, slot_initargs_rows, slot_initform_rows, continuable_rows}
use Rattle.mid_examples.proofs.worked.worked_instances.Goals as goal

pub returns-clause-allocate_rows : goal.returns-clause-allocate_rows
returns-clause-allocate_rows c = allocate_rows

pub returns-clause-slot_count_rows : goal.returns-clause-slot_count_rows
returns-clause-slot_count_rows c = slot_count_rows

pub returns-clause-slot_place_rows : goal.returns-clause-slot_place_rows
returns-clause-slot_place_rows c = slot_place_rows

pub returns-clause-slot_ref_rows : goal.returns-clause-slot_ref_rows
returns-clause-slot_ref_rows c = slot_ref_rows

pub returns-clause-slot_set_rows : goal.returns-clause-slot_set_rows
returns-clause-slot_set_rows c = slot_set_rows

pub returns-clause-slot_bound_rows : goal.returns-clause-slot_bound_rows
returns-clause-slot_bound_rows c = slot_bound_rows

pub returns-clause-slot_initargs_rows : goal.returns-clause-slot_initargs_rows
returns-clause-slot_initargs_rows c = slot_initargs_rows

pub returns-clause-slot_initform_rows : goal.returns-clause-slot_initform_rows
returns-clause-slot_initform_rows c = slot_initform_rows

pub returns-clause-continuable_rows : goal.returns-clause-continuable_rows
returns-clause-continuable_rows c = continuable_rows
