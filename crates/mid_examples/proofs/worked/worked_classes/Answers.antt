use Rattle.mid_examples.proofs.Classes.{class_of_rows, class_name_rows, is_subclass_rows, is_instance_rows}
use Rattle.mid_examples.proofs.worked.worked_classes.Goals as goal

pub returns-clause-class_of_rows : goal.returns-clause-class_of_rows
returns-clause-class_of_rows c = class_of_rows

pub returns-clause-class_name_rows : goal.returns-clause-class_name_rows
returns-clause-class_name_rows c = class_name_rows

pub returns-clause-is_subclass_rows : goal.returns-clause-is_subclass_rows
returns-clause-is_subclass_rows c = is_subclass_rows

pub returns-clause-is_instance_rows : goal.returns-clause-is_instance_rows
returns-clause-is_instance_rows c = is_instance_rows
