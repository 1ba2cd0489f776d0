-- Each program is a lemma of its own.
use Rattle.lang_worked.proofs.FlatExamples.{dotted_list, string_in_a_vector, changed_literal, rest_list, applied, applied_to_a_dotted_list, too_many_arguments, floors, overflow, no_function, no_value, counting, set_binding, slot_places, slot_initarg, slot_form, unbound_slot, set_slot}
use Rattle.lang_worked.proofs.flat_programs.flat_data.Goals as goal

pub returns-clause-dotted_list : goal.returns-clause-dotted_list
returns-clause-dotted_list c = dotted_list

pub returns-clause-string_in_a_vector : goal.returns-clause-string_in_a_vector
returns-clause-string_in_a_vector c = string_in_a_vector

pub returns-clause-changed_literal : goal.returns-clause-changed_literal
returns-clause-changed_literal c = changed_literal

pub returns-clause-rest_list : goal.returns-clause-rest_list
returns-clause-rest_list c = rest_list

pub returns-clause-applied : goal.returns-clause-applied
returns-clause-applied c = applied

pub returns-clause-applied_to_a_dotted_list : goal.returns-clause-applied_to_a_dotted_list
returns-clause-applied_to_a_dotted_list c = applied_to_a_dotted_list

pub returns-clause-too_many_arguments : goal.returns-clause-too_many_arguments
returns-clause-too_many_arguments c = too_many_arguments

pub returns-clause-floors : goal.returns-clause-floors
returns-clause-floors c = floors

pub returns-clause-overflow : goal.returns-clause-overflow
returns-clause-overflow c = overflow

pub returns-clause-no_function : goal.returns-clause-no_function
returns-clause-no_function c = no_function

pub returns-clause-no_value : goal.returns-clause-no_value
returns-clause-no_value c = no_value

pub returns-clause-counting : goal.returns-clause-counting
returns-clause-counting c = counting

pub returns-clause-set_binding : goal.returns-clause-set_binding
returns-clause-set_binding c = set_binding

pub returns-clause-slot_places : goal.returns-clause-slot_places
returns-clause-slot_places c = slot_places

pub returns-clause-slot_initarg : goal.returns-clause-slot_initarg
returns-clause-slot_initarg c = slot_initarg

pub returns-clause-slot_form : goal.returns-clause-slot_form
returns-clause-slot_form c = slot_form

pub returns-clause-unbound_slot : goal.returns-clause-unbound_slot
returns-clause-unbound_slot c = unbound_slot

pub returns-clause-set_slot : goal.returns-clause-set_slot
returns-clause-set_slot c = set_slot
