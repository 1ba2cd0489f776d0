-- The worked programs of data, variables and arguments do what they mean.
use Rattle.std.proofs.Common.{refl}
use Rattle.base.specs.Arithmetic.{low_word, quotient_signed, high_signed, remainder_signed}
use Rattle.lang_meaning.specs.Meaning.{meaning, mean, meaning_at}
use Rattle.flat_language.specs.Flatten.{flat}
use Rattle.mid_code.specs.State.{go_on, with_some, choose_by, with_registers, landed}
use Rattle.mid_code.specs.Meaning.{called, leaves, exec, exec_step, turns, levels, at_top, runs}
use Rattle.mid_arena.specs.Steps.{hand_over, signal, domain_error, need_header, class_by_header, class_of_object, class_word}
use Rattle.back_lowering.specs.Codes.{lower}
use Rattle.back_lowering.specs.RoutineCodes.{transfer_code, leave_code, throw_code, continue_code, raise_code, signal_code, pending_code, failing_code, failing_with_code, domain_code, function_code, apply_code, generic_code, chain_code, next_code, level_code, list_code, method_code, binding_code, is_function_code, class_code}
use Rattle.back_lowering.specs.Program.{lowered}
use Rattle.back_worked.specs.Start.{DoesLowered}
use Rattle.lang_worked.specs.Data.{RestList, Floors, Overflow, NoFunction, NoValue, Counting, SetBinding}

pub rest_list : RestList DoesLowered
unfolding low_word go_on with_some choose_by with_registers landed called leaves exec exec_step turns levels at_top runs lower lowered meaning mean meaning_at flat hand_over signal domain_error need_header class_by_header class_of_object class_word transfer_code leave_code throw_code continue_code raise_code signal_code pending_code failing_code failing_with_code domain_code function_code apply_code generic_code chain_code next_code level_code list_code method_code binding_code is_function_code class_code
rest_list = record { ends = refl; prints = refl; cost = refl }

pub floors : Floors DoesLowered
unfolding low_word quotient_signed high_signed remainder_signed go_on with_some choose_by with_registers landed called leaves exec exec_step turns levels at_top runs lower lowered meaning mean meaning_at flat hand_over signal domain_error need_header class_by_header class_of_object class_word transfer_code leave_code throw_code continue_code raise_code signal_code pending_code failing_code failing_with_code domain_code function_code apply_code generic_code chain_code next_code level_code list_code method_code binding_code is_function_code class_code
floors = record { ends = refl; prints = refl; cost = refl }

pub overflow : Overflow DoesLowered
unfolding low_word go_on with_some choose_by with_registers landed called leaves exec exec_step turns levels at_top runs lower lowered meaning mean meaning_at flat hand_over signal domain_error need_header class_by_header class_of_object class_word transfer_code leave_code throw_code continue_code raise_code signal_code pending_code failing_code failing_with_code domain_code function_code apply_code generic_code chain_code next_code level_code list_code method_code binding_code is_function_code class_code
overflow = record { ends = (refl, refl); prints = refl; cost = refl }

pub no_function : NoFunction DoesLowered
unfolding low_word go_on with_some choose_by with_registers landed called leaves exec exec_step turns levels at_top runs lower lowered meaning mean meaning_at flat hand_over signal domain_error need_header class_by_header class_of_object class_word transfer_code leave_code throw_code continue_code raise_code signal_code pending_code failing_code failing_with_code domain_code function_code apply_code generic_code chain_code next_code level_code list_code method_code binding_code is_function_code class_code
no_function = record { ends = (refl, refl); prints = refl; cost = refl }

pub no_value : NoValue DoesLowered
unfolding low_word go_on with_some choose_by with_registers landed called leaves exec exec_step turns levels at_top runs lower lowered meaning mean meaning_at flat hand_over signal domain_error need_header class_by_header class_of_object class_word transfer_code leave_code throw_code continue_code raise_code signal_code pending_code failing_code failing_with_code domain_code function_code apply_code generic_code chain_code next_code level_code list_code method_code binding_code is_function_code class_code
no_value = record { ends = (refl, refl); prints = refl; cost = refl }

pub counting : Counting DoesLowered
unfolding low_word go_on with_some choose_by with_registers landed called leaves exec exec_step turns levels at_top runs lower lowered meaning mean meaning_at flat hand_over signal domain_error need_header class_by_header class_of_object class_word transfer_code leave_code throw_code continue_code raise_code signal_code pending_code failing_code failing_with_code domain_code function_code apply_code generic_code chain_code next_code level_code list_code method_code binding_code is_function_code class_code
counting = record { ends = refl; prints = refl; cost = refl }

pub set_binding : SetBinding DoesLowered
unfolding low_word go_on with_some choose_by with_registers landed called leaves exec exec_step turns levels at_top runs lower lowered meaning mean meaning_at flat hand_over signal domain_error need_header class_by_header class_of_object class_word transfer_code leave_code throw_code continue_code raise_code signal_code pending_code failing_code failing_with_code domain_code function_code apply_code generic_code chain_code next_code level_code list_code method_code binding_code is_function_code class_code
set_binding = record { ends = refl; prints = refl; cost = refl }
