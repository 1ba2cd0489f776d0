-- The worked programs of conditions and handlers do what they mean.
use Rattle.std.proofs.Common.{refl}
use Rattle.base.specs.Arithmetic.{low_word}
use Rattle.lang_meaning.specs.Meaning.{meaning, mean, meaning_at}
use Rattle.flat_language.specs.Flatten.{flat}
use Rattle.mid_code.specs.State.{go_on, with_some, choose_by, with_registers, landed}
use Rattle.mid_code.specs.Meaning.{called, leaves, exec, exec_step, turns, levels, at_top, runs}
use Rattle.mid_arena.specs.Steps.{hand_over, signal, domain_error, need_header, class_by_header, class_of_object, class_word}
use Rattle.back_lowering.specs.Codes.{lower}
use Rattle.back_lowering.specs.RoutineCodes.{transfer_code, leave_code, throw_code, continue_code, raise_code, signal_code, pending_code, failing_code, failing_with_code, domain_code, function_code, apply_code, generic_code, chain_code, next_code, level_code, list_code, method_code, binding_code, is_function_code, class_code}
use Rattle.back_lowering.specs.Program.{lowered}
use Rattle.back_worked.specs.Start.{DoesLowered}
use Rattle.lang_worked.specs.Conditions.{WithoutItself, Continued, NotContinuable, Returning, CleanupRuns, NoCatchLeft, Replaced, HandlerFails}

pub without_itself : WithoutItself DoesLowered
unfolding low_word go_on with_some choose_by with_registers landed called leaves exec exec_step turns levels at_top runs lower lowered meaning mean meaning_at flat hand_over signal domain_error need_header class_by_header class_of_object class_word transfer_code leave_code throw_code continue_code raise_code signal_code pending_code failing_code failing_with_code domain_code function_code apply_code generic_code chain_code next_code level_code list_code method_code binding_code is_function_code class_code
without_itself = record { ends = refl; prints = refl; cost = refl }

pub continued : Continued DoesLowered
unfolding low_word go_on with_some choose_by with_registers landed called leaves exec exec_step turns levels at_top runs lower lowered meaning mean meaning_at flat hand_over signal domain_error need_header class_by_header class_of_object class_word transfer_code leave_code throw_code continue_code raise_code signal_code pending_code failing_code failing_with_code domain_code function_code apply_code generic_code chain_code next_code level_code list_code method_code binding_code is_function_code class_code
continued = record { ends = refl; prints = refl; cost = refl }

pub not_continuable : NotContinuable DoesLowered
unfolding low_word go_on with_some choose_by with_registers landed called leaves exec exec_step turns levels at_top runs lower lowered meaning mean meaning_at flat hand_over signal domain_error need_header class_by_header class_of_object class_word transfer_code leave_code throw_code continue_code raise_code signal_code pending_code failing_code failing_with_code domain_code function_code apply_code generic_code chain_code next_code level_code list_code method_code binding_code is_function_code class_code
not_continuable = record { ends = (refl, refl); prints = refl; cost = refl }

pub returning : Returning DoesLowered
unfolding low_word go_on with_some choose_by with_registers landed called leaves exec exec_step turns levels at_top runs lower lowered meaning mean meaning_at flat hand_over signal domain_error need_header class_by_header class_of_object class_word transfer_code leave_code throw_code continue_code raise_code signal_code pending_code failing_code failing_with_code domain_code function_code apply_code generic_code chain_code next_code level_code list_code method_code binding_code is_function_code class_code
returning = record { ends = (refl, refl); prints = refl; cost = refl }

pub cleanup_runs : CleanupRuns DoesLowered
unfolding low_word go_on with_some choose_by with_registers landed called leaves exec exec_step turns levels at_top runs lower lowered meaning mean meaning_at flat hand_over signal domain_error need_header class_by_header class_of_object class_word transfer_code leave_code throw_code continue_code raise_code signal_code pending_code failing_code failing_with_code domain_code function_code apply_code generic_code chain_code next_code level_code list_code method_code binding_code is_function_code class_code
cleanup_runs = record { ends = (refl, refl); prints = refl; cost = refl }

pub no_catch_left : NoCatchLeft DoesLowered
unfolding low_word go_on with_some choose_by with_registers landed called leaves exec exec_step turns levels at_top runs lower lowered meaning mean meaning_at flat hand_over signal domain_error need_header class_by_header class_of_object class_word transfer_code leave_code throw_code continue_code raise_code signal_code pending_code failing_code failing_with_code domain_code function_code apply_code generic_code chain_code next_code level_code list_code method_code binding_code is_function_code class_code
no_catch_left = record { ends = (refl, refl); prints = refl; cost = refl }

pub replaced : Replaced DoesLowered
unfolding low_word go_on with_some choose_by with_registers landed called leaves exec exec_step turns levels at_top runs lower lowered meaning mean meaning_at flat hand_over signal domain_error need_header class_by_header class_of_object class_word transfer_code leave_code throw_code continue_code raise_code signal_code pending_code failing_code failing_with_code domain_code function_code apply_code generic_code chain_code next_code level_code list_code method_code binding_code is_function_code class_code
replaced = record { ends = (refl, refl); prints = refl; cost = refl }

pub handler_fails : HandlerFails DoesLowered
unfolding low_word go_on with_some choose_by with_registers landed called leaves exec exec_step turns levels at_top runs lower lowered meaning mean meaning_at flat hand_over signal domain_error need_header class_by_header class_of_object class_word transfer_code leave_code throw_code continue_code raise_code signal_code pending_code failing_code failing_with_code domain_code function_code apply_code generic_code chain_code next_code level_code list_code method_code binding_code is_function_code class_code
handler_fails = record { ends = (refl, refl); prints = refl; cost = refl }
