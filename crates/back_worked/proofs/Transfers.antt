-- The worked programs of transfers and cleanups do what they mean.
use Rattle.std.proofs.Common.{refl}
use Rattle.base.specs.Arithmetic.{low_word}
use Rattle.lang_meaning.specs.Meaning.{meaning, mean, meaning_at}
use Rattle.flat_language.specs.Flatten.{flat}
use Rattle.mid_code.specs.State.{go_on, with_some, choose_by, with_registers, landed}
use Rattle.mid_code.specs.Meaning.{called, leaves, exec, exec_step, turns, levels, at_top, runs}
use Rattle.mid_arena.specs.Steps.{hand_over, signal, domain_error, need_header, class_by_header, class_of_object, class_word}
use Rattle.back_lowering.specs.Codes.{lower}
use Rattle.back_lowering.specs.RoutineCodes.{transfer_code, leave_code, throw_code, continue_code, raise_code, signal_code, pending_code, failing_code, failing_with_code, domain_code, function_code, apply_code, generic_code, chain_code, next_code, level_code, list_code, method_code, binding_code, is_function_code, class_code}
use Rattle.back_lowering.specs.Program.{lowered}
use Rattle.back_worked.specs.Start.{DoesLowered}
use Rattle.lang_worked.specs.Exits.{InnerFirst, InnerCatch, OuterCatch, EarlierTurn, TooFewLevels, StaleExit}

pub inner_first : InnerFirst DoesLowered
unfolding low_word go_on with_some choose_by with_registers landed called leaves exec exec_step turns levels at_top runs lower lowered meaning mean meaning_at flat hand_over signal domain_error need_header class_by_header class_of_object class_word transfer_code leave_code throw_code continue_code raise_code signal_code pending_code failing_code failing_with_code domain_code function_code apply_code generic_code chain_code next_code level_code list_code method_code binding_code is_function_code class_code
inner_first = record { ends = refl; prints = refl; cost = refl }

pub inner_catch : InnerCatch DoesLowered
unfolding low_word go_on with_some choose_by with_registers landed called leaves exec exec_step turns levels at_top runs lower lowered meaning mean meaning_at flat hand_over signal domain_error need_header class_by_header class_of_object class_word transfer_code leave_code throw_code continue_code raise_code signal_code pending_code failing_code failing_with_code domain_code function_code apply_code generic_code chain_code next_code level_code list_code method_code binding_code is_function_code class_code
inner_catch = record { ends = (refl, refl); prints = refl; cost = refl }

pub outer_catch : OuterCatch DoesLowered
unfolding low_word go_on with_some choose_by with_registers landed called leaves exec exec_step turns levels at_top runs lower lowered meaning mean meaning_at flat hand_over signal domain_error need_header class_by_header class_of_object class_word transfer_code leave_code throw_code continue_code raise_code signal_code pending_code failing_code failing_with_code domain_code function_code apply_code generic_code chain_code next_code level_code list_code method_code binding_code is_function_code class_code
outer_catch = record { ends = refl; prints = refl; cost = refl }

pub earlier_turn : EarlierTurn DoesLowered
unfolding low_word go_on with_some choose_by with_registers landed called leaves exec exec_step turns levels at_top runs lower lowered meaning mean meaning_at flat hand_over signal domain_error need_header class_by_header class_of_object class_word transfer_code leave_code throw_code continue_code raise_code signal_code pending_code failing_code failing_with_code domain_code function_code apply_code generic_code chain_code next_code level_code list_code method_code binding_code is_function_code class_code
earlier_turn = record { ends = refl; prints = refl; cost = refl }

pub too_few_levels : TooFewLevels DoesLowered
unfolding low_word go_on with_some choose_by with_registers landed called leaves exec exec_step turns levels at_top runs lower lowered meaning mean meaning_at flat hand_over signal domain_error need_header class_by_header class_of_object class_word transfer_code leave_code throw_code continue_code raise_code signal_code pending_code failing_code failing_with_code domain_code function_code apply_code generic_code chain_code next_code level_code list_code method_code binding_code is_function_code class_code
too_few_levels = record { ends = tt; prints = refl; cost = refl }

pub stale_exit : StaleExit DoesLowered
unfolding low_word go_on with_some choose_by with_registers landed called leaves exec exec_step turns levels at_top runs lower lowered meaning mean meaning_at flat hand_over signal domain_error need_header class_by_header class_of_object class_word transfer_code leave_code throw_code continue_code raise_code signal_code pending_code failing_code failing_with_code domain_code function_code apply_code generic_code chain_code next_code level_code list_code method_code binding_code is_function_code class_code
stale_exit = record { ends = (refl, refl); prints = refl; cost = refl }
