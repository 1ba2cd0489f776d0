-- The worked programs compute.
use Rattle.std.proofs.Common.{refl, [], ◌∷◌}
use Rattle.base.specs.Arithmetic.{low_word}
use Rattle.flat_language.specs.FlatMeaning.{flat_meaning, mean, flat_meaning_at}
use Rattle.mid_code.specs.State.{go_on, with_some, choose_by, with_registers, landed}
use Rattle.mid_code.specs.Meaning.{called, leaves, exec, exec_step, turns, levels, at_top, runs}
use Rattle.back_lowering.specs.Codes.{lower}
use Rattle.back_lowering.specs.RoutineCodes.{transfer_code, leave_code, throw_code, continue_code, raise_code, signal_code, pending_code, failing_code, failing_with_code, domain_code, function_code, apply_code, generic_code, chain_code, next_code, level_code, list_code, method_code, binding_code, is_function_code, class_code}
use Rattle.back_lowering.specs.Program.{lowered}
use Rattle.back_worked.specs.Small.{Halts, leaving, looping, fib, throwing, going, counting, binding, resting}

pub leaving_halts : Halts leaving [] 2 1
unfolding low_word go_on with_some choose_by with_registers landed called leaves exec exec_step turns levels at_top runs lower lowered flat_meaning mean flat_meaning_at transfer_code leave_code throw_code continue_code raise_code signal_code pending_code failing_code failing_with_code domain_code function_code apply_code generic_code chain_code next_code level_code list_code method_code binding_code is_function_code class_code
leaving_halts = record { meant = refl; ends = refl; cost = refl }

pub looping_halts : Halts looping [] 6 6
unfolding low_word go_on with_some choose_by with_registers landed called leaves exec exec_step turns levels at_top runs lower lowered flat_meaning mean flat_meaning_at transfer_code leave_code throw_code continue_code raise_code signal_code pending_code failing_code failing_with_code domain_code function_code apply_code generic_code chain_code next_code level_code list_code method_code binding_code is_function_code class_code
looping_halts = record { meant = refl; ends = refl; cost = refl }

pub fib_halts : Halts fib (2 ∷ []) 8 8
unfolding low_word go_on with_some choose_by with_registers landed called leaves exec exec_step turns levels at_top runs lower lowered flat_meaning mean flat_meaning_at transfer_code leave_code throw_code continue_code raise_code signal_code pending_code failing_code failing_with_code domain_code function_code apply_code generic_code chain_code next_code level_code list_code method_code binding_code is_function_code class_code
fib_halts = record { meant = refl; ends = refl; cost = refl }

pub throwing_halts : Halts throwing [] 2 3
unfolding low_word go_on with_some choose_by with_registers landed called leaves exec exec_step turns levels at_top runs lower lowered flat_meaning mean flat_meaning_at transfer_code leave_code throw_code continue_code raise_code signal_code pending_code failing_code failing_with_code domain_code function_code apply_code generic_code chain_code next_code level_code list_code method_code binding_code is_function_code class_code
throwing_halts = record { meant = refl; ends = refl; cost = refl }

pub going_halts : Halts going [] 8 4
unfolding low_word go_on with_some choose_by with_registers landed called leaves exec exec_step turns levels at_top runs lower lowered flat_meaning mean flat_meaning_at transfer_code leave_code throw_code continue_code raise_code signal_code pending_code failing_code failing_with_code domain_code function_code apply_code generic_code chain_code next_code level_code list_code method_code binding_code is_function_code class_code
going_halts = record { meant = refl; ends = refl; cost = refl }

pub counting_halts : Halts counting (0 ∷ []) 8 6
unfolding low_word go_on with_some choose_by with_registers landed called leaves exec exec_step turns levels at_top runs lower lowered flat_meaning mean flat_meaning_at transfer_code leave_code throw_code continue_code raise_code signal_code pending_code failing_code failing_with_code domain_code function_code apply_code generic_code chain_code next_code level_code list_code method_code binding_code is_function_code class_code
counting_halts = record { meant = refl; ends = refl; cost = refl }

pub binding_halts : Halts binding (0 ∷ []) 4 3
unfolding low_word go_on with_some choose_by with_registers landed called leaves exec exec_step turns levels at_top runs lower lowered flat_meaning mean flat_meaning_at transfer_code leave_code throw_code continue_code raise_code signal_code pending_code failing_code failing_with_code domain_code function_code apply_code generic_code chain_code next_code level_code list_code method_code binding_code is_function_code class_code
binding_halts = record { meant = refl; ends = refl; cost = refl }

pub resting_halts : Halts resting (3 ∷ []) 4 4
unfolding low_word go_on with_some choose_by with_registers landed called leaves exec exec_step turns levels at_top runs lower lowered flat_meaning mean flat_meaning_at transfer_code leave_code throw_code continue_code raise_code signal_code pending_code failing_code failing_with_code domain_code function_code apply_code generic_code chain_code next_code level_code list_code method_code binding_code is_function_code class_code
resting_halts = record { meant = refl; ends = refl; cost = refl }
