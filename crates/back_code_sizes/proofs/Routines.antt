-- What does not depend on the program: the procedures of primitives and the routines.
use Rattle.std.proofs.Common.{◌≡◌, ℕ, ◌+◌, List, refl}
use Rattle.flat_language.specs.declared.program.FlatProgram.{FlatProgram}
use Rattle.mid_arena.specs.Steps.{domain_error, hand_over, signal, need_header, class_word, class_of_object, class_by_header}
use Rattle.back_lowering.specs.declared.placement.Placement.{Placement}
use Rattle.back_lowering.specs.Program.{primitives, routines}
use Rattle.back_lowering.specs.RoutineCodes.{transfer_code, leave_code, throw_code, continue_code, raise_code, signal_code, pending_code, failing_code, failing_with_code, domain_code, function_code, apply_code, generic_code, chain_code, next_code, level_code, list_code, method_code, binding_code, is_function_code, class_code}
use Rattle.back_code_sizes.specs.Passed.{procedures_pass}
use Rattle.back_sizes.specs.Laws.{procedures_cost}

module _ (names : List (List ℕ)) (at : Placement) (program : FlatProgram) where
  pub primitives_cost : procedures_cost (primitives names at program) + procedures_pass (primitives names at program) ≡ 27687
  unfolding domain_error hand_over signal need_header class_word class_of_object class_by_header
  primitives_cost = refl

  pub routines_cost : procedures_cost (routines names at program) + procedures_pass (routines names at program) ≡ 9294
  unfolding transfer_code leave_code throw_code continue_code raise_code signal_code pending_code failing_code failing_with_code domain_code function_code apply_code generic_code chain_code next_code level_code list_code method_code binding_code is_function_code class_code class_word class_of_object class_by_header
  routines_cost = refl
