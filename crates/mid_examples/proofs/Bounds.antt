-- They compute.
use Rattle.std.proofs.Common.{refl}
use Rattle.base.specs.Arithmetic.{low_word, high_signed, shift_right_signed, quotient_signed, remainder_signed}
use Rattle.mid_code.specs.State.{go_on, with_some, choose_by}
use Rattle.mid_code.specs.Meaning.{leaves, exec, exec_step, turns, levels}
use Rattle.mid_arena.specs.Steps.{hand_over, signal, domain_error, need_header, class_by_header, class_of_object, class_word}
use Rattle.mid_examples.specs.Bounds.{BoundRows}

pub bound_rows : BoundRows
unfolding low_word go_on with_some choose_by leaves exec exec_step turns levels hand_over signal domain_error need_header class_by_header class_of_object class_word high_signed shift_right_signed quotient_signed remainder_signed
bound_rows = record { frames = refl; turns = refl; costs = refl }
