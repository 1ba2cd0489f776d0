-- The worked programs compute.
use Rattle.std.proofs.Common.{refl}
use Rattle.base.specs.Arithmetic.{low_word}
use Rattle.mid_code.specs.State.{go_on, with_some, choose_by, with_registers, landed}
use Rattle.mid_code.specs.Meaning.{called, leaves, exec, exec_step, exec_number, turns, levels, at_top, runs}
use Rattle.mid_lines.specs.LineMeaning.{proceed, after}
use Rattle.mid_lines.specs.Worked.{PrintingLines, Printed, Called, CutAndLanded, PassedTheInner, FellOut, CutNowhere, SwitchingLines, Switched, Lent, CutToLent}

pub printing_lines : PrintingLines
printing_lines = refl

pub printed : Printed
unfolding low_word go_on with_some choose_by with_registers landed called leaves exec exec_step exec_number turns levels at_top runs proceed after
printed = refl

pub called_and_back : Called
unfolding low_word go_on with_some choose_by with_registers landed called leaves exec exec_step exec_number turns levels at_top runs proceed after
called_and_back = (refl, refl)

pub cut_and_landed : CutAndLanded
unfolding low_word go_on with_some choose_by with_registers landed called leaves exec exec_step exec_number turns levels at_top runs proceed after
cut_and_landed = (refl, refl)

pub passed_the_inner : PassedTheInner
unfolding low_word go_on with_some choose_by with_registers landed called leaves exec exec_step exec_number turns levels at_top runs proceed after
passed_the_inner = refl

pub fell_out : FellOut
unfolding low_word go_on with_some choose_by with_registers landed called leaves exec exec_step exec_number turns levels at_top runs proceed after
fell_out = refl

pub cut_nowhere : CutNowhere
unfolding low_word go_on with_some choose_by with_registers landed called leaves exec exec_step exec_number turns levels at_top runs proceed after
cut_nowhere = refl

pub switching_lines : SwitchingLines
switching_lines = refl

pub switched : Switched
unfolding low_word go_on with_some choose_by with_registers landed called leaves exec exec_step exec_number turns levels at_top runs proceed after
switched = (refl, refl)

pub lent : Lent
unfolding low_word go_on with_some choose_by with_registers landed called leaves exec exec_step exec_number turns levels at_top runs proceed after
lent = (refl, refl)

pub cut_to_lent : CutToLent
unfolding low_word go_on with_some choose_by with_registers landed called leaves exec exec_step exec_number turns levels at_top runs proceed after
cut_to_lent = refl
