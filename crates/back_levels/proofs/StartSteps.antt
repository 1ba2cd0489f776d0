-- The start names register 0 alone, and what its steps come to.
use Rattle.std.proofs.Common.{◌≡◌, ℕ, ◌+◌, ◌≤◌, List, [], ◌∷◌, length, refl, ap, arith}
use Rattle.lang_meaning.specs.Reached.{once}
use Rattle.flat_language.specs.FlatForm.{FlatForm}
use Rattle.mid_code.specs.Meaning.{Context, exec}
use Rattle.mid_code.specs.Meaning.{called as mid_called}
use Rattle.mid_code.specs.MidCode.{code_of}
use Rattle.mid_code.specs.State.{Registers, MidState, charged, go_on, with_some}
use Rattle.back_lowering.specs.Program.{mains_from}
use Rattle.back_lowering.specs.Registers.{of_code}
use Rattle.back_lowering.specs.Steps.{Steps, call}
use Rattle.back_relation.specs.Procedures.{called}
use Rattle.back_relation.specs.Setting.{Setting}
use Rattle.back_calling.proofs.Formed.{call_comes}
use Rattle.back_levels.specs.StartSteps.{mains_code, LawOfStartSteps}

-- one register, however often it is named
one_register : (setting : Setting) (number : ℕ) (fs : List FlatForm) → length (once (0 ∷ of_code (mains_code setting number fs))) ≤ 1
one_register setting number [] = omega arith
one_register setting number (f ∷ fs) = one_register setting (number + 1) fs

-- a call, and what goes on
call_then :
    (c : Context) (regs : Registers) (number : ℕ) (rest : Steps) (y : MidState)
    → exec c (code_of (call 0 number [] ∷ rest)) regs y ≡ go_on (mid_called (called c number [] (charged 40 y)) 0 regs) (λ rs x. exec c (code_of rest) rs x)
unfolding exec
call_then c regs number rest y = ap (λ q. go_on q (λ rs x. exec c (code_of rest) rs x)) (call_comes c regs y 0 number [] [] tt)

pub start_steps_law : (setting : Setting) → LawOfStartSteps setting
unfolding exec go_on with_some
start_steps_law setting = record {
  frame =
      let one = one_register setting (mains_from setting.names setting.at setting.program) setting.program.main in
      omega (arith, one);
  registers = omega arith;
  begins = λ c r0 tail rest y. refl;
  calls = λ c regs number rest y. call_then c regs number rest y;
  halted = λ c word tail y. refl;
}
