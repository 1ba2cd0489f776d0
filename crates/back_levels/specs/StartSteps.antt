-- **What the steps of the start do**: it names one register, which has the last value's word, calls main forms, and halts.
use Rattle.std.specs.Prelude.{◌≡◌, ℕ, ◌≤◌, [], ◌∷◌, ◌++◌, List, Option, Some}
use Rattle.flat_language.specs.FlatForm.{FlatForm}
use Rattle.mid_arena.specs.Tags.{nil_word}
use Rattle.mid_code.specs.declared.program.MidProcedure.{MidProcedure}
use Rattle.mid_code.specs.Meaning.{Context, exec}
use Rattle.mid_code.specs.Meaning.{called as mid_called}
use Rattle.mid_code.specs.MidCode.{halt_with, MidCode, code_of}
use Rattle.mid_code.specs.State.{Registers, halts, MidState, ends, charged, go_on}
use Rattle.back_lowering.specs.Program.{mains_called, start}
use Rattle.back_lowering.specs.Steps.{Steps, constant, call}
use Rattle.back_relation.specs.Procedures.{called}
use Rattle.back_relation.specs.Setting.{Setting}

-- the procedure with which a run begins
abbrev pub start_of : Setting → MidProcedure
start_of setting = start setting.names setting.at setting.program

-- the code that calls main forms, the first of them by a number, and halts with the last value's word
abbrev pub mains_steps : Setting → (number : ℕ) → List FlatForm → Steps
mains_steps setting number fs = mains_called setting.names setting.at setting.program number fs ++ (halt_with 0 ∷ [])

abbrev pub mains_code : Setting → (number : ℕ) → List FlatForm → MidCode
mains_code setting number fs = code_of (mains_steps setting number fs)

pub record LawOfStartSteps (setting : Setting) : Type 0 where
  -- its frame has a word for the register, and one for the address to which nothing returns
  pub frame : (start_of setting).frame ≤ 2
  pub registers : 1 ≤ (start_of setting).registers
  pub begins :
      (c : Context) (r0 : Option ℕ) (tail : Registers) (rest : Steps) (y : MidState)
      → exec c (code_of (constant 0 nil_word ∷ rest)) (r0 ∷ tail) y ≡ exec c (code_of rest) (Some nil_word ∷ tail) (charged 6 y)
  pub calls :
      (c : Context) (regs : Registers) (number : ℕ) (rest : Steps) (y : MidState)
      → exec c (code_of (call 0 number [] ∷ rest)) regs y
      ≡ go_on (mid_called (called c number [] (charged 40 y)) 0 regs) (λ rs x. exec c (code_of rest) rs x)
  pub halted :
      (c : Context) (word : ℕ) (tail : Registers) (y : MidState)
      → exec c (code_of (halt_with 0 ∷ [])) (Some word ∷ tail) y ≡ ends (halts word) (Some word ∷ tail) (charged 6 y)
