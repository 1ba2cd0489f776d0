-- Which registers code names: how many an activation has, and how many words of the stack are enough for it.
use Rattle.std.specs.Prelude.{ℕ, ◌+◌, max, List, [], ◌∷◌, ◌++◌, length}
use Rattle.lang_meaning.specs.Reached.{once}
use Rattle.mid_code.specs.declared.operation.Callee.{Callee}
use Rattle.mid_code.specs.declared.operation.Callee.TheVariants.{Procedure, Word}
use Rattle.mid_code.specs.declared.operation.Operation.{Operation}
use Rattle.mid_code.specs.declared.operation.Operation.TheVariants.{Move, Constant, Compute, Load, Store, Request, Draw, Put, Get, Call}
use Rattle.mid_code.specs.MidCode.{MidStep, perform, choose, switch, repeat, with_block, lend, return_word, cut_to, halt_with, end_unhandled, MidCode, no_step, step_and, MidCodes, no_code, code_and}

abbrev pub of_callee : Callee → List ℕ
of_callee (Procedure n) = []
of_callee (Word r) = r ∷ []

abbrev pub of_operation : Operation → List ℕ
of_operation (Move to from) = to ∷ from ∷ []
of_operation (Constant to word) = to ∷ []
of_operation (Compute to how first second) = to ∷ first ∷ second ∷ []
of_operation (Load to base offset) = to ∷ base ∷ []
of_operation (Store from base offset) = from ∷ base ∷ []
of_operation (Request to words) = to ∷ words ∷ []
of_operation (Draw to base offset) = to ∷ base ∷ []
of_operation (Put from) = from ∷ []
of_operation (Get to) = to ∷ []
of_operation (Call to callee arguments) = to ∷ (of_callee callee ++ arguments)

abbrev mutual
  pub of_step : MidStep → List ℕ
  of_step (perform o) = of_operation o
  of_step (choose t first second) = t.first ∷ t.second ∷ (of_code first ++ of_code second)
  of_step (switch r codes) = r ∷ of_codes codes
  of_step (repeat counted head t body) = t.first ∷ t.second ∷ (of_code head ++ of_code body)
  of_step (with_block block words word inside landing) = block ∷ word ∷ (of_code inside ++ of_code landing)
  of_step (lend block words inside) = block ∷ words ∷ of_code inside
  of_step (return_word r) = r ∷ []
  of_step (cut_to block word) = block ∷ word ∷ []
  of_step (halt_with r) = r ∷ []
  of_step (end_unhandled class site condition) = class ∷ site ∷ condition ∷ []

  pub of_code : MidCode → List ℕ
  of_code no_step = []
  of_code (step_and s c) = of_step s ++ of_code c

  pub of_codes : MidCodes → List ℕ
  of_codes no_code = []
  of_codes (code_and c cs) = of_code c ++ of_codes cs

-- one more than the greatest of some registers
abbrev pub enough_for : List ℕ → ℕ
enough_for [] = 0
enough_for (r ∷ rs) = max (r + 1) (enough_for rs)

-- a word for each register that is named, and one for the address to which it returns
abbrev pub frame_for : List ℕ → ℕ
frame_for rs = 1 + length (once rs)
