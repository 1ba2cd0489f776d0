-- Middle code: a tree of steps, as contracts see it.
use Rattle.std.specs.Prelude.{ℕ, ◌+◌, List, [], ◌∷◌}
use Rattle.mid_code.specs.declared.operation.Counted.{Counted}
use Rattle.mid_code.specs.declared.operation.Operation.{Operation}
use Rattle.mid_code.specs.declared.operation.Test.{Test}

mutual
  pub data MidStep : Type 0 where
    perform : Operation → MidStep
    choose : Test → (first second : MidCode) → MidStep
    switch : (register : ℕ) → MidCodes → MidStep
    repeat : Counted → (head : MidCode) → Test → (body : MidCode) → MidStep
    with_block : (block words word : ℕ) → (inside landing : MidCode) → MidStep
    lend : (block words : ℕ) → (inside : MidCode) → MidStep
    return_word : ℕ → MidStep
    cut_to : (block word : ℕ) → MidStep
    halt_with : ℕ → MidStep
    end_unhandled : (class site condition : ℕ) → MidStep

  pub data MidCode : Type 0 where
    no_step : MidCode
    step_and : MidStep → MidCode → MidCode

  -- codes, by their numbers from 0
  pub data MidCodes : Type 0 where
    no_code : MidCodes
    code_and : MidCode → MidCodes → MidCodes

-- a list of steps as code
abbrev pub code_of : List MidStep → MidCode
code_of [] = no_step
code_of (s ∷ ss) = step_and s (code_of ss)

abbrev mutual
  pub step_size : MidStep → ℕ
  step_size (perform o) = 1
  step_size (choose t first second) = code_size first + code_size second + 1
  step_size (switch r codes) = codes_size codes + 2
  step_size (repeat c head t body) = code_size head + code_size body + 1
  step_size (with_block b n w inside landing) = code_size inside + code_size landing + 1
  step_size (lend b n inside) = code_size inside + 2
  step_size (return_word r) = 1
  step_size (cut_to b w) = 1
  step_size (halt_with r) = 1
  step_size (end_unhandled class site condition) = 1

  pub code_size : MidCode → ℕ
  code_size no_step = 1
  code_size (step_and s c) = step_size s + code_size c + 1

  pub codes_size : MidCodes → ℕ
  codes_size no_code = 1
  codes_size (code_and c codes) = code_size c + codes_size codes + 1
