-- The step that contracts see in a step of the code: one level of the view.
use Rattle.std.specs.Prelude.{List, [], ◌∷◌}
use Rattle.mid_code.specs.MidCode.{MidStep, perform, choose, switch, repeat, with_block, lend, return_word, cut_to, halt_with, end_unhandled, MidCodes, no_code, code_and, code_of}
use Rattle.mid_code.specs.declared.code.SwitchCase.{SwitchCase}
use Rattle.mid_code.specs.declared.code.StepKind.{StepKind}
use Rattle.mid_code.specs.declared.code.StepKind.TheVariants.{Do, Choose, Switch, Repeat, WithBlock, Lend, Return, Cut, Halt, Unhandled}

-- the codes of a switch
abbrev pub codes_of : List SwitchCase → MidCodes
codes_of [] = no_code
codes_of (c ∷ cs) = code_and (code_of c.code) (codes_of cs)

abbrev pub view_step : StepKind → MidStep
view_step (Do operation) = perform operation
view_step (Choose test first second) = choose test (code_of first) (code_of second)
view_step (Switch register codes) = switch register (codes_of codes)
view_step (Repeat counted head test body) = repeat counted (code_of head) test (code_of body)
view_step (WithBlock block words word inside landing) = with_block block words word (code_of inside) (code_of landing)
view_step (Lend block words inside) = lend block words (code_of inside)
view_step (Return word) = return_word word
view_step (Cut block word) = cut_to block word
view_step (Halt word) = halt_with word
view_step (Unhandled class site condition) = end_unhandled class site condition
