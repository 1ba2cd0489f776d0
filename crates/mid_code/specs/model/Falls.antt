-- Each step inside a step is smaller than the step.
use Rattle.std.specs.Prelude.{◌+◌, ◌≤◌, max, List, [], ◌∷◌}
use Rattle.std.proofs.Common.{arith}
use denote.Param.Weighed.{most}
use Rattle.mid_code.specs.MidCode.{MidStep, step_size, code_size, codes_size, code_of}
use Rattle.mid_code.specs.model.View.{codes_of, view_step}
use Rattle.mid_code.specs.declared.code.SwitchCase.{SwitchCase}
use Rattle.mid_code.specs.declared.code.StepKind.{StepKind}
use Rattle.mid_code.specs.declared.code.StepKind.TheVariants.{Do, Choose, Switch, Repeat, WithBlock, Lend, Return, Cut, Halt, Unhandled}
use Rattle.mid_code.specs.declared.code.CodeStep.TheDeep.{deep-StepKind, deep-SwitchCase}

code_falls : (ss : List MidStep) → most (λ s. step_size s + 1) ss ≤ code_size (code_of ss)
code_falls [] = omega arith
code_falls (s ∷ ss) = omega (arith, code_falls ss)

codes_fall : (cs : List SwitchCase) → most deep-SwitchCase cs ≤ codes_size (codes_of cs)
codes_fall [] = omega arith
codes_fall (c ∷ cs) = omega (arith, code_falls c.code, codes_fall cs)

pub step_falls : (k : StepKind) → max (deep-StepKind k) 0 ≤ step_size (view_step k)
step_falls (Do operation) = omega arith
step_falls (Choose test first second) = omega (arith, code_falls first, code_falls second)
step_falls (Switch register codes) = omega (arith, codes_fall codes)
step_falls (Repeat counted head test body) = omega (arith, code_falls head, code_falls body)
step_falls (WithBlock block words word inside landing) = omega (arith, code_falls inside, code_falls landing)
step_falls (Lend block words inside) = omega (arith, code_falls inside)
step_falls (Return word) = omega arith
step_falls (Cut block word) = omega arith
step_falls (Halt word) = omega arith
step_falls (Unhandled class site condition) = omega arith
