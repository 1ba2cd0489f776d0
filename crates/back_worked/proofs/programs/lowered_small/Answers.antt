-- Each program is a lemma of its own.
use Rattle.back_worked.proofs.SmallPrograms.{leaving_halts, looping_halts, fib_halts, throwing_halts, going_halts, counting_halts, binding_halts, resting_halts}
use Rattle.back_worked.proofs.programs.lowered_small.Goals as goal

pub returns-clause-leaving : goal.returns-clause-leaving
returns-clause-leaving c = leaving_halts

pub returns-clause-looping : goal.returns-clause-looping
returns-clause-looping c = looping_halts

pub returns-clause-fib : goal.returns-clause-fib
returns-clause-fib c = fib_halts

pub returns-clause-throwing : goal.returns-clause-throwing
returns-clause-throwing c = throwing_halts

pub returns-clause-going : goal.returns-clause-going
returns-clause-going c = going_halts

pub returns-clause-counting : goal.returns-clause-counting
returns-clause-counting c = counting_halts

pub returns-clause-binding : goal.returns-clause-binding
returns-clause-binding c = binding_halts

pub returns-clause-resting : goal.returns-clause-resting
returns-clause-resting c = resting_halts
