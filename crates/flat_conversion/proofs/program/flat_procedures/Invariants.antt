-- With what is made of the rest all is made.
use Rattle.std.proofs.Common.{◌≡◌}
use Rattle.flat_language.specs.Scope.{no_scope}
use Rattle.flat_conversion.specs.Places.{scope_of}
use Rattle.flat_conversion.proofs.Going.{Going, one_procedure, procedure_inside, procedure_count, procedure_front}
use Rattle.flat_conversion.proofs.program.flat_procedures.Given as goal

abbrev pub invariant-loop-at : goal.invariant-loop-at
invariant-loop-at l = record {
  alone : scope_of l.places ≡ no_scope;
  going : Going one_procedure procedure_inside procedure_count procedure_front l.binders l.list l.initial.progress l.at l.made l.progress;
}
