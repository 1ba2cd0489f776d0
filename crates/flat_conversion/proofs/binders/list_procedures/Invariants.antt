-- With those of the rest all are there.
use Rattle.std.proofs.Common.{◌≡◌, List, ◌++◌, drop}
use Rattle.flat_conversion.specs.declared.variables.Binder.{Binder}
use Rattle.flat_conversion.specs.Binders.{binders_of_procedures}
use Rattle.flat_conversion.proofs.binders.list_procedures.Given as goal

abbrev pub invariant-loop-at : goal.invariant-loop-at
invariant-loop-at l = (rest : List Binder) → l.made ++ binders_of_procedures (drop l.at l.list) rest ≡ l.initial.made ++ binders_of_procedures l.list rest
