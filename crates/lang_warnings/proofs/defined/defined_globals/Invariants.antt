-- It is left to list what the rest of the forms define.
use Rattle.std.proofs.Common.{[], drop}
use Rattle.lang_warnings.specs.Faults.{defined_in}
use Rattle.lang_warnings.proofs.Adding.{ToAdd}
use Rattle.lang_warnings.proofs.defined.defined_globals.Given as goal

abbrev pub invariant-loop-form : goal.invariant-loop-form
invariant-loop-form l = ToAdd defined_in l.main (drop l.form-index l.main) [] l.numbers.items
