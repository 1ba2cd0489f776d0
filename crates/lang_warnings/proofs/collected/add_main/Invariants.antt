-- It is left to add the warnings of the rest of the forms.
use Rattle.std.proofs.Common.{drop}
use Rattle.lang_warnings.specs.Warnings.{warnings_in}
use Rattle.lang_warnings.proofs.Adding.{ToAdd}
use Rattle.lang_warnings.proofs.collected.add_main.Given as goal

abbrev pub invariant-loop-form : goal.invariant-loop-form
invariant-loop-form l =
    ToAdd (warnings_in l.known.names.now l.known.program.now) l.main (drop l.form-index l.main) l.initial.list.items l.list.items
