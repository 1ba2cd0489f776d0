-- None of those that were seen.
use Rattle.std.proofs.Common.{◌≡◌, false, take}
use Rattle.std.specs.List.{list_any}
use Rattle.lang_meaning.specs.declared.program.Qualifier.TheVariants.{Primary}
use Rattle.lang_meaning.specs.Classes.{is_qualifier}
use Rattle.front_cells.proofs.bounds.has_primary.Given as goal

abbrev pub invariant-loop-method : goal.invariant-loop-method
invariant-loop-method l = list_any (λ m. is_qualifier Primary m.qualifier) (take l.method-index l.method-items) ≡ false
