-- It is left to see what the rest says.
use Rattle.std.proofs.Common.{◌≡◌, drop}
use Rattle.std.specs.List.{list_all}
use Rattle.front_profile.specs.ClassRows.{fits_generic}
use Rattle.front_class_definitions.specs.Functions.{view_uses}
use Rattle.front_class_definitions.proofs.classes.all_fit_generics.Given as goal

abbrev pub invariant-loop-one : goal.invariant-loop-one
invariant-loop-one l = list_all (fits_generic l.tables) (view_uses (drop l.one-index l.uses)) ≡ list_all (fits_generic l.tables) (view_uses l.uses)
