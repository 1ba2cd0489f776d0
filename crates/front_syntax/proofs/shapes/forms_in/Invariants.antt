-- The forms that were seen stand in front of the rest.
use Rattle.std.proofs.Common.{◌≡◌, ◌++◌, drop}
use Rattle.front_profile.specs.Shapes.{forms_in}
use Rattle.front_syntax.specs.Views.{data_of}
use Rattle.front_syntax.proofs.shapes.forms_in.Given as goal

abbrev pub invariant-loop-item : goal.invariant-loop-item
invariant-loop-item l = data_of l.forms ++ forms_in (drop l.item-index l.items) ≡ forms_in l.items
