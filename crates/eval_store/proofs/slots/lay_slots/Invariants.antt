-- The slots of the classes so far are made.
use Rattle.std.proofs.Common.{drop}
use Rattle.eval_store.specs.Recipes.{IsMaking}
use Rattle.eval_store.specs.Parts.{slots_recipe}
use Rattle.eval_store.specs.Tables.{slots_values}
use Rattle.eval_store.proofs.slots.lay_slots.Given as goal

abbrev pub invariant-loop-at : goal.invariant-loop-at
invariant-loop-at l = IsMaking slots_values slots_recipe l.fn.store l.store l.classes (drop l.at l.classes) l.slots
