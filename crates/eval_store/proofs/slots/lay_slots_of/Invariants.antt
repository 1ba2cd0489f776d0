-- The slots so far are made.
use Rattle.std.proofs.Common.{drop}
use Rattle.eval_store.specs.Recipes.{IsMaking}
use Rattle.eval_store.specs.Parts.{slot_recipe}
use Rattle.eval_store.specs.Tables.{slot_values}
use Rattle.eval_store.proofs.slots.lay_slots_of.Given as goal

abbrev pub invariant-loop-at : goal.invariant-loop-at
invariant-loop-at l = IsMaking slot_values slot_recipe l.fn.store l.store l.slots (drop l.at l.slots) l.words
