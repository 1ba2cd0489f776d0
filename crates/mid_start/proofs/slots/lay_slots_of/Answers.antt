-- One more.
use Rattle.std.proofs.Common.{◌≤◌, length, [], ◌∷◌, ap, length-append, subst, arith}
use Rattle.std.proofs.lemmas.List.{take_all}
use Rattle.lang_meaning.specs.Recipes.{in_turn}
use Rattle.mid_start.specs.Recipes.{slot_recipe}
use Rattle.mid_start.specs.Making.{IsSlot, EachStandsFor, Makes}
use Rattle.mid_start.specs.Rows.{most_slot_words}
use Rattle.mid_start.proofs.Joins.{lasts_slot, turns_more}
use Rattle.mid_start.proofs.Steps.{room_next, within_next, within_all}
use Rattle.mid_start.proofs.slots.lay_slots_of.Goals as goal

pub lay_slot-requires-clause-room : goal.lay_slot-requires-clause-room
lay_slot-requires-clause-room c =
    room_next most_slot_words c.args.rows.now c.loop-at.at c.in-Some.row.now c.args.words.now c.loop-at.words c.in-Some.ensures c.requires.room c.loop-at.invariant.within

pub loop-at-preserved : goal.loop-at-preserved
loop-at-preserved c = record {
  within = within_next most_slot_words c.args.rows.now c.loop-at.at c.in-Some.row.now c.args.words.now c.loop-at.words c.lay_slot.new.words c.in-Some.ensures c.loop-at.invariant.within
      c.in_ok-slot.ensures.within;
  many = omega (arith, ap (λ xs. length xs) c.in_ok-push.ensures.ok, length-append c.loop-at.laid (c.in_ok-slot.slot ∷ []), c.loop-at.invariant.many);
  made =
      turns_more c.args.names.now IsSlot (slot_recipe c.args.names.now) c.args.rows.now c.loop-at.at c.in-Some.row.now c.args.words.now c.loop-at.words c.lay_slot.new.words
      c.loop-at.laid c.push.new.self c.in_ok-slot.slot lasts_slot c.in-Some.ensures c.in_ok-push.ensures.ok c.loop-at.invariant.made c.in_ok-slot.ensures.made;
}

pub returns-clause-within : goal.returns-clause-within
returns-clause-within c =
    let past : length c.args.rows.now ≤ c.loop-at.at = omega (arith, c.len-at-end.ensures) in
    within_all most_slot_words c.args.rows.now c.loop-at.at c.args.words.now c.loop-at.words past c.loop-at.invariant.within

pub returns-clause-made : goal.returns-clause-made
returns-clause-made c =
    let past : length c.args.rows.now ≤ c.loop-at.at = omega (arith, c.len-at-end.ensures) in
    subst (λ xs. Makes c.args.names.now (EachStandsFor IsSlot) (in_turn (slot_recipe c.args.names.now) xs) c.args.words.now c.loop-at.words c.loop-at.laid)
    (take_all c.loop-at.at c.args.rows.now past) c.loop-at.invariant.made
