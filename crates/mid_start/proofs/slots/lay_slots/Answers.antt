-- One more.
use Rattle.std.proofs.Common.{◌≤◌, length, [], ◌∷◌, ap, length-append, subst, arith}
use Rattle.std.proofs.lemmas.List.{take_all}
use Rattle.lang_meaning.specs.Recipes.{in_turn}
use Rattle.mid_start.specs.Recipes.{slots_recipe}
use Rattle.mid_start.specs.Making.{IsSlot, EachStandsFor, Makes}
use Rattle.mid_start.specs.Rows.{most_slots_words}
use Rattle.mid_start.proofs.Joins.{lasts_slot, lasts_each, turns_more}
use Rattle.mid_start.proofs.Steps.{room_next, within_next, within_all}
use Rattle.mid_start.proofs.SlotCounts.{counted_more}
use Rattle.mid_start.proofs.slots.lay_slots.Goals as goal

pub lay_slots_of-requires-clause-room : goal.lay_slots_of-requires-clause-room
lay_slots_of-requires-clause-room c =
    room_next most_slots_words c.args.classes.now c.loop-at.at c.in-Some.class.now c.args.words.now c.loop-at.words c.in-Some.ensures c.requires.room c.loop-at.invariant.within

pub loop-at-preserved : goal.loop-at-preserved
loop-at-preserved c = record {
  within = within_next most_slots_words c.args.classes.now c.loop-at.at c.in-Some.class.now c.args.words.now c.loop-at.words c.lay_slots_of.new.words c.in-Some.ensures c.loop-at.invariant.within
      c.in_ok-slots.ensures.within;
  many = omega (arith, ap (λ xs. length xs) c.in_ok-push.ensures.ok, length-append c.loop-at.laid (c.in_ok-slots.slots ∷ []), c.loop-at.invariant.many);
  each = λ class row ss here there.
      counted_more c.args.classes.now c.loop-at.laid c.loop-at.at c.in-Some.class.now c.in_ok-slots.slots c.push.new.self c.in-Some.ensures c.loop-at.invariant.many c.in_ok-push.ensures.ok
      c.in_ok-slots.ensures.many c.loop-at.invariant.each class row ss here there;
  made =
      turns_more c.args.names.now (EachStandsFor IsSlot) (slots_recipe c.args.names.now) c.args.classes.now c.loop-at.at c.in-Some.class.now c.args.words.now c.loop-at.words c.lay_slots_of.new.words
      c.loop-at.laid c.push.new.self c.in_ok-slots.slots (lasts_each IsSlot lasts_slot) c.in-Some.ensures c.in_ok-push.ensures.ok c.loop-at.invariant.made c.in_ok-slots.ensures.made;
}

pub returns-clause-within : goal.returns-clause-within
returns-clause-within c =
    let past : length c.args.classes.now ≤ c.loop-at.at = omega (arith, c.len-at-end.ensures) in
    within_all most_slots_words c.args.classes.now c.loop-at.at c.args.words.now c.loop-at.words past c.loop-at.invariant.within

pub returns-clause-made : goal.returns-clause-made
returns-clause-made c =
    let past : length c.args.classes.now ≤ c.loop-at.at = omega (arith, c.len-at-end.ensures) in
    subst (λ xs. Makes c.args.names.now (EachStandsFor (EachStandsFor IsSlot)) (in_turn (slots_recipe c.args.names.now) xs) c.args.words.now c.loop-at.words c.loop-at.laid)
    (take_all c.loop-at.at c.args.classes.now past) c.loop-at.invariant.made
