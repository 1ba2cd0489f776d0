-- One literal more.
use Rattle.std.proofs.Common.{◌≤◌, length, subst, arith}
use Rattle.std.proofs.lemmas.List.{take_all}
use Rattle.lang_meaning.specs.Recipes.{literal_recipe, in_turn}
use Rattle.mid_start.specs.Making.{IsWord, EachStandsFor, Makes}
use Rattle.mid_start.specs.Rows.{most_literal_words}
use Rattle.mid_start.proofs.Joins.{lasts_word, turns_more}
use Rattle.mid_start.proofs.Steps.{room_next, within_next, within_all}
use Rattle.mid_start.proofs.literals.lay_literals.Goals as goal

pub lay_literal-requires-clause-room : goal.lay_literal-requires-clause-room
lay_literal-requires-clause-room c =
    room_next most_literal_words c.args.rows.now c.loop-at.at c.in-Some.row.now c.args.words.now c.loop-at.words c.in-Some.ensures c.requires.room c.loop-at.invariant.within

pub loop-at-preserved : goal.loop-at-preserved
loop-at-preserved c = record {
  within = within_next most_literal_words c.args.rows.now c.loop-at.at c.in-Some.row.now c.args.words.now c.loop-at.words c.lay_literal.new.words c.in-Some.ensures c.loop-at.invariant.within
      c.in_ok-word.ensures.within;
  made =
      turns_more c.args.names.now IsWord (literal_recipe c.args.names.now) c.args.rows.now c.loop-at.at c.in-Some.row.now c.args.words.now c.loop-at.words c.lay_literal.new.words
      c.loop-at.laid c.push.new.self c.in_ok-word.word lasts_word c.in-Some.ensures c.in_ok-push.ensures.ok c.loop-at.invariant.made c.in_ok-word.ensures.made;
}

pub returns-clause-within : goal.returns-clause-within
returns-clause-within c =
    let past : length c.args.rows.now ≤ c.loop-at.at = omega (arith, c.len-at-end.ensures) in
    within_all most_literal_words c.args.rows.now c.loop-at.at c.args.words.now c.loop-at.words past c.loop-at.invariant.within

pub returns-clause-made : goal.returns-clause-made
returns-clause-made c =
    let past : length c.args.rows.now ≤ c.loop-at.at = omega (arith, c.len-at-end.ensures) in
    subst (λ xs. Makes c.args.names.now (EachStandsFor IsWord) (in_turn (literal_recipe c.args.names.now) xs) c.args.words.now c.loop-at.words c.loop-at.laid)
    (take_all c.loop-at.at c.args.rows.now past) c.loop-at.invariant.made
