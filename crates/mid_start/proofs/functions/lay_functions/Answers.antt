-- One function more.
use Rattle.std.proofs.Common.{◌+◌, ◌*◌, ◌≤◌, length, subst, arith}
use Rattle.std.proofs.lemmas.List.{take_all}
use Rattle.lang_meaning.specs.Recipes.{function_recipe, in_turn}
use Rattle.mid_start.specs.Making.{IsWord, EachStandsFor, Makes}
use Rattle.mid_start.proofs.Joins.{lasts_word, turns_more, within_both}
use Rattle.mid_start.proofs.functions.lay_functions.Goals as goal

pub loop-at-preserved : goal.loop-at-preserved
loop-at-preserved c = record {
  within = within_both c.args.words.now c.loop-at.words c.lay_function.new.words (2 * c.loop-at.at) 2 (2 * (c.loop-at.at + 1))
      (omega arith) c.loop-at.invariant.within c.in_ok-word.ensures.within;
  made = λ names.
      turns_more names IsWord function_recipe c.args.rows.now c.loop-at.at c.in-Some.row.now c.args.words.now c.loop-at.words c.lay_function.new.words
      c.loop-at.laid c.push.new.self c.in_ok-word.word lasts_word c.in-Some.ensures c.in_ok-push.ensures.ok (c.loop-at.invariant.made names) (c.in_ok-word.ensures.made names);
}

pub returns-clause-made : goal.returns-clause-made
returns-clause-made c names =
    let past : length c.args.rows.now ≤ c.loop-at.at = omega (arith, c.len-at-end.ensures) in
    subst (λ xs. Makes names (EachStandsFor IsWord) (in_turn function_recipe xs) c.args.words.now c.loop-at.words c.loop-at.laid) (take_all c.loop-at.at c.args.rows.now past)
    (c.loop-at.invariant.made names)
