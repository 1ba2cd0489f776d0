-- The function of a procedure.
use Rattle.std.proofs.Common.{ℕ, List, Some, refl, add-zero}
use Rattle.lang_meaning.specs.declared.program.Callee.TheVariants.{Procedure}
use Rattle.lang_meaning.specs.Recipes.{callee_recipe, initform_recipe}
use Rattle.mid_start.specs.Making.{IsWord, Makes}
use Rattle.mid_start.proofs.Joins.{makes_as}
use Rattle.mid_start.proofs.Steps.{if_ok}
use Rattle.mid_start.proofs.slots.lay_initform.Goals as goal

pub returns-in-Some-clause-made : goal.returns-in-Some-clause-made
returns-in-Some-clause-made c =
    rw c.in-Some.is
    (if_ok c.lay_function.result
    (λ w. (names : List (List ℕ)) → Makes names IsWord (callee_recipe (Procedure c.in-Some.procedure)) c.args.words.now c.lay_function.new.words w)
    (λ w. (names : List (List ℕ)) → Makes names IsWord (initform_recipe (Some c.in-Some.procedure)) c.args.words.now c.lay_function.new.words w)
    (λ w p names.
    makes_as names IsWord (callee_recipe (Procedure c.in-Some.procedure)) (initform_recipe (Some c.in-Some.procedure)) c.args.words.now c.lay_function.new.words w
    (λ n. rw (add-zero n) refl) (p names))
    c.lay_function.ensures.made)
