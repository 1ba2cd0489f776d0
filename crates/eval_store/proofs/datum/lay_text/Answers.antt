-- The copy has the same bytes.
use Rattle.std.proofs.Common.{◌∙◌, subst}
use Rattle.std.specs.Prelude.{IfOk}
use Rattle.lang_meaning.specs.Objects.{string}
use Rattle.eval_store.specs.Words.{value_of_word}
use Rattle.eval_store.specs.Recipes.{IsMadeBy}
use Rattle.lang_meaning.specs.Recipes.{single}
use Rattle.eval_store.proofs.datum.lay_text.Goals as goal

pub returns : goal.returns
returns c =
    subst (λ bytes. IfOk c.add_object.result (λ w. IsMadeBy value_of_word (λ names. single (string bytes)) c.args.store.now c.add_object.new.store w)) (c.in_ok-copy.ensures ∙ c.as_slice.ensures) c.add_object.ensures
