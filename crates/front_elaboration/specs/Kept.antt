-- What is known of what was found: what its forms mention, and what the values of its variables mention.
use Rattle.std.specs.Prelude.{List}
use Rattle.std.specs.List.{list_any}
use Rattle.lang_meaning.specs.Mentions.{mentions}
use Rattle.lang_meaning.specs.Subforms.{value_list}
use Rattle.front_profile.specs.declared.elaboration.ElaboratedPart.{ElaboratedPart}
use Rattle.front_profile.specs.Elaborations.{forms_found, bindings_found}
use Rattle.front_elaboration.specs.declared.mentioned.Mentioned.{Mentioned}
use Rattle.front_elaboration.specs.Mentioned.{AreParts}

pub record AreFoundParts (rs : List ElaboratedPart) (vs bs : Mentioned) : Type 0 where
  pub values : AreParts vs (λ p. list_any (mentions p) (forms_found rs))
  pub bindings : AreParts bs (λ p. list_any (mentions p) (value_list (bindings_found rs)))
